use Rattle.std.proofs.Common.{arith}
use Rattle.std.proofs.lemmas.List.Splits.{length-slice_split}
use Rattle.msr_sds.specs.Folders.{is_slash}
use Rattle.msr_sds.proofs.folders.levels_below.Goals.{else-slashes-via-then-slashes+else-has_names, else-slashes-via-else-slashes}
use Rattle.msr_sds.proofs.folders.levels_below.Goals as goal

pub returns-then-has_names : goal.returns-then-has_names
returns-then-has_names c =
    let names = length-slice_split is_slash c.args.folder.now in
    ((c.has_names.ensures.0 c.if-has_names.true, omega arith), omega arith)

pub returns-else-slashes : goal.returns-else-slashes
returns-else-slashes c =
    let names = length-slice_split is_slash c.args.folder.now in
    λ folder. elim c.else-slashes.branch [
      | else-slashes-via-then-slashes+else-has_names w ↦
          (let yes = w.has_names.ensures.1 folder.0 in let no = w.if-has_names.false in absurd cc)
      | else-slashes-via-else-slashes w ↦ (let few = folder.1 in absurd (omega arith))
    ]
