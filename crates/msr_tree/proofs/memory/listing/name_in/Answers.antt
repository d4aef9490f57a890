use Rattle.std.proofs.Common.{rules, ◌≡◌, true, false, ◌<◌, ◌∙◌, length, sym, ap, arith}
use Rattle.std.proofs.lemmas.Grind.{common_steps}
use Rattle.std.proofs.lemmas.Slice.Eq.{bytes_eq-Decides}
use Rattle.std.specs.Str.{bytes_eq}
use Rattle.msr_tree.specs.Listing.{path_in}
use Rattle.msr_tree.proofs.PathLemmas.{is_cut, no_cut, one_cut}
use Rattle.msr_tree.proofs.memory.listing.name_in.Goals.{else-eq-via-then-eq+else-not-is_empty, else-eq-via-else-eq}
use Rattle.msr_tree.proofs.memory.listing.name_in.Goals as goal

pub returns-in_err-above-clause-all : goal.returns-in_err-above-clause-all
returns-in_err-above-clause-all c =
    λ name proper is. absurd (no_cut c.args.path.now c.args.folder.now name c.in_err-above.ensures.cases is)

pub returns-then-not-is_empty-clause-only : goal.returns-then-not-is_empty-clause-only
returns-then-not-is_empty-clause-only c =
    let cut = is_cut c.args.path.now c.in_ok-above.above.now c.in_ok-above.name.now c.in_ok-above.ensures.cases in
    let same : c.in_ok-above.above.now ≡ c.args.folder.now = search rules in
    let some : 0 < length c.in_ok-above.name.now = grind (arith, common_steps, c.is_empty.ensures, c.if-not-is_empty.true) in
    (record { some = some; plain = cut.plain }, cut.whole ∙ ap (λ f. path_in f c.in_ok-above.name.now) same)

pub returns-else-eq-clause-all : goal.returns-else-eq-clause-all
returns-else-eq-clause-all c = λ name proper is.
    let cut = is_cut c.args.path.now c.in_ok-above.above.now c.in_ok-above.name.now c.in_ok-above.ensures.cases in
    let both = one_cut c.in_ok-above.above.now c.in_ok-above.name.now c.args.folder.now name cut.plain proper.plain (sym cut.whole ∙ is) in
    let folder : c.in_ok-above.above.now ≡ c.args.folder.now = both.0 in
    let some : 0 < length name = proper.some in
    let here : c.in_ok-above.name.now ≡ name = both.1 in
    elim c.else-eq.branch [
      | else-eq-via-then-eq+else-not-is_empty w ↦ absurd (grind (arith, common_steps, w.is_empty.ensures, w.if-not-is_empty.false, some, here))
      | else-eq-via-else-eq w ↦
          let yes : bytes_eq c.in_ok-above.above.now c.args.folder.now ≡ true = (bytes_eq-Decides c.in_ok-above.above.now c.args.folder.now).1 folder in
          let not : bytes_eq c.in_ok-above.above.now c.args.folder.now ≡ false = search rules in
          absurd cc
    ]
