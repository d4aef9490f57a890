use Rattle.std.proofs.Common.{rules}
use Rattle.msr_tree.proofs.FolderLemmas.{folder_from_rsplit}
use Rattle.msr_tree.proofs.paths.folder_above.Goals as goal

pub returns-in-Some : goal.returns-in-Some
returns-in-Some c =
    let folder = folder_from_rsplit c.args.path.now _ c.rsplit_once.ensures.cases in
    rw (← folder) (grind rules)

pub returns-in-None : goal.returns-in-None
returns-in-None c =
    let folder = folder_from_rsplit c.args.path.now _ c.rsplit_once.ensures.cases in
    rw (← folder) (grind rules)
