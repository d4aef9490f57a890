use Rattle.std.proofs.Common.{true, string_bytes}
use Rattle.std.proofs.lemmas.Result.{err_from_is_err_and}
use Rattle.msr_tree.proofs.Deeds.{folder_made, folder_stops, known}
use Rattle.msr_tree.proofs.memory.tree.MemoryTreeTree.make_folders.Goals as goal

pub returns-in_err-does : goal.returns-in_err-does
returns-in_err-does c =
    let p = err_from_is_err_and c.from_residual-in_err-does.result c.from_residual-in_err-does.ensures.1 in
    rw (p.1, p.2) (known _ _ _ (folder_stops (string_bytes c.in_ok-own.field-0) _ _ _ c.in_err-does.ensures))

pub returns : goal.returns
returns c = known _ _ _ (folder_made (string_bytes c.in_ok-own.field-0) _ _ true c.in_ok-does.ensures)
