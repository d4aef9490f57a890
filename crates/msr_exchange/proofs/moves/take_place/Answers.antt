use Rattle.std.proofs.Common.{◌≡◌, refl}
use Rattle.std.proofs.lemmas.Result.{err_from_is_err_and}
use Rattle.msr_tree.specs.Steps.{FolderStored, Renamed}
use Rattle.msr_exchange.specs.declared.names.Place.TheVariants.{Day}
use Rattle.msr_exchange.proofs.Moved.{took_place, took_stopped}
use Rattle.msr_exchange.proofs.moves.take_place.Goals as goal

pub returns-in_err-rename : goal.returns-in_err-rename
returns-in_err-rename g c =
    let p = err_from_is_err_and c.from_residual.result c.from_residual.ensures.1 in
    let names = c.args.names.now in
    let same : Renamed c.at.result.now c.at-2.result.now ≡ Renamed names.day_part names.day = rw (c.at.ensures, c.at-2.ensures) refl in
    rw (p.1, p.2) (took_stopped names.day_part names.day {T = Unit {0}} _ _ _ same c.in_err-rename.ensures)

pub returns : goal.returns
returns g c =
    let names = c.args.names.now in
    let same : Renamed c.at.result.now c.at-2.result.now ≡ Renamed names.day_part names.day = rw (c.at.ensures, c.at-2.ensures) refl in
    let stored : FolderStored c.folder.result.now ≡ FolderStored names.root = rw c.folder.ensures refl in
    took_place {T = Unit {0}} names.day_part names.day names.root _ _ _ _ same stored _ (c.requires.inside Day) c.in_ok-rename.ensures c.store_folder.ensures
