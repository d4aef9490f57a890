use Rattle.std.proofs.Common.{[], ◌≡◌, ◌∷◌, refl}
use Rattle.std.proofs.lemmas.Result.{err_from_is_err_and}
use Rattle.msr_tree.specs.Steps.{FileStored, FolderStored, Renamed}
use Rattle.msr_tree.proofs.Acting.{goes_step, stopped_as, then_given, then_ok, then_stopped, within_renamed}
use Rattle.msr_exchange.specs.Moves.{Anything}
use Rattle.msr_exchange.proofs.preparing.name_note.Goals as goal

pub returns-in_err-store_file : goal.returns-in_err-store_file
returns-in_err-store_file g c =
    let p = err_from_is_err_and c.from_residual.result c.from_residual.ensures.1 in
    let names = c.args.names.now in
    let l = names.note ∷ names.note_part ∷ [] in
    let same : FileStored c.at.result.now ≡ FileStored names.note_part = rw c.at.ensures refl in
    rw (p.1, p.2) (stopped_as {A = Unit {0}} {B = Unit {0}} l _ (Anything {T = Unit {0}}) _ _ _ (goes_step {T = Unit {0}} l _ (FileStored names.note_part) _ _ _ same (λ n none. refl) c.in_err-store_file.ensures))

pub returns-in_err-rename : goal.returns-in_err-rename
returns-in_err-rename g c =
    let p = err_from_is_err_and c.from_residual-in_err-rename.result c.from_residual-in_err-rename.ensures.1 in
    let names = c.args.names.now in
    let l = names.note ∷ names.note_part ∷ [] in
    let same : FileStored c.at.result.now ≡ FileStored names.note_part = rw c.at.ensures refl in
    let first = goes_step {T = Unit {0}} l _ (FileStored names.note_part) _ _ _ same (λ n none. refl) c.in_ok-store_file.ensures in
    let named : Renamed c.at-2.result.now c.at-3.result.now ≡ Renamed names.note_part names.note = rw (c.at-2.ensures, c.at-3.ensures) refl in
    let second = goes_step {T = Unit {0}} l _ (Renamed names.note_part names.note) _ _ _ named (within_renamed names.note_part names.note) c.in_err-rename.ensures in
    rw (p.1, p.2) (then_stopped {A = Unit {0}} {B = Unit {0}} {C = Unit {0}} l _ _ (Anything {T = Unit {0}}) _ _ _ _ _ first second)

pub returns : goal.returns
returns g c =
    let names = c.args.names.now in
    let l = names.note ∷ names.note_part ∷ [] in
    let same : FileStored c.at.result.now ≡ FileStored names.note_part = rw c.at.ensures refl in
    let first = goes_step {T = Unit {0}} l _ (FileStored names.note_part) _ _ _ same (λ n none. refl) c.in_ok-store_file.ensures in
    let named : Renamed c.at-2.result.now c.at-3.result.now ≡ Renamed names.note_part names.note = rw (c.at-2.ensures, c.at-3.ensures) refl in
    let second = goes_step {T = Unit {0}} l _ (Renamed names.note_part names.note) _ _ _ named (within_renamed names.note_part names.note) c.in_ok-rename.ensures in
    let both = then_ok {A = Unit {0}} {B = Unit {0}} {C = Unit {0}} l _ _ (Anything {T = Unit {0}}) _ _ tt _ _ _ (λ p q r a b x y. tt) first second in
    let stored : FolderStored c.folder.result.now ≡ FolderStored names.aside = rw c.folder.ensures refl in
    let third = goes_step {T = Unit {0}} l _ (FolderStored names.aside) _ _ _ stored (λ n none. refl) c.store_folder.ensures in
    then_given {A = Unit {0}} {B = Unit {0}} l (Anything {T = Unit {0}}) _ (Anything {T = Unit {0}}) tt _ _ _ _ (λ p q r b one two x y. tt) both third
