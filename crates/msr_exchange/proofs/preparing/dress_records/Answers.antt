use Rattle.std.proofs.Common.{[], Bool, Option, ◌≡◌, ◌∷◌, ◌∙◌, refl, sym, subst}
use Rattle.std.proofs.lemmas.Result.{err_from_is_err_and}
use Rattle.msr_tree.specs.Steps.{FileStored, IsReady}
use Rattle.msr_tree.specs.declared.facts.Time.{Time}
use Rattle.msr_tree.proofs.Acting.{goes_more, goes_step, then_ok, then_stopped}
use Rattle.msr_tree.proofs.Changes.{ready_stored, seen_kept}
use Rattle.msr_exchange.specs.Moves.{Anything, PreparesIf}
use Rattle.msr_exchange.specs.declared.names.Place.TheVariants.{DayPart, Note, NotePart}
use Rattle.msr_exchange.proofs.preparing.dress_records.Goals as goal

pub returns-in_err-is_dressed : goal.returns-in_err-is_dressed
returns-in_err-is_dressed g c =
    let p = err_from_is_err_and c.from_residual-in_err-is_dressed.result c.from_residual-in_err-is_dressed.ensures.1 in
    let names = c.args.names.now in
    let l = names.note ∷ names.note_part ∷ [] in
    let second = goes_more {T = Bool} [] l (Anything {T = Bool}) _ _ _ (λ n none. tt) c.in_err-is_dressed.ensures in
    rw (p.1, p.2) (then_stopped {A = Option Time} {B = Bool} {C = Bool} l (Anything {T = Option Time}) _ (PreparesIf names.day_part names.day_part) c.in_ok-time.time _ _ _ _ c.in_ok-time.ensures second)

pub returns-then-not-branch : goal.returns-then-not-branch
returns-then-not-branch g c =
    let names = c.args.names.now in
    let l = names.note ∷ names.note_part ∷ [] in
    let second = goes_more {T = Bool} [] l (Anything {T = Bool}) _ _ _ (λ n none. tt) c.in_ok-is_dressed.ensures in
    then_ok {A = Option Time} {B = Bool} {C = Bool} l (Anything {T = Option Time}) _ (PreparesIf names.day_part names.day_part) c.in_ok-time.time c.in_ok-is_dressed.field-0 _ _ _ _ (λ p q r one two x y. λ is. cc) c.in_ok-time.ensures second

pub returns-in_err-store_file : goal.returns-in_err-store_file
returns-in_err-store_file g c =
    let p = err_from_is_err_and c.from_residual-in_err-store_file.result c.from_residual-in_err-store_file.ensures.1 in
    let names = c.args.names.now in
    let l = names.note ∷ names.note_part ∷ [] in
    let second = goes_more {T = Bool} [] l (Anything {T = Bool}) _ _ _ (λ n none. tt) c.in_ok-is_dressed.ensures in
    let so_far = then_ok {A = Option Time} {B = Bool} {C = Bool} l (Anything {T = Option Time}) _ (Anything {T = Bool}) c.in_ok-time.time c.in_ok-is_dressed.field-0 c.in_ok-is_dressed.field-0 _ _ _ (λ p q r a b x y. tt) c.in_ok-time.ensures second in
    let same : FileStored c.at.result.now ≡ FileStored names.day_part = rw c.at.ensures refl in
    let third = goes_step {T = Unit {0}} l _ (FileStored names.day_part) _ _ _ same (λ n none. refl) c.in_err-store_file.ensures in
    rw (p.1, p.2) (then_stopped {A = Bool} {B = Unit {0}} {C = Bool} l _ _ (PreparesIf names.day_part names.day_part) _ _ _ _ _ so_far third)

pub returns : goal.returns
returns g c =
    let names = c.args.names.now in
    let l = names.note ∷ names.note_part ∷ [] in
    let second = goes_more {T = Bool} [] l (Anything {T = Bool}) _ _ _ (λ n none. tt) c.in_ok-is_dressed.ensures in
    let so_far = then_ok {A = Option Time} {B = Bool} {C = Bool} l (Anything {T = Option Time}) _ (Anything {T = Bool}) c.in_ok-time.time c.in_ok-is_dressed.field-0 c.in_ok-is_dressed.field-0 _ _ _ (λ p q r a b x y. tt) c.in_ok-time.ensures second in
    let same : FileStored c.at.result.now ≡ FileStored names.day_part = rw c.at.ensures refl in
    let third = goes_step {T = Unit {0}} l _ (FileStored names.day_part) _ _ _ same (λ n none. refl) c.in_ok-store_file.ensures in
    then_ok {A = Bool} {B = Unit {0}} {C = Bool} l _ _ (PreparesIf names.day_part names.day_part) _ _ _ _ _ _
    (λ p q r any stored x y. λ is bytes had. subst (λ s. IsReady names.day_part bytes s) (sym stored) (ready_stored names.day_part bytes q (seen_kept l names.day_part p q (c.requires.apart DayPart Note refl, (c.requires.apart DayPart NotePart refl, tt)) x ∙ had))) so_far third
