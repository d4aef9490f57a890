use Rattle.std.proofs.Common.{[], Bool, Option, ◌∷◌}
use Rattle.msr_tree.proofs.Acting.{goes_more, then_given}
use Rattle.msr_exchange.specs.Moves.{PreparesIfNone, ShowsIf}
use Rattle.msr_exchange.specs.declared.told.GivenUp.{GivenUp}
use Rattle.msr_exchange.proofs.preparing.prepare_records.Goals as goal

pub returns : goal.returns
returns g c =
    let names = c.args.names.now in
    let l = names.day_part ∷ names.note ∷ names.note_part ∷ [] in
    let first = goes_more {T = Bool} (names.day_part ∷ []) l (ShowsIf names.records names.day_part) _ _ _ (λ n none. (none.0, tt)) c.in_ok-copy_records.ensures in
    let second = goes_more {T = Option GivenUp} (names.note ∷ names.note_part ∷ []) l (PreparesIfNone names.day_part names.day_part) _ _ _ (λ n none. none.1) c.dress_checked.ensures in
    then_given {A = Bool} {B = Option GivenUp} l (ShowsIf names.records names.day_part) (PreparesIfNone names.day_part names.day_part) (PreparesIfNone names.records names.day_part) c.in_ok-copy_records.field-0 _ _ _ _
    (λ p q r b shows prepares x y. λ none bytes is. prepares none bytes (shows c.if-not-branch.false bytes is)) first second
