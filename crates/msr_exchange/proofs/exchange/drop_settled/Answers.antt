use Rattle.std.proofs.Common.{[], Option, Some, ◌≡◌, ◌∷◌, refl}
use Rattle.std.proofs.lemmas.Result.{err_from_is_err_and}
use Rattle.msr_tree.specs.declared.facts.Facts.{Facts}
use Rattle.msr_tree.specs.Calls.{Looks}
use Rattle.msr_tree.specs.Steps.{Removed}
use Rattle.msr_tree.proofs.Acting.{giving, goes_step, goes_tells, then_ok, then_stopped}
use Rattle.msr_tree.proofs.Changes.{leaves_kept}
use Rattle.msr_exchange.specs.Moves.{Anything}
use Rattle.msr_exchange.specs.Phases.{IsInPlace}
use Rattle.msr_exchange.proofs.Alone.{all_end, all_stopped}
use Rattle.msr_exchange.proofs.Phases.{in_place_moments}
use Rattle.msr_exchange.specs.declared.told.Told.TheVariants as told
use Rattle.msr_exchange.specs.declared.names.Place.TheVariants.{Day, Original, Records}
use Rattle.msr_exchange.proofs.exchange.drop_settled.Goals as goal

pub returns-in_err-look : goal.returns-in_err-look
returns-in_err-look g c =
    let p = err_from_is_err_and c.from_residual.result c.from_residual.ensures.1 in
    let names = c.args.names.now in
    rw (p.1, p.2) (all_stopped names Original Records [] (IsInPlace names Original Records) (λ n none. tt)
    (λ a b p q place ch. in_place_moments names Original Records [] a b p q tt tt place ch) tt tt _ _ _ _ (goes_tells {T = Option Facts} [] (Looks c.at.result.now) _ _ _ c.in_err-look.ensures))

pub returns-in_err-remove : goal.returns-in_err-remove
returns-in_err-remove g c =
    let p = err_from_is_err_and c.from_residual-in_err-remove.result c.from_residual-in_err-remove.ensures.1 in
    let names = c.args.names.now in
    let l = names.records ∷ [] in
    let same : Removed c.at-then-is_some.result.now ≡ Removed names.records = rw c.at-then-is_some.ensures refl in
    let first = goes_tells {T = Option Facts} l (Looks c.at.result.now) _ _ _ c.in_ok-look.ensures in
    let second = goes_step {T = Unit {0}} l _ (Removed names.records) _ _ _ same (λ n none. none.0) c.in_err-remove.ensures in
    let both = then_stopped {A = Option Facts} {B = Unit {0}} {C = Unit {0}} l _ _ (Anything {T = Unit {0}}) c.in_ok-look.field-0 _ _ _ _ first second in
    rw (p.1, p.2) (all_stopped names Original Records l (IsInPlace names Original Records) (λ n none. (none.1.1.1.1.0, tt))
    (λ a b p q place ch. in_place_moments names Original Records l a b p q (c.requires.apart Day Records refl, tt) (c.requires.apart Original Records refl, tt) place ch) (c.requires.apart Day Records refl, tt) (c.requires.apart Original Records refl, tt) (Anything {T = Unit {0}}) _ _ _ both)

pub returns-in_ok-remove : goal.returns-in_ok-remove
returns-in_ok-remove g c =
    let names = c.args.names.now in
    let l = names.records ∷ [] in
    let same : Removed c.at-then-is_some.result.now ≡ Removed names.records = rw c.at-then-is_some.ensures refl in
    let first = goes_tells {T = Option Facts} l (Looks c.at.result.now) _ _ _ c.in_ok-look.ensures in
    let second = goes_step {T = Unit {0}} l _ (Removed names.records) _ _ _ same (λ n none. none.0) c.in_ok-remove.ensures in
    let both = then_ok {A = Option Facts} {B = Unit {0}} {C = Unit {0}} l _ _ (Anything {T = Unit {0}}) c.in_ok-look.field-0 _ tt _ _ _ (λ p q r one two x y. tt) first second in
    all_end names Original Records l (IsInPlace names Original Records) (λ n none. (none.1.1.1.1.0, tt))
    (λ a b p q place ch. in_place_moments names Original Records l a b p q (c.requires.apart Day Records refl, tt) (c.requires.apart Original Records refl, tt) place ch) (c.requires.apart Day Records refl, tt) (c.requires.apart Original Records refl, tt) (Anything {T = Unit {0}}) (giving tt) (giving told.Same) _ _ (λ is. cc)
    (λ a b p q place did ch. record { done = λ is. cc; same = λ is. leaves_kept l names.day (Some b) p q (c.requires.apart Day Records refl, tt) ch place.day }) both

pub returns-else-is_some : goal.returns-else-is_some
returns-else-is_some g c =
    let names = c.args.names.now in
    all_end names Original Records [] (IsInPlace names Original Records) (λ n none. tt)
    (λ a b p q place ch. in_place_moments names Original Records [] a b p q tt tt place ch) tt tt _ (giving c.in_ok-look.field-0) (giving told.Same) _ _ (λ is. cc)
    (λ a b p q place did ch. record { done = λ is. cc; same = λ is. leaves_kept [] names.day (Some b) p q tt ch place.day }) (goes_tells {T = Option Facts} [] (Looks c.at.result.now) _ _ _ c.in_ok-look.ensures)
