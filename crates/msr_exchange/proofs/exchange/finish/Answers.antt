use Rattle.std.proofs.Common.{[], Bool, Some, ◌≡◌, ◌∷◌, refl}
use Rattle.std.proofs.lemmas.Result.{err_from_is_err_and}
use Rattle.msr_tree.specs.Steps.{Removed}
use Rattle.msr_tree.proofs.Acting.{giving, goes_more, goes_step, then_ok, then_stopped}
use Rattle.msr_tree.proofs.Changes.{leaves_kept}
use Rattle.msr_exchange.specs.Moves.{Anything}
use Rattle.msr_exchange.specs.Phases.{HavePlaces}
use Rattle.msr_exchange.proofs.Phases.{keeps_end, keeps_stopped, keeps_then, places_moments}
use Rattle.msr_exchange.specs.declared.told.Told.TheVariants as told
use Rattle.msr_exchange.specs.declared.names.Place.TheVariants.{Day, Original, Records}
use Rattle.msr_exchange.proofs.exchange.finish.Goals as goal

pub returns-in_err-was_written : goal.returns-in_err-was_written
returns-in_err-was_written g c =
    let p = err_from_is_err_and c.from_residual.result c.from_residual.ensures.1 in
    let names = c.args.names.now in
    rw (p.1, p.2) (keeps_stopped names Original Records [] (HavePlaces names Original Records) (λ n none. tt)
    (λ a b p q places ch. places_moments names Original Records [] a b p q tt tt places ch) (Anything {T = Bool}) _ _ _ c.in_err-was_written.ensures)

pub returns-then-branch : goal.returns-then-branch
returns-then-branch g c =
    let names = c.args.names.now in
    keeps_then names Original Records [] (HavePlaces names Original Records) (λ n none. tt)
    (λ a b p q places ch. places_moments names Original Records [] a b p q tt tt places ch) (Anything {T = Bool}) (HavePlaces names Original Records) _ _ _ _ _
    (λ a b p q places did ch. record {
      day = leaves_kept [] names.day (Some b) p q tt ch places.day;
      waits = leaves_kept [] names.original (Some a) p q tt ch places.waits;
      comes = leaves_kept [] names.records (Some b) p q tt ch places.comes;
    }) c.in_ok-was_written.ensures c.put_back.ensures

pub returns-in_err-remove : goal.returns-in_err-remove
returns-in_err-remove g c =
    let p = err_from_is_err_and c.from_residual-in_err-remove.result c.from_residual-in_err-remove.ensures.1 in
    let names = c.args.names.now in
    let l = names.records ∷ [] in
    let same : Removed c.at.result.now ≡ Removed names.records = rw c.at.ensures refl in
    let first = goes_more {T = Bool} [] l (Anything {T = Bool}) _ _ _ (λ n none. tt) c.in_ok-was_written.ensures in
    let second = goes_step {T = Unit {0}} l _ (Removed names.records) _ _ _ same (λ n none. none.0) c.in_err-remove.ensures in
    let both = then_stopped {A = Bool} {B = Unit {0}} {C = Unit {0}} l _ _ (Anything {T = Unit {0}}) c.in_ok-was_written.field-0 _ _ _ _ first second in
    rw (p.1, p.2) (keeps_stopped names Original Records l (HavePlaces names Original Records) (λ n none. (none.1.1.1.1.0, tt))
    (λ a b p q places ch. places_moments names Original Records l a b p q (c.requires.apart Day Records refl, tt) (c.requires.apart Original Records refl, tt) places ch) (Anything {T = Unit {0}}) _ _ _ both)

pub returns : goal.returns
returns g c =
    let names = c.args.names.now in
    let l = names.records ∷ [] in
    let same : Removed c.at.result.now ≡ Removed names.records = rw c.at.ensures refl in
    let first = goes_more {T = Bool} [] l (Anything {T = Bool}) _ _ _ (λ n none. tt) c.in_ok-was_written.ensures in
    let second = goes_step {T = Unit {0}} l _ (Removed names.records) _ _ _ same (λ n none. none.0) c.in_ok-remove.ensures in
    let both = then_ok {A = Bool} {B = Unit {0}} {C = Unit {0}} l _ _ (Anything {T = Unit {0}}) c.in_ok-was_written.field-0 _ tt _ _ _ (λ p q r one two x y. tt) first second in
    keeps_end names Original Records l (HavePlaces names Original Records) (λ n none. (none.1.1.1.1.0, tt))
    (λ a b p q places ch. places_moments names Original Records l a b p q (c.requires.apart Day Records refl, tt) (c.requires.apart Original Records refl, tt) places ch) (Anything {T = Unit {0}}) (giving tt) (giving told.Done) _ _ (λ is. cc)
    (λ a b p q places did ch. record {
      done = λ is. record {
        day = leaves_kept l names.day (Some b) p q (c.requires.apart Day Records refl, tt) ch places.day;
        waits = leaves_kept l names.original (Some a) p q (c.requires.apart Original Records refl, tt) ch places.waits;
      };
      same = λ is. cc;
    }) both
