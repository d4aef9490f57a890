use Rattle.std.proofs.Common.{[], Some, ◌∷◌, refl}
use Rattle.std.proofs.lemmas.Result.{err_from_is_err_and}
use Rattle.msr_tree.proofs.Changes.{leaves_kept}
use Rattle.msr_exchange.specs.Moves.{PreparesIfNone}
use Rattle.msr_exchange.specs.Phases.{IsAside, IsPrepared}
use Rattle.msr_exchange.proofs.Phases.{home_moments, is_seen, keeps_end, keeps_stopped, keeps_then, says_nothing}
use Rattle.msr_exchange.specs.declared.names.Place.TheVariants.{Day, DayPart, Original, Records}
use Rattle.msr_tree.proofs.Acting.{giving}
use Rattle.msr_exchange.specs.declared.told.Told.TheVariants as told
use Rattle.msr_exchange.specs.declared.moves.Hindrance.{Hindrance}
use Rattle.msr_exchange.proofs.restore.prepare.Goals as goal

pub returns-in_err-hindrance : goal.returns-in_err-hindrance
returns-in_err-hindrance g c =
    let p = err_from_is_err_and c.from_residual.result c.from_residual.ensures.1 in
    let names = c.args.names.now in
    let l = names.day_part ∷ [] in
    rw (p.1, p.2) (keeps_stopped names Records Original l (IsAside names Records Original) (λ n none. (none.1.0, tt))
    (λ a b p q aside ch. home_moments names Records Original l a b p q (c.requires.apart Day DayPart refl, tt) (c.requires.apart Original DayPart refl, tt) aside.home ch)
    (PreparesIfNone names.original names.day_part {R = Hindrance}) _ _ _ c.in_err-hindrance.ensures)

pub returns-in-Some : goal.returns-in-Some
returns-in-Some g c =
    let names = c.args.names.now in
    let l = names.day_part ∷ [] in
    keeps_end names Records Original l (IsAside names Records Original) (λ n none. (none.1.0, tt))
    (λ a b p q aside ch. home_moments names Records Original l a b p q (c.requires.apart Day DayPart refl, tt) (c.requires.apart Original DayPart refl, tt) aside.home ch)
    (PreparesIfNone names.original names.day_part {R = Hindrance}) _ (giving (told.Refused _)) _ _ (λ is. cc)
    (λ a b p q aside did ch. says_nothing names Records a b q (told.Refused _) (λ is. cc) (λ is. cc)) c.in_ok-hindrance.ensures

pub returns-in-None : goal.returns-in-None
returns-in-None g c =
    let names = c.args.names.now in
    let l = names.day_part ∷ [] in
    keeps_then names Records Original l (IsAside names Records Original) (λ n none. (none.1.0, tt))
    (λ a b p q aside ch. home_moments names Records Original l a b p q (c.requires.apart Day DayPart refl, tt) (c.requires.apart Original DayPart refl, tt) aside.home ch)
    (PreparesIfNone names.original names.day_part {R = Hindrance}) (IsPrepared names Records Original) c.in_ok-hindrance.field-0 _ _ _ _
    (λ a b p q aside prepares ch. record {
      aside = record {
        home = record {
          day = leaves_kept l names.day (Some a) p q (c.requires.apart Day DayPart refl, tt) ch aside.home.day;
          comes = leaves_kept l names.original (Some b) p q (c.requires.apart Original DayPart refl, tt) ch aside.home.comes;
        };
        waits = leaves_kept l names.records (Some a) p q (c.requires.apart Records DayPart refl, tt) ch aside.waits;
      };
      ready = prepares c.in-None.is b (is_seen names Records Original p names.original (Some b) aside.home.comes);
    }) c.in_ok-hindrance.ensures c.take.ensures
