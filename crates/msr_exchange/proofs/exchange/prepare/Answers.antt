use Rattle.std.proofs.Common.{[], Some, ◌∷◌, refl}
use Rattle.std.proofs.lemmas.Result.{err_from_is_err_and}
use Rattle.msr_tree.proofs.Changes.{leaves_kept}
use Rattle.msr_exchange.specs.Moves.{PreparesIfNone}
use Rattle.msr_exchange.specs.Phases.{AreHome, IsAside, IsPrepared}
use Rattle.msr_exchange.proofs.Phases.{home_moments, is_seen, keeps_stopped, keeps_then}
use Rattle.msr_exchange.specs.declared.told.GivenUp.{GivenUp}
use Rattle.msr_exchange.specs.declared.names.Place.TheVariants.{Day, DayPart, Note, NotePart, Original, Records}
use Rattle.msr_exchange.proofs.exchange.prepare.Goals as goal

pub returns-in_err-given_up : goal.returns-in_err-given_up
returns-in_err-given_up g c =
    let p = err_from_is_err_and c.from_residual.result c.from_residual.ensures.1 in
    let names = c.args.names.now in
    let l = names.day_part ∷ names.note ∷ names.note_part ∷ [] in
    rw (p.1, p.2) (keeps_stopped names Original Records l (IsAside names Original Records) (λ n none. (none.1.0, (none.1.1.1.1.1.1.0, (none.1.1.1.1.1.1.1.0, tt))))
    (λ a b p q aside ch. home_moments names Original Records l a b p q (c.requires.apart Day DayPart refl, (c.requires.apart Day Note refl, (c.requires.apart Day NotePart refl, tt))) (c.requires.apart Records DayPart refl, (c.requires.apart Records Note refl, (c.requires.apart Records NotePart refl, tt))) aside.home ch)
    (PreparesIfNone names.records names.day_part {R = GivenUp}) _ _ _ c.in_err-given_up.ensures)

pub returns-in-Some : goal.returns-in-Some
returns-in-Some g c =
    let names = c.args.names.now in
    let l = names.day_part ∷ names.note ∷ names.note_part ∷ [] in
    keeps_then names Original Records l (IsAside names Original Records) (λ n none. (none.1.0, (none.1.1.1.1.1.1.0, (none.1.1.1.1.1.1.1.0, tt))))
    (λ a b p q aside ch. home_moments names Original Records l a b p q (c.requires.apart Day DayPart refl, (c.requires.apart Day Note refl, (c.requires.apart Day NotePart refl, tt))) (c.requires.apart Records DayPart refl, (c.requires.apart Records Note refl, (c.requires.apart Records NotePart refl, tt))) aside.home ch)
    (PreparesIfNone names.records names.day_part {R = GivenUp}) (AreHome names Original Records) _ _ _ _ _
    (λ a b p q aside did ch. record {
      day = leaves_kept l names.day (Some a) p q (c.requires.apart Day DayPart refl, (c.requires.apart Day Note refl, (c.requires.apart Day NotePart refl, tt))) ch aside.home.day;
      comes = leaves_kept l names.records (Some b) p q (c.requires.apart Records DayPart refl, (c.requires.apart Records Note refl, (c.requires.apart Records NotePart refl, tt))) ch aside.home.comes;
    }) c.in_ok-given_up.ensures c.give_up.ensures

pub returns-in-None : goal.returns-in-None
returns-in-None g c =
    let names = c.args.names.now in
    let l = names.day_part ∷ names.note ∷ names.note_part ∷ [] in
    keeps_then names Original Records l (IsAside names Original Records) (λ n none. (none.1.0, (none.1.1.1.1.1.1.0, (none.1.1.1.1.1.1.1.0, tt))))
    (λ a b p q aside ch. home_moments names Original Records l a b p q (c.requires.apart Day DayPart refl, (c.requires.apart Day Note refl, (c.requires.apart Day NotePart refl, tt))) (c.requires.apart Records DayPart refl, (c.requires.apart Records Note refl, (c.requires.apart Records NotePart refl, tt))) aside.home ch)
    (PreparesIfNone names.records names.day_part {R = GivenUp}) (IsPrepared names Original Records) c.in_ok-given_up.field-0 _ _ _ _
    (λ a b p q aside prepares ch. record {
      aside = record {
        home = record {
          day = leaves_kept l names.day (Some a) p q (c.requires.apart Day DayPart refl, (c.requires.apart Day Note refl, (c.requires.apart Day NotePart refl, tt))) ch aside.home.day;
          comes = leaves_kept l names.records (Some b) p q (c.requires.apart Records DayPart refl, (c.requires.apart Records Note refl, (c.requires.apart Records NotePart refl, tt))) ch aside.home.comes;
        };
        waits = leaves_kept l names.original (Some a) p q (c.requires.apart Original DayPart refl, (c.requires.apart Original Note refl, (c.requires.apart Original NotePart refl, tt))) ch aside.waits;
      };
      ready = prepares c.in-None.is b (is_seen names Original Records p names.records (Some b) aside.home.comes);
    }) c.in_ok-given_up.ensures c.take.ensures
