use Rattle.std.proofs.Common.{[], Some, ◌∷◌, refl}
use Rattle.std.proofs.lemmas.Result.{err_from_is_err_and}
use Rattle.msr_tree.proofs.Acting.{giving}
use Rattle.msr_tree.proofs.Changes.{leaves_kept}
use Rattle.msr_exchange.specs.Phases.{AreHome, IsAside}
use Rattle.msr_exchange.proofs.Alone.{named_end, named_stopped, named_then}
use Rattle.msr_exchange.proofs.Phases.{home_moments, is_seen, says_nothing}
use Rattle.msr_exchange.specs.declared.moves.Hindrance.{Hindrance}
use Rattle.msr_exchange.specs.declared.told.Told.TheVariants as told
use Rattle.msr_exchange.specs.declared.names.Place.TheVariants.{Day, Original, OriginalPart, Records}
use Rattle.msr_exchange.proofs.exchange.set_aside.Goals as goal

pub returns-in_err-hindrance : goal.returns-in_err-hindrance
returns-in_err-hindrance g c =
    let p = err_from_is_err_and c.from_residual.result c.from_residual.ensures.1 in
    let names = c.args.names.now in
    let l = names.original ∷ names.original_part ∷ [] in
    rw (p.1, p.2) (named_stopped names Original Records l (AreHome names Original Records) (λ n none. (none.1.1.0, (none.1.1.1.0, tt)))
    (λ a b p q home ch. home_moments names Original Records l a b p q (c.requires.apart Day Original refl, (c.requires.apart Day OriginalPart refl, tt)) (c.requires.apart Records Original refl, (c.requires.apart Records OriginalPart refl, tt)) home ch)
    {R = Hindrance} names.original_part refl _ _ _ c.in_err-hindrance.ensures)

pub returns-in-Some : goal.returns-in-Some
returns-in-Some g c =
    let names = c.args.names.now in
    let l = names.original ∷ names.original_part ∷ [] in
    named_end names Original Records l (AreHome names Original Records) (λ n none. (none.1.1.0, (none.1.1.1.0, tt)))
    (λ a b p q home ch. home_moments names Original Records l a b p q (c.requires.apart Day Original refl, (c.requires.apart Day OriginalPart refl, tt)) (c.requires.apart Records Original refl, (c.requires.apart Records OriginalPart refl, tt)) home ch)
    {R = Hindrance} names.original_part refl (giving c.in_ok-hindrance.hindrance) (giving (told.Refused _)) _ _ (λ is. cc)
    (λ a b p q home ch. says_nothing names Original a b q (told.Refused _) (λ is. cc) (λ is. cc)) c.in_ok-hindrance.ensures

pub returns-in-None : goal.returns-in-None
returns-in-None g c =
    let names = c.args.names.now in
    let l = names.original ∷ names.original_part ∷ [] in
    named_then names Original Records l (AreHome names Original Records) (λ n none. (none.1.1.0, (none.1.1.1.0, tt)))
    (λ a b p q home ch. home_moments names Original Records l a b p q (c.requires.apart Day Original refl, (c.requires.apart Day OriginalPart refl, tt)) (c.requires.apart Records Original refl, (c.requires.apart Records OriginalPart refl, tt)) home ch)
    {R = Hindrance} names.original_part refl (IsAside names Original Records) c.in_ok-hindrance.hindrance _ _ _ _ c.in-None.is
    (λ a b p q home keeps ch. record {
      home = record {
        day = leaves_kept l names.day (Some a) p q (c.requires.apart Day Original refl, (c.requires.apart Day OriginalPart refl, tt)) ch home.day;
        comes = leaves_kept l names.records (Some b) p q (c.requires.apart Records Original refl, (c.requires.apart Records OriginalPart refl, tt)) ch home.comes;
      };
      waits = keeps c.in-None.is a (is_seen names Original Records p names.day (Some a) home.day);
    }) c.in_ok-hindrance.ensures c.prepare.ensures
