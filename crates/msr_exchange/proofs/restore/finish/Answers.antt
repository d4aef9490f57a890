use Rattle.std.proofs.Common.{[], Some, ◌∷◌, refl}
use Rattle.std.proofs.lemmas.Result.{err_from_is_err_and}
use Rattle.msr_tree.proofs.Acting.{giving}
use Rattle.msr_tree.proofs.Changes.{leaves_kept}
use Rattle.msr_exchange.specs.Moves.{Anything}
use Rattle.msr_exchange.specs.Phases.{HavePlaces}
use Rattle.msr_exchange.proofs.Phases.{keeps_end, keeps_stopped, places_moments}
use Rattle.msr_exchange.specs.declared.told.Told.TheVariants as told
use Rattle.msr_exchange.specs.declared.names.Place.TheVariants.{Day, Note, Original, Records}
use Rattle.msr_exchange.proofs.restore.finish.Goals as goal

pub returns-in_err-forget : goal.returns-in_err-forget
returns-in_err-forget g c =
    let p = err_from_is_err_and c.from_residual.result c.from_residual.ensures.1 in
    let names = c.args.names.now in
    let l = names.note ∷ names.original ∷ [] in
    rw (p.1, p.2) (keeps_stopped names Records Original l (HavePlaces names Records Original) (λ n none. (none.1.1.1.1.1.1.0, (none.1.1.0, tt)))
    (λ a b p q place ch. places_moments names Records Original l a b p q (c.requires.apart Day Note refl, (c.requires.apart Day Original refl, tt)) (c.requires.apart Records Note refl, (c.requires.apart Records Original refl, tt)) place ch) (Anything {T = Unit {0}}) _ _ _ c.in_err-forget.ensures)

pub returns : goal.returns
returns g c =
    let names = c.args.names.now in
    let l = names.note ∷ names.original ∷ [] in
    keeps_end names Records Original l (HavePlaces names Records Original) (λ n none. (none.1.1.1.1.1.1.0, (none.1.1.0, tt)))
    (λ a b p q place ch. places_moments names Records Original l a b p q (c.requires.apart Day Note refl, (c.requires.apart Day Original refl, tt)) (c.requires.apart Records Note refl, (c.requires.apart Records Original refl, tt)) place ch) (Anything {T = Unit {0}}) (giving tt) (giving told.Done) _ _ (λ is. cc)
    (λ a b p q place did ch. record {
      done = λ is. record {
        day = leaves_kept l names.day (Some b) p q (c.requires.apart Day Note refl, (c.requires.apart Day Original refl, tt)) ch place.day;
        waits = leaves_kept l names.records (Some a) p q (c.requires.apart Records Note refl, (c.requires.apart Records Original refl, tt)) ch place.waits;
      };
      same = λ is. cc;
    }) c.in_ok-forget.ensures
