use Rattle.std.proofs.Common.{◌∙◌, inl, inr, ⊎_elim}
use Rattle.msr_tree.specs.Steps.{seen}
use Rattle.msr_exchange.specs.Names.{path_at}
use Rattle.msr_exchange.specs.declared.names.Place.TheVariants.{Day}
use Rattle.msr_exchange.proofs.start.begins_again.Goals as goal

pub returns : goal.returns
returns c = λ names one other a b past again keeps rests left.
    let d = path_at names Day in
    let o = path_at names one in
    let t = path_at names other in
    record {
      day = λ after may. ⊎_elim (λ is. inl (rests d after may ∙ is)) (λ is. inr (rests d after may ∙ is)) (keeps.day (seen again d) (left d));
      first = λ x y may waits. ⊎_elim (λ is. inl (rests d x may ∙ is)) (λ is. inr (rests o y waits ∙ is)) (keeps.first (seen again d) (seen again o) (left d) (left o));
      second = λ x y may waits. ⊎_elim (λ is. inl (rests d x may ∙ is)) (λ is. inr (rests t y waits ∙ is)) (keeps.second (seen again d) (seen again t) (left d) (left t));
    }
