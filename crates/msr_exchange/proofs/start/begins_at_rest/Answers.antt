use Rattle.std.proofs.Common.{◌∙◌, inl, inr}
use Rattle.msr_exchange.specs.Names.{path_at}
use Rattle.msr_exchange.specs.declared.names.Place.TheVariants.{Day, Records}
use Rattle.msr_exchange.proofs.start.begins_at_rest.Goals as goal

pub returns : goal.returns
returns c = λ names past original records rests day out. record {
  day = λ after may. inl (rests (path_at names Day) after may ∙ day);
  first = λ a b may other. inl (rests (path_at names Day) a may ∙ day);
  second = λ a b may other. inr (rests (path_at names Records) b other ∙ out);
}
