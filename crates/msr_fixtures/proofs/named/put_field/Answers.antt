-- A text is asked for in any state.
use Rattle.msr_fixtures.proofs.named.put_field.Goals as goal

pub next-requires : goal.next-requires
next-requires c = tt
