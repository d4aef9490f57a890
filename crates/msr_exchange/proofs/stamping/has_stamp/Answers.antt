use Rattle.std.proofs.Common.{[], Err, Ok}
use Rattle.msr_tree.proofs.Changes.{changes_none}
use Rattle.msr_exchange.proofs.Stamps.{opened_alone}
use Rattle.msr_exchange.proofs.stamping.has_stamp.Goals as goal

pub returns-in_default : goal.returns-in_default
returns-in_default g c = record { from = λ new went. (new, went, changes_none [] new) }

pub returns-in-Ok-open : goal.returns-in-Ok-open
returns-in-Ok-open g c = opened_alone c.as_str.result.now (λ reader. g.T.Reader.Source.device reader) (Ok c.in-Ok-open.source) _ _ c.in-Ok-open.ensures.went

pub returns : goal.returns
returns g c = opened_alone c.as_str.result.now (λ reader. g.T.Reader.Source.device reader) (Err c.in-Err.field-0) _ _ c.in-Err.ensures.went
