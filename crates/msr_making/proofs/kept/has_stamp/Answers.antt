use Rattle.std.proofs.lemmas.Result.{err_from_is_err_and}
use Rattle.std.proofs.Common.{◌≡◌, Ok, false, rules}
use Rattle.msr_naming.specs.Stamp.{stamp_text}
use Rattle.msr_making.proofs.Lefts.{text_memory, text_none, text_there}
use Rattle.msr_making.proofs.Sights.{asks_nothing}
use Rattle.msr_making.proofs.kept.has_stamp.Goals as goal

pub returns-in_err-text : goal.returns-in_err-text
returns-in_err-text g c =
    let p = err_from_is_err_and c.from_residual.result c.from_residual.ensures.1 in
    rw (p.1, p.2) (asks_nothing _ _ _ (λ p. tt))

pub returns-then-facts-len : goal.returns-then-facts-len
returns-then-facts-len g c = asks_nothing _ (Ok false) _ (λ p. λ is. absurd cc)

pub returns-in-Ok : goal.returns-in-Ok
returns-in-Ok g c =
    let text : c.as_bytes.result.now ≡ (stamp_text c.args.of c.args.stamp) = search rules in
    text_there c.args.path.now (λ reader. g.T.Reader.Source.device reader) (stamp_text c.args.of c.args.stamp) c.in-Ok.source c.gives_text.result _ _ (rw text at c.gives_text.ensures) c.in-Ok.ensures.went

pub returns-in-Err-Failed : goal.returns-in-Err-Failed
returns-in-Err-Failed g c = text_none c.args.path.now (λ reader. g.T.Reader.Source.device reader) (stamp_text c.args.of c.args.stamp) _ _ _ c.in-Err-Failed.ensures.went

pub returns : goal.returns
returns g c = text_memory c.args.path.now (λ reader. g.T.Reader.Source.device reader) (stamp_text c.args.of c.args.stamp) _ _ _ _ c.in-Err-Memory.ensures.went
