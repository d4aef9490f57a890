use Rattle.std.proofs.Common.{◌∙◌, sym}
use Rattle.std.proofs.lemmas.Result.{err_from_is_err_and}
use Rattle.msr_verify.specs.Opening.{places_at}
use Rattle.msr_verify.proofs.NamedLemmas.{judged_again, judged_stopped, judged_unasked}
use Rattle.msr_verify.proofs.day.judge_named.Goals as goal

pub returns-in_err-judgement-clause-goes : goal.returns-in_err-judgement-clause-goes
returns-in_err-judgement-clause-goes g c =
    let p = err_from_is_err_and c.from_residual.result c.from_residual.ensures.1 in
    rw (p.1, p.2) (judged_stopped c.args.names (places_at c.args.places) _ _ _ c.in_err-judgement.ensures.goes)

pub returns-then-not-asks_again-clause-goes : goal.returns-then-not-asks_again-clause-goes
returns-then-not-asks_again-clause-goes g c =
    judged_unasked c.args.names (places_at c.args.places) c.in_ok-judgement.judgement _ _
    (sym c.asks_again.ensures ∙ c.if-not-asks_again.true) c.in_ok-judgement.ensures.goes

pub returns-clause-told : goal.returns-clause-told
returns-clause-told g c = c.judge_segments.ensures.told c.in_ok-judgement.ensures.told

pub returns-clause-goes : goal.returns-clause-goes
returns-clause-goes g c =
    let asks = sym c.asks_again.ensures ∙ c.if-not-asks_again.false in
    judged_again c.args.names (places_at c.args.places) c.in_ok-judgement.judgement c.judge_segments.result _ _ _ asks
    c.in_ok-judgement.ensures.goes (c.judge_segments.ensures.goes asks)
