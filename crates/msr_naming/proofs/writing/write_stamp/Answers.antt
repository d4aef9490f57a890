use Rattle.std.proofs.Common.{◌≡◌, ◌∙◌, rules, sym}
use Rattle.msr_naming.specs.Stamp.{stamp_text}
use Rattle.msr_naming.proofs.Stamped.{ok_is, on_ok, stamped, unbegun, unstamped}
use Rattle.msr_naming.proofs.writing.write_stamp.Goals as goal

pub returns-in_default : goal.returns-in_default
returns-in_default g c = unstamped c.args.path.now (stamp_text c.args.of c.args.stamp) _

pub returns-in_default-begin : goal.returns-in_default-begin
returns-in_default-begin g c = unbegun c.args.path.now (stamp_text c.args.of c.args.stamp) _ _ _ _ c.begin.ensures.goes

pub returns-then-is_err : goal.returns-then-is_err
returns-then-is_err g c = unbegun c.args.path.now (stamp_text c.args.of c.args.stamp) _ _ _ _ c.begin.ensures.goes

pub returns : goal.returns
returns g c =
    let text : c.as_bytes.result.now ≡ stamp_text c.args.of c.args.stamp = search rules in
    let took = on_ok c.write_all.result (sym c.is_err.ensures.value ∙ c.if-is_err.false) c.write_all.ensures.all in
    stamped c.args.path.now (stamp_text c.args.of c.args.stamp) g.T.Writer.Sink.device c.in-Ok-begin.writer (g.T.Writer.Sink.device c.write_all.new.sink) c.finish_stored.result c.is_ok.result _ _ _
    (rw text at took) (λ so. ok_is c.finish_stored.result (sym c.is_ok.ensures.value ∙ so)) c.in-Ok-begin.ensures.goes c.finish_stored.ensures
