use Rattle.std.proofs.Common.{rules, ◌≡◌}
use Rattle.std.proofs.lemmas.Result.{err_from_is_err_and}
use Rattle.msr_devices.proofs.Chaining.{calm_calm, calm_failed, calm_same, takes_append}
use Rattle.msr_outcomes.specs.Summary.{files_line}
use Rattle.msr_outcomes.proofs.ChannelLines.{front_after, front_all, front_before, summary_is}
use Rattle.msr_folders.proofs.VisitLemmas.{stops_within}
use Rattle.msr_outcomes.proofs.summary.write_sums.Goals as goal

pub returns-in_err-write_channels-clause-stops : goal.returns-in_err-write_channels-clause-stops
returns-in_err-write_channels-clause-stops g c =
    let p = err_from_is_err_and c.from_residual.result c.from_residual.ensures.1 in
    let out0 = g.O.Sink.device c.args.out.now in
    let out = g.O.Sink.device c.write_channels.new.out in
    let tally = c.args.tally.now in
    λ entries h. rw (p.1, p.2, ← summary_is c.args.days.now c.args.known entries tally h)
    (stops_within out0 out0 out c.in_err-write_channels.field-0.0 (calm_same out0)
    (front_before out0 out _
    (files_line c.args.days.now c.args.known tally)) c.in_err-write_channels.ensures.stops)

pub returns-in_err-line-clause-stops : goal.returns-in_err-line-clause-stops
returns-in_err-line-clause-stops g c =
    let p = err_from_is_err_and c.from_residual-in_err-line.result c.from_residual-in_err-line.ensures.1 in
    let tally = c.args.tally.now in
    λ entries h. rw (p.1, p.2, ← summary_is c.args.days.now c.args.known entries tally h)
    (front_all _ _ _ _ c.in_ok-write_channels.ensures.all, c.in_ok-write_channels.ensures.calm.steady)

pub returns-in_err-write_all-clause-stops : goal.returns-in_err-write_all-clause-stops
returns-in_err-write_all-clause-stops g c =
    let p = err_from_is_err_and c.from_residual-in_err-write_all.result c.from_residual-in_err-write_all.ensures.1 in
    let part = c.in_err-write_all.ensures.part in
    let tally = c.args.tally.now in
    let line : c.as_bytes.result.now ≡ files_line c.args.days.now c.args.known tally = search rules in
    let failed = calm_failed (g.O.Sink.device c.args.out.now) (g.O.Sink.device c.write_channels.new.out)
    (g.O.Sink.device c.write_all.new.sink) c.in_ok-write_channels.ensures.calm c.in_err-write_all.ensures.failed in
    λ entries h. rw (p.1, p.2, ← summary_is c.args.days.now c.args.known entries tally h, ← line)
    (front_after _ _ _ _ _ part.0 c.in_ok-write_channels.ensures.all part.1, failed)

pub returns-clause-all : goal.returns-clause-all
returns-clause-all g c =
    let tally = c.args.tally.now in
    let line : c.as_bytes.result.now ≡ files_line c.args.days.now c.args.known tally = search rules in
    λ entries h. rw (← summary_is c.args.days.now c.args.known entries tally h, ← line)
    (takes_append _ _ _ _ _ c.in_ok-write_channels.ensures.all c.in_ok-write_all.ensures.all)

pub returns-clause-calm : goal.returns-clause-calm
returns-clause-calm g c =
    calm_calm (g.O.Sink.device c.args.out.now) (g.O.Sink.device c.write_channels.new.out)
    (g.O.Sink.device c.write_all.new.sink) c.in_ok-write_channels.ensures.calm c.in_ok-write_all.ensures.calm
