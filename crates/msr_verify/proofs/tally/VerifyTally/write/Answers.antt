use Rattle.std.proofs.Common.{rules, ◌≡◌}
use Rattle.std.proofs.lemmas.Result.{err_from_is_err_and}
use Rattle.msr_devices.proofs.Chaining.{calm_same, takes_none}
use Rattle.msr_verify.specs.Walk.{judged_end}
use Rattle.msr_verify.proofs.EntriesFound.{front_piece}
use Rattle.msr_verify.proofs.tally.VerifyTally.write.Goals as goal

pub returns-in_err-line-clause-stops : goal.returns-in_err-line-clause-stops
returns-in_err-line-clause-stops g c =
    let p = err_from_is_err_and c.from_residual.result c.from_residual.ensures.1 in
    let out = g.O.Sink.device c.args.out.now in
    rw (p.1, p.2) (front_piece out out (judged_end c.args.asked.now c.args.self) 0 (takes_none out), (calm_same out).steady)

pub returns-in_err-write_all-clause-stops : goal.returns-in_err-write_all-clause-stops
returns-in_err-write_all-clause-stops g c =
    let p = err_from_is_err_and c.from_residual-in_err-write_all.result c.from_residual-in_err-write_all.ensures.1 in
    let part = c.in_err-write_all.ensures.part in
    let text : c.as_bytes.result.now ≡ judged_end c.args.asked.now c.args.self = search rules in
    rw (p.1, p.2, ← text) (
      front_piece (g.O.Sink.device c.args.out.now)
          (g.O.Sink.device c.write_all.new.sink) c.as_bytes.result.now part.0 part.1,
      c.in_err-write_all.ensures.failed,
    )
