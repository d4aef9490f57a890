use Rattle.std.proofs.Common.{◌-◌, length, drop, arith, length-take, length-drop, append-nil}
use Rattle.msr_devices.proofs.Chaining.{takes_append, calm_moves, take_more}
use Rattle.msr_devices.proofs.loops.write_counted.Goals as goal

pub returns-in-Err-clause-bytes : goal.returns-in-Err-clause-bytes
returns-in-Err-clause-bytes g c =
    rw append-nil at (takes_append _ _ _ _ _ c.loop-written.invariant.bytes c.in-Err.ensures.none)

pub loop-written-preserved : goal.loop-written-preserved
loop-written-preserved g c = record {
  within = omega (
    arith,
    c.in-Ok.ensures.within,
    length-take (length c.args.buf.now - c.loop-written.written) (drop c.loop-written.written c.args.buf.now),
    length-drop c.loop-written.written c.args.buf.now,
  );
  calm = calm_moves _ _ _ c.in-Ok.n c.loop-written.invariant.calm c.in-Ok.ensures.moves c.in-Ok.ensures.some;
  bytes = rw (take_more c.loop-written.written c.in-Ok.n c.args.buf.now)
      (takes_append _ _ _ _ _ c.loop-written.invariant.bytes c.in-Ok.ensures.bytes);
  moved = omega (arith, c.loop-written.invariant.moved, c.in-Ok.ensures.moves.moved);
  short = λ h. c.in-Ok.ensures.short;
}

pub returns-in-Err-clause-moved : goal.returns-in-Err-clause-moved
returns-in-Err-clause-moved g c = omega (arith, c.loop-written.invariant.moved, c.in-Err.ensures.still)

pub returns-in-Err-clause-short : goal.returns-in-Err-clause-short
returns-in-Err-clause-short g c = λ h. omega (arith, c.loop-written.invariant.short h, c.in-Err.ensures.still)
