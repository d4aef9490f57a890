use Rattle.std.proofs.Common.{ℕ, List, ◌-◌, ◌≤◌, ◌<◌, ◌++◌, length, take, arith, length-append, length-take}
use borrow.Rule.Slice.PartMut.{post_of}
use Rattle.msr_devices.proofs.Chaining.{onto_more, kept_onto, calm_moves, take_part}
use Rattle.msr_devices.proofs.loops.read_until.Goals as goal

pub returns-in_err-n-clause-onto : goal.returns-in_err-n-clause-onto
returns-in_err-n-clause-onto g c = kept_onto _ _ _ _ _ _ _ c.loop-filled.invariant.within c.loop-filled.invariant.onto
    c.in_err-n.ensures.none c.in_err-n.ensures.still

pub returns-then-n-eq0-clause-onto : goal.returns-then-n-eq0-clause-onto
returns-then-n-eq0-clause-onto g c = kept_onto _ _ _ _ _ _ _ c.loop-filled.invariant.within
    c.loop-filled.invariant.onto (rw c.if-n-eq0.true at c.in_ok-n.ensures.bytes)
    (omega (arith, c.if-n-eq0.true, c.in_ok-n.ensures.moves.moved))

pub returns-in_err-n-clause-short : goal.returns-in_err-n-clause-short
returns-in_err-n-clause-short g c = λ h. omega (arith, c.loop-filled.invariant.short h, c.in_err-n.ensures.still)

pub loop-filled-preserved : goal.loop-filled-preserved
loop-filled-preserved g c =
    let some : 0 < c.in_ok-n.n = omega arith in
    let fits : c.in_ok-n.n ≤ length c.read_some.new.buf = c.in_ok-n.ensures.within in
    let within : c.loop-filled.filled ≤ length c.loop-filled.room = c.loop-filled.invariant.within in
    let post : List ℕ = post_of c.loop-filled.filled
    (length c.loop-filled.room - c.loop-filled.filled) c.loop-filled.room in
    let front = take_part c.loop-filled.filled c.in_ok-n.n c.loop-filled.room c.read_some.new.buf post within fits in
    let size = length-take c.loop-filled.filled c.loop-filled.room in
    let both = length-append (take c.loop-filled.filled c.loop-filled.room) (c.read_some.new.buf ++ post) in
    record {
      within = omega (arith, size, both, length-append c.read_some.new.buf post);
      calm = calm_moves _ _ _ c.in_ok-n.n c.loop-filled.invariant.calm c.in_ok-n.ensures.moves some;
      short = λ h. c.in_ok-n.ensures.short;
      onto = onto_more _ _ _ _ _ _
          (take c.in_ok-n.n c.read_some.new.buf) c.in_ok-n.n c.loop-filled.invariant.onto c.in_ok-n.ensures.bytes
          (omega (arith, length-take c.in_ok-n.n c.read_some.new.buf)) c.in_ok-n.ensures.moves.moved front;
    }
