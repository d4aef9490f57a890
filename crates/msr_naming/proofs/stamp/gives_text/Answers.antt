use Rattle.std.proofs.Common.{◌≡◌, Some, [], ◌<◌, ◌+◌, ◌++◌, length, take, arith, length-take, sym, ◌∙◌}
use Rattle.std.proofs.lemmas.Bool.{eqb-true}
use Rattle.std.proofs.lemmas.List.{nil_from_length}
use Rattle.std.proofs.lemmas.Bool.Decides.{Decides-eqb}
use Rattle.std.proofs.lemmas.Slice.Eq.{strip_prefix_is}
use Rattle.msr_naming.proofs.stamp.gives_text.Goals as goal

pub loop-n-init : goal.loop-n-init
loop-n-init g c = record { had = λ h. h; count = c.requires }

pub returns-then-n-eq0 : goal.returns-then-n-eq0
returns-then-n-eq0 g c = λ is.
    let none : c.loop-n.rest.now ≡ [] = nil_from_length _ (eqb-true _ 0 (sym c.is_empty.ensures ∙ is)) in
    let room : 0 < length c.read_some.new.buf = omega arith in
    c.loop-n.invariant.had (rw none (rw c.if-n-eq0.true at (c.in-Ok.ensures.bytes.front [] (c.in-Ok.ensures.end c.if-n-eq0.true room))))

pub loop-n-smaller : goal.loop-n-smaller
loop-n-smaller g c = let fits : length c.in-Some.after.now + length (take c.in-Ok.n c.read_some.new.buf) ≡ length c.loop-n.rest.now = c.in-Some.ensures.cases.2 in
    let size = length-take c.in-Ok.n c.read_some.new.buf in
    omega (arith, c.in-Ok.ensures.within)

pub loop-n-preserved : goal.loop-n-preserved
loop-n-preserved g c =
    let whole : c.loop-n.rest.now ≡ take c.in-Ok.n c.read_some.new.buf ++ c.in-Some.after.now = strip_prefix_is Decides-eqb c.loop-n.rest.now (take c.in-Ok.n c.read_some.new.buf) (Some c.in-Some.after) c.in-Some.ensures.cases in
    record {
      had = λ left. c.loop-n.invariant.had (rw whole (c.in-Ok.ensures.bytes.front c.in-Some.after.now left));
      count = (omega (arith, c.in-Ok.ensures.moves.failures, c.loop-n.invariant.count), omega (arith, c.in-Ok.ensures.moves.interruptions));
    }
