use Rattle.std.proofs.Common.{◌≡◌, arith, length, rules, false}
use Rattle.std.proofs.lemmas.Bool.{both_ways}
use Rattle.std.proofs.lemmas.List.{get_or_default}
use Rattle.msr_arguments.proofs.Apart.{apart_all, apart_more, apart_none}
use Rattle.msr_arguments.proofs.words.check_places.Goals as goal

pub loop-place-init : goal.loop-place-init
loop-place-init c = apart_none _ _

pub loop-place-preserved : goal.loop-place-preserved
loop-place-preserved c =
    let none : c.overlaps_one.result ≡ false = search rules in
    apart_more _ c.args.below.now c.loop-place.place _ c.loop-place-test.true
    (get_or_default c.args.below.now c.loop-place.place _ _ c.loop-place-test.true)
    c.loop-place.invariant
    (λ any. both_ways c.overlaps_one.result none (c.overlaps_one.ensures.1 any))

pub returns : goal.returns
returns c =
    let below = c.args.below.now in
    let all : c.loop-place.place ≡ length below =
    omega (arith, c.loop-place-test.false, c.loop-place.auto.place-end) in
    apart_all _ below (rw all at c.loop-place.invariant)
