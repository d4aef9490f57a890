use Rattle.std.proofs.Common.{rules, arith, ◌≡◌, ◌+◌, ◌-◌, length, drop, subst, w64, SFits, get_or, pos}
use Rattle.std.proofs.lemmas.Int.{to_z-of_z}
use Rattle.std.proofs.lemmas.List.{length-drop}
use Rattle.msr_words.specs.Segment.{differences}
use Rattle.msr_words.specs.Groups.{IsLongestGroup}
use Rattle.msr_words.specs.Groups.{IsCapacity}
use Rattle.msr_words.proofs.Plain.{IsOpenGroup, open_none, open_more, longest_here, longest_at_end, difference_behind, length-differences}
use Rattle.msr_words.proofs.kinds.longest_group.Goals as goal

pub loop-next-init : goal.loop-next-init
loop-next-init c =
    let none : 0 ≡ c.args.at - c.args.at = omega arith in
    subst (λ k. IsOpenGroup (drop c.args.at (differences c.args.before c.args.run.now)) k 7) none
    (open_none (drop c.args.at (differences c.args.before c.args.run.now)))

pub returns-then-next-at : goal.returns-then-next-at
returns-then-next-at c =
    let ds = differences c.args.before c.args.run.now in
    let diff : SFits w64 c.difference_after.result = search rules in
    let cap : IsCapacity c.difference_after.result c.tested_capacity.result =
    simp to_z-of_z at c.tested_capacity.ensures in
    let long = length-differences c.args.before c.args.run.now in
    let l = length-drop c.args.at ds in
    let here : get_or (drop c.args.at ds) (c.loop-next.next - c.args.at) (pos 0) ≡ c.difference_after.result =
    rw c.difference_after.ensures (difference_behind c.args.before c.args.run.now c.args.at c.loop-next.next
    (omega arith) (omega arith)) in
    longest_here (drop c.args.at ds)
    (c.loop-next.next - c.args.at) c.loop-next.most c.loop-next.invariant c.difference_after.result here
    (omega arith) c.tested_capacity.result cap (omega arith)

pub loop-next-preserved : goal.loop-next-preserved
loop-next-preserved c =
    let ds = differences c.args.before c.args.run.now in
    let diff : SFits w64 c.difference_after.result = search rules in
    let cap : IsCapacity c.difference_after.result c.tested_capacity.result =
    simp to_z-of_z at c.tested_capacity.ensures in
    let long = length-differences c.args.before c.args.run.now in
    let l = length-drop c.args.at ds in
    let here : get_or (drop c.args.at ds) (c.loop-next.next - c.args.at) (pos 0) ≡ c.difference_after.result =
    rw c.difference_after.ensures (difference_behind c.args.before c.args.run.now c.args.at c.loop-next.next
    (omega arith) (omega arith)) in
    let more = open_more (drop c.args.at ds)
    (c.loop-next.next - c.args.at) c.loop-next.most c.loop-next.invariant c.difference_after.result here
    (omega arith) c.tested_capacity.result cap (omega arith) in
    let one : (c.loop-next.next - c.args.at) + 1 ≡ c.loop-next.next + 1 - c.args.at = omega arith in
    rw (← one, c.min-most.ensures) more

pub returns : goal.returns
returns c =
    let ds = differences c.args.before c.args.run.now in
    let long = length-differences c.args.before c.args.run.now in
    let l = length-drop c.args.at ds in
    let all : c.loop-next.next - c.args.at ≡ length c.args.run.now - c.args.at = omega arith in
    subst (IsLongestGroup (drop c.args.at ds)) all
    (longest_at_end (drop c.args.at ds) (c.loop-next.next - c.args.at) c.loop-next.most c.loop-next.invariant
    (omega arith))
