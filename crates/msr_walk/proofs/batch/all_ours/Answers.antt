use Rattle.std.proofs.Common.{◌≡◌, ◌-◌, ◌∙◌, [], ap, arith, take, vec_len}
use Rattle.std.proofs.lemmas.List.{append-nil}
use Rattle.msr_walk.proofs.Ours.{begun, some_ours, step_taken, taken_of, wait_ours}
use Rattle.msr_walk.proofs.batch.all_ours.Goals as goal

pub loop-day-init : goal.loop-day-init
loop-day-init g c = begun c.args.walker.now.archive.now c.args.days.items _ _ c.requires c.new-ours.ensures.items

pub keep_ours-requires : goal.keep_ours-requires
keep_ours-requires g c = taken_of c.args.walker.now.archive.now c.args.walker.now.apart c.args.days.items c.loop-day.days.items _ c.loop-day.ours.items c.in-Some.day c.in-Some.ensures.items _ c.loop-day.invariant.0

pub loop-day-preserved : goal.loop-day-preserved
loop-day-preserved g c =
    let before = c.loop-day.invariant in
    step_taken c.args.walker.now.archive.now c.args.walker.now.apart c.args.days.items c.loop-day.days.items _ c.loop-day.ours.items c.in-Some.day c.in-Some.ensures.items _ _ _ _
    before.0 before.1 before.2 before.3 c.keep_ours.ensures.ours c.keep_ours.ensures.waits c.keep_ours.ensures.works

pub returns-clause-some : goal.returns-clause-some
returns-clause-some g c =
    let none : vec_len c.loop-day.days - 1 ≡ 0 = omega (arith, c.in_default.ensures.cases.0) in
    let empty : c.loop-day.days.items ≡ [] = c.in_default.ensures.items ∙ (append-nil c.pop.new.self.items ∙ (c.in_default.ensures.rest ∙ ap (λ n. take n c.loop-day.days.items) none)) in
    some_ours c.loop-day.days.items c.loop-day.ours.items empty c.args.days.items c.loop-day.invariant.1

pub returns-clause-wait : goal.returns-clause-wait
returns-clause-wait g c =
    let none : vec_len c.loop-day.days - 1 ≡ 0 = omega (arith, c.in_default.ensures.cases.0) in
    let empty : c.loop-day.days.items ≡ [] = c.in_default.ensures.items ∙ (append-nil c.pop.new.self.items ∙ (c.in_default.ensures.rest ∙ ap (λ n. take n c.loop-day.days.items) none)) in
    wait_ours c.loop-day.days.items c.loop-day.ours.items empty c.args.walker.now.archive.now c.args.days.items _ _ c.loop-day.invariant.2
