use Rattle.std.proofs.Common.{◌≡◌, ◌∷◌, ◌++◌, [], rules, subst, sym}
use Rattle.msr_tree.specs.Memory.{LeavesName, step_of, steps_kept}
use Rattle.msr_tree.specs.Steps.{IsAtRest}
use Rattle.msr_tree.proofs.Deeds.{Sees, last_step, nothing_rests, sees_given, sees_none}
use Rattle.msr_tree.proofs.memory.tree.MemoryTree.crash.Goals as goal

pub loop-deed-init : goal.loop-deed-init
loop-deed-init c =
    let is : c.args.self.now ≡ steps_kept c.as_slice-rest.result.now = cc (c.self.view_is, c.as_slice-rest.ensures.value) in
    let new = c.begun_at-after.ensures.past in
    record {
      rests = subst IsAtRest (sym new) nothing_rests;
      sees = λ name. subst (λ l. Sees c.args.self.now (steps_kept c.as_slice-rest.result.now) l name) (sym new)
          (subst (λ l. Sees c.args.self.now l [] name) is (sees_none c.args.self.now name));
    }

pub loop-deed-preserved-in_ok-leave : goal.loop-deed-preserved-in_ok-leave
loop-deed-preserved-in_ok-leave c =
    let left : LeavesName c.in-Some-target.name.now c.args.self.now c.loop-deed.after c.leave.new.after = c.in_ok-leave.ensures.left in
    let whole : c.loop-deed.rest.now ≡ c.in-Some.before.now ++ (c.in-Some.deed.now ∷ []) = search rules in
    let steps = last_step c.loop-deed.rest.now c.in-Some.before.now c.in-Some.deed.now whole in
    record {
      rests = left.rest c.loop-deed.invariant.rests;
      sees = λ name. sees_given (step_of c.in-Some.deed.now) c.args.self.now (steps_kept c.in-Some.before.now) c.loop-deed.after
          c.leave.new.after c.in-Some-target.name.now name (sym c.in-Some-target.ensures) left
          (subst (λ l. Sees c.args.self.now l c.loop-deed.after name) steps (c.loop-deed.invariant.sees name));
    }
