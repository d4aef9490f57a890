use Rattle.std.proofs.Common.{◌≡◌, inl, inr, rules, subst, sym, true, false, Bool, List, Ok, Err, Option, Some, None}
use Rattle.std.proofs.lemmas.Result.{err_from_is_err_and}
use Rattle.msr_devices.specs.declared.fault.DeviceFault.TheVariants.{Memory}
use Rattle.msr_folders.proofs.WalkedLemmas.{goes_none}
use Rattle.msr_folders.specs.Paths.{joined}
use Rattle.msr_tree.proofs.Reading.{tells_looks}
use Rattle.msr_tree.specs.Calls.{Tells}
use Rattle.msr_tree.specs.Listing.{is_there}
use Rattle.msr_tree.specs.Steps.{Step}
use Rattle.msr_tree.specs.declared.tree.TreeFault.TheVariants as fault
use Rattle.msr_replace.specs.Said.{SearchesDay}
use Rattle.msr_replace.specs.declared.lines.Outcome.{Outcome}
use Rattle.msr_replace.specs.declared.lines.Outcome.TheVariants.{Orphan}
use Rattle.msr_replace.specs.declared.replacer.Course.TheVariants as course
use Rattle.msr_replace.proofs.Saying.{does_of, failed_tells}
use Rattle.msr_replace.specs.Touching.{touched_still}
use Rattle.msr_replace.proofs.Touching.{touched_tells}
use Rattle.msr_replace.proofs.visitor.searched.Goals as goal

pub returns-in_err-file-clause-goes : goal.returns-in_err-file-clause-goes
returns-in_err-file-clause-goes g c =
    let p = err_from_is_err_and c.from_residual.result c.from_residual.ensures.1 in
    goes_none _ _ (λ past. record { later = touched_still course.Out c.args.work.now past; says = rw p.1 tt })

pub returns-in-Ok-true-clause-goes : goal.returns-in-Ok-true-clause-goes
returns-in-Ok-true-clause-goes g c =
    let at : c.as_str.result.now ≡ joined c.args.work.now.root.now c.args.path.now = search rules in
    let Says : List Step → Bool → Type 0 = λ past answer. answer ≡ is_there past c.as_str.result.now in
    does_of {A = Option Outcome} course.Out c.args.work.now (Tells Says (Ok true))
    (SearchesDay c.args.work.now c.args.path.now) (Ok None) (g.T.Tree.went c.args.tree.now) (g.T.Tree.went c.has.new.self)
    (λ old new is. record {
      later = touched_tells course.Out c.args.work.now Says (Ok true) old new is;
      says = record { looks = tells_looks Says (Ok true) old new is; is = inl (subst (λ p. is_there old p ≡ true) at (sym is.1)) };
    }) (rw c.in-Ok-true.field-0-test at c.in-Ok-true.ensures)

pub returns-in-Ok-false-clause-goes : goal.returns-in-Ok-false-clause-goes
returns-in-Ok-false-clause-goes g c =
    let at : c.as_str.result.now ≡ joined c.args.work.now.root.now c.args.path.now = search rules in
    let Says : List Step → Bool → Type 0 = λ past answer. answer ≡ is_there past c.as_str.result.now in
    does_of {A = Option Outcome} course.Out c.args.work.now (Tells Says (Ok false))
    (SearchesDay c.args.work.now c.args.path.now) (Ok (Some Orphan)) (g.T.Tree.went c.args.tree.now) (g.T.Tree.went c.has.new.self)
    (λ old new is. record {
      later = touched_tells course.Out c.args.work.now Says (Ok false) old new is;
      says = record { looks = tells_looks Says (Ok false) old new is; is = subst (λ p. is_there old p ≡ false) at (sym is.1) };
    }) (rw c.in-Ok-false.field-0-test at c.in-Ok-false.ensures)

pub returns-in-Err-Failed-clause-goes : goal.returns-in-Err-Failed-clause-goes
returns-in-Err-Failed-clause-goes g c =
    let Says : List Step → Bool → Type 0 = λ past answer. answer ≡ is_there past c.as_str.result.now in
    does_of {A = Option Outcome} course.Out c.args.work.now (Tells Says (Err fault.Failed))
    (SearchesDay c.args.work.now c.args.path.now) (Ok None) (g.T.Tree.went c.args.tree.now) (g.T.Tree.went c.has.new.self)
    (λ old new is. record {
      later = touched_tells course.Out c.args.work.now Says (Err fault.Failed) old new is;
      says = record { looks = tells_looks Says (Err fault.Failed) old new is; is = inr (failed_tells Says old new is) };
    }) (rw c.in-Err-Failed.field-0-is at c.in-Err-Failed.ensures)

pub returns-clause-goes : goal.returns-clause-goes
returns-clause-goes g c =
    let Says : List Step → Bool → Type 0 = λ past answer. answer ≡ is_there past c.as_str.result.now in
    does_of {A = Option Outcome} course.Out c.args.work.now (Tells Says (Err fault.Memory))
    (SearchesDay c.args.work.now c.args.path.now) (Err Memory) (g.T.Tree.went c.args.tree.now) (g.T.Tree.went c.has.new.self)
    (λ old new is. record { later = touched_tells course.Out c.args.work.now Says (Err fault.Memory) old new is; says = tt })
    (rw c.in-Err-Memory.field-0-is at c.in-Err-Memory.ensures)
