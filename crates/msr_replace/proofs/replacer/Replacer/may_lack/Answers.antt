use Rattle.std.proofs.Common.{◌≡◌, ◌≢◌, Bool, true, false, List, Ok, Err, refl, rules, sym}
use Rattle.msr_devices.specs.declared.fault.DeviceFault.TheVariants.{Memory}
use Rattle.msr_tree.proofs.Reading.{looks_none, tells_looks}
use Rattle.msr_tree.specs.Calls.{Tells}
use Rattle.msr_tree.specs.Listing.{is_there}
use Rattle.msr_tree.specs.Reads.{OnlyLooks}
use Rattle.msr_tree.specs.Steps.{Step}
use Rattle.msr_tree.specs.declared.tree.TreeFault.TheVariants as fault
use Rattle.msr_folders.proofs.StoppingLemmas.{not_both}
use Rattle.msr_folders.proofs.WalkedLemmas.{goes_none}
use Rattle.msr_replace.specs.Touching.{touched_still}
use Rattle.msr_replace.specs.declared.replacer.Course.TheVariants as course
use Rattle.msr_replace.proofs.Saying.{does_of}
use Rattle.msr_replace.proofs.Touching.{touched_tells}
use Rattle.msr_replace.proofs.replacer.Replacer.may_lack.Goals as goal

pub returns-then-eq-clause-goes : goal.returns-then-eq-clause-goes
returns-then-eq-clause-goes g c =
    goes_none _ _ (λ past. record { later = touched_still c.args.self.now.course c.args.self.now.work past; says = (looks_none past, λ lacks. absurd (not_both false lacks refl)) })

pub returns-in-Ok-true-clause-goes : goal.returns-in-Ok-true-clause-goes
returns-in-Ok-true-clause-goes g c =
    let work = c.args.self.now.work in
    let Says : List Step → Bool → Type 0 = λ past answer. answer ≡ is_there past c.args.place.now in
    let Lacks : Bool → (past new : List Step) → Type 0 = λ lacks past new. OnlyLooks past new × (lacks ≡ true → (c.args.self.now.course ≢ course.Root) × (is_there past c.args.place.now ≡ false)) in
    does_of {A = Bool} c.args.self.now.course work (Tells Says (Ok true)) Lacks (Ok false) (g.T.Tree.went c.args.tree.now) (g.T.Tree.went c.has.new.self)
    (λ old new is. record {
      later = touched_tells c.args.self.now.course work Says (Ok true) old new is;
      says = (tells_looks Says (Ok true) old new is, λ lacks. absurd (not_both false lacks refl));
    }) (rw c.in-Ok-true.field-0-test at c.in-Ok-true.ensures)

pub returns-in-Ok-false-clause-goes : goal.returns-in-Ok-false-clause-goes
returns-in-Ok-false-clause-goes g c =
    let work = c.args.self.now.work in
    let Says : List Step → Bool → Type 0 = λ past answer. answer ≡ is_there past c.args.place.now in
    let Lacks : Bool → (past new : List Step) → Type 0 = λ lacks past new. OnlyLooks past new × (lacks ≡ true → (c.args.self.now.course ≢ course.Root) × (is_there past c.args.place.now ≡ false)) in
    let apart : c.args.self.now.course ≢ course.Root = search rules in
    does_of {A = Bool} c.args.self.now.course work (Tells Says (Ok false)) Lacks (Ok true) (g.T.Tree.went c.args.tree.now) (g.T.Tree.went c.has.new.self)
    (λ old new is. record {
      later = touched_tells c.args.self.now.course work Says (Ok false) old new is;
      says = (tells_looks Says (Ok false) old new is, λ lacks. (apart, sym is.1));
    }) (rw c.in-Ok-false.field-0-test at c.in-Ok-false.ensures)

pub returns-in-Err-Failed-clause-goes : goal.returns-in-Err-Failed-clause-goes
returns-in-Err-Failed-clause-goes g c =
    let work = c.args.self.now.work in
    let Says : List Step → Bool → Type 0 = λ past answer. answer ≡ is_there past c.args.place.now in
    let Lacks : Bool → (past new : List Step) → Type 0 = λ lacks past new. OnlyLooks past new × (lacks ≡ true → (c.args.self.now.course ≢ course.Root) × (is_there past c.args.place.now ≡ false)) in
    does_of {A = Bool} c.args.self.now.course work (Tells Says (Err fault.Failed)) Lacks (Ok false) (g.T.Tree.went c.args.tree.now) (g.T.Tree.went c.has.new.self)
    (λ old new is. record {
      later = touched_tells c.args.self.now.course work Says (Err fault.Failed) old new is;
      says = (tells_looks Says (Err fault.Failed) old new is, λ lacks. absurd (not_both false lacks refl));
    }) (rw c.in-Err-Failed.field-0-is at c.in-Err-Failed.ensures)

pub returns-in-Err-Memory-clause-goes : goal.returns-in-Err-Memory-clause-goes
returns-in-Err-Memory-clause-goes g c =
    let work = c.args.self.now.work in
    let Says : List Step → Bool → Type 0 = λ past answer. answer ≡ is_there past c.args.place.now in
    let Lacks : Bool → (past new : List Step) → Type 0 = λ lacks past new. OnlyLooks past new × (lacks ≡ true → (c.args.self.now.course ≢ course.Root) × (is_there past c.args.place.now ≡ false)) in
    does_of {A = Bool} c.args.self.now.course work (Tells Says (Err fault.Memory)) Lacks (Err Memory) (g.T.Tree.went c.args.tree.now) (g.T.Tree.went c.has.new.self)
    (λ old new is. record { later = touched_tells c.args.self.now.course work Says (Err fault.Memory) old new is; says = tt })
    (rw c.in-Err-Memory.field-0-is at c.in-Err-Memory.ensures)
