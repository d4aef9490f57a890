use Rattle.std.proofs.Common.{List, Option, Some, Ok, Err, IfSome}
use Rattle.msr_devices.specs.declared.fault.DeviceFault.TheVariants.{Memory}
use Rattle.msr_tree.specs.Steps.{Step}
use Rattle.msr_tree.specs.declared.tree.TreeFault.TheVariants as fault
use Rattle.msr_replace.specs.Said.{PassesFolder}
use Rattle.msr_replace.specs.Touching.{touched_parts}
use Rattle.msr_replace.specs.Ways.{BeginsFolder}
use Rattle.msr_replace.specs.declared.lines.Outcome.{Outcome}
use Rattle.msr_replace.specs.declared.lines.Outcome.TheVariants.{FolderFailed}
use Rattle.msr_replace.proofs.Passing.{passed_failed, passed_of, passed_so}
use Rattle.msr_replace.proofs.Saying.{does_of}
use Rattle.msr_replace.proofs.replacer.Replacer.begin.Goals as goal

pub returns-in-Ok-clause-goes : goal.returns-in-Ok-clause-goes
returns-in-Ok-clause-goes g c =
    let on = c.args.self.now.course in
    let work = c.args.self.now.work in
    let folder = c.args.folder.now in
    let Is : Option Outcome → (old new : List Step) → Type 0 = λ outcome old new. IfSome outcome (λ why. PassesFolder on work folder why old new) in
    does_of {A = Option Outcome} on work (BeginsFolder work folder (Ok c.in-Ok.leads_back)) Is (Ok c.passed.result) _ _
    (λ old new is. record { later = touched_parts on work folder old new is.changes; says = passed_so on work folder old new c.in-Ok.leads_back c.passed.result is c.passed.ensures })
    c.in-Ok.ensures

pub returns-in-Err-Failed-clause-goes : goal.returns-in-Err-Failed-clause-goes
returns-in-Err-Failed-clause-goes g c =
    let on = c.args.self.now.course in
    let work = c.args.self.now.work in
    let folder = c.args.folder.now in
    let Is : Option Outcome → (old new : List Step) → Type 0 = λ outcome old new. IfSome outcome (λ why. PassesFolder on work folder why old new) in
    does_of {A = Option Outcome} on work (BeginsFolder work folder (Err fault.Failed)) Is (Ok (Some FolderFailed)) _ _
    (λ old new is. record { later = touched_parts on work folder old new is.changes; says = passed_failed on work folder old new is })
    (rw c.in-Err-Failed.field-0-is at c.in-Err-Failed.ensures)

pub returns-in-Err-Memory-clause-goes : goal.returns-in-Err-Memory-clause-goes
returns-in-Err-Memory-clause-goes g c =
    let on = c.args.self.now.course in
    let work = c.args.self.now.work in
    let folder = c.args.folder.now in
    let Is : Option Outcome → (old new : List Step) → Type 0 = λ outcome old new. IfSome outcome (λ why. PassesFolder on work folder why old new) in
    does_of {A = Option Outcome} on work (BeginsFolder work folder (Err fault.Memory)) Is (Err Memory) _ _
    (λ old new is. record { later = touched_parts on work folder old new is.changes; says = tt })
    (rw c.in-Err-Memory.field-0-is at c.in-Err-Memory.ensures)

pub returns-in-Ok-clause-of : goal.returns-in-Ok-clause-of
returns-in-Ok-clause-of g c = passed_of c.args.folder.now c.passed.result c.args.self.now.course c.in-Ok.leads_back c.passed.ensures
