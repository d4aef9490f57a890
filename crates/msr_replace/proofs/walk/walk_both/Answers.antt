use Rattle.std.proofs.Common.{Result, Ok, Err, IfErr}
use Rattle.msr_devices.specs.declared.fault.DeviceFault.{DeviceFault}
use Rattle.msr_folders.proofs.WalkedLemmas.{on_ok_as}
use Rattle.msr_replace.specs.Walk.{StopsTellingExchanges}
use Rattle.msr_replace.proofs.LinesTold.{stops_more}
use Rattle.msr_replace.proofs.Saying.{both_courses}
use Rattle.msr_replace.proofs.Touching.{touched_both}
use Rattle.msr_replace.proofs.walk.walk_both.Goals as goal

if_err_as : {A : Type 0} (result : Result A DeviceFault) (P Q : DeviceFault → Type 0) → ((fault : DeviceFault) → P fault → Q fault) → IfErr result P → IfErr result Q
if_err_as (Ok x) P Q so p = tt
if_err_as (Err fault) P Q so p = so fault p

pub returns-clause-told : goal.returns-clause-told
returns-clause-told g c =
    on_ok_as c.walk_course-2.result (λ records. both_courses c.args.work.now c.args.below.now
    (g.T.Tree.went c.args.tree.now) (g.T.Tree.went c.walk_course.new.tree) (g.T.Tree.went c.walk_course-2.new.tree)
    (g.O.Sink.device c.args.out.now) (g.O.Sink.device c.walk_course.new.out) (g.O.Sink.device c.walk_course-2.new.out)
    c.args.progress.now c.walk_course.new.progress c.walk_course-2.new.progress c.in_ok-walk_course.ensures.told records) c.walk_course-2.ensures.told

pub returns-clause-stops : goal.returns-clause-stops
returns-clause-stops g c =
    let out0 = g.O.Sink.device c.args.out.now in
    let out1 = g.O.Sink.device c.walk_course.new.out in
    let out = g.O.Sink.device c.walk_course-2.new.out in
    if_err_as c.walk_course-2.result (StopsTellingExchanges out1 out) (StopsTellingExchanges out0 out)
    (λ fault stopped. stops_more out0 out1 out _ _ fault c.in_ok-walk_course.ensures.told.told.told.told stopped) c.walk_course-2.ensures.stops

pub returns-clause-changes : goal.returns-clause-changes
returns-clause-changes g c =
    touched_both c.args.work.now (g.T.Tree.went c.args.tree.now) (g.T.Tree.went c.walk_course.new.tree) (g.T.Tree.went c.walk_course-2.new.tree)
    c.walk_course.ensures.changes c.walk_course-2.ensures.changes
