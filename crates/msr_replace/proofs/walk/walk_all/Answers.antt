use Rattle.std.proofs.Common.{subst, true, false, OnOk}
use Rattle.msr_folders.proofs.WalkedLemmas.{on_ok_as}
use Rattle.msr_replace.specs.Tree.{TellsCourses}
use Rattle.msr_replace.proofs.Saying.{one_course}
use Rattle.msr_replace.proofs.walk.walk_all.Goals as goal

pub returns-then-asked-clause-told : goal.returns-then-asked-clause-told
returns-then-asked-clause-told g c =
    rw c.if-asked.true (subst (λ below. OnOk c.walk_course.result (TellsCourses true c.args.work.now below
    (g.T.Tree.went c.args.tree.now) (g.T.Tree.went c.walk_course.new.tree) (g.O.Sink.device c.args.out.now) (g.O.Sink.device c.walk_course.new.out)
    c.args.progress.now c.walk_course.new.progress)) c.as_slice-below.ensures.value
    (on_ok_as c.walk_course.result (λ told. one_course c.args.work.now c.as_slice-below.result.now
    (g.T.Tree.went c.args.tree.now) (g.T.Tree.went c.walk_course.new.tree) (g.O.Sink.device c.args.out.now) (g.O.Sink.device c.walk_course.new.out)
    c.args.progress.now c.walk_course.new.progress told) c.walk_course.ensures.told))

pub returns-clause-told : goal.returns-clause-told
returns-clause-told g c =
    rw c.if-asked.false (subst (λ below. OnOk c.walk_both.result (TellsCourses false c.args.work.now below
    (g.T.Tree.went c.args.tree.now) (g.T.Tree.went c.walk_both.new.tree) (g.O.Sink.device c.args.out.now) (g.O.Sink.device c.walk_both.new.out)
    c.args.progress.now c.walk_both.new.progress)) c.as_slice-below.ensures.value c.walk_both.ensures.told)
