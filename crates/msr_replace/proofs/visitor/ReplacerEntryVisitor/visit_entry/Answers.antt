use Rattle.std.proofs.Common.{◌∙◌, refl, sym}
use Rattle.msr_folders.proofs.WalkedLemmas.{on_ok_as}
use Rattle.msr_folders.specs.Entries.{Entry}
use Rattle.msr_verify.proofs.VisitedLemmas.{no_day}
use Rattle.msr_replace.specs.Said.{said_of}
use Rattle.msr_replace.proofs.Saying.{passed_by, visited_still}
use Rattle.msr_replace.proofs.Touching.{visit_still}
use Rattle.msr_replace.proofs.visitor.ReplacerEntryVisitor.visit_entry.Goals as goal

pub returns-then-is_some-clause-told : goal.returns-then-is_some-clause-told
returns-then-is_some-clause-told g c =
    passed_by c.args.self.now.course c.args.self.now.work (Entry c.args.path.now c.args.kind) (g.T.Tree.went c.args.tree.now)
    (g.O.Sink.device c.args.out.now) c.args.progress.now (sym c.is_some.ensures ∙ c.if-is_some.true)

pub returns-in-Ok-clause-told : goal.returns-in-Ok-clause-told
returns-in-Ok-clause-told g c = c.tell_day.ensures.told c.args.kind

pub tell_other-requires-clause-other : goal.tell_other-requires-clause-other
tell_other-requires-clause-other g c =
    let said = c.parse.ensures in
    no_day c.args.path.now c.parse.result said.not_sds said.not_waveform said.bad_day c.in-Err.fault c.in-Err.is

pub returns-in-Err-clause-told : goal.returns-in-Err-clause-told
returns-in-Err-clause-told g c =
    let said = c.parse.ensures in
    on_ok_as c.tell_other.result (λ told. visited_still c.args.self.now.course c.args.self.now.work (Entry c.args.path.now c.args.kind) (said_of c.args.path.now told.outcome)
    (g.T.Tree.went c.args.tree.now) (g.O.Sink.device c.args.out.now) (g.O.Sink.device c.tell_other.new.out) c.args.progress.now c.tell_other.new.progress
    (λ past. (told.outcome, refl, record { day = λ day. let one = said.only day.0 day.1 in let other = c.in-Err.is in absurd cc; other = λ no. (told.is, refl) })) told.told)
    c.tell_other.ensures.told

pub returns-then-is_some-clause-does : goal.returns-then-is_some-clause-does
returns-then-is_some-clause-does g c = visit_still c.args.self.now.course c.args.self.now.work (g.T.Tree.went c.args.tree.now)

pub returns-in-Err-clause-does : goal.returns-in-Err-clause-does
returns-in-Err-clause-does g c = visit_still c.args.self.now.course c.args.self.now.work (g.T.Tree.went c.args.tree.now)
