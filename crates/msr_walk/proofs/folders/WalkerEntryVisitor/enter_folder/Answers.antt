use Rattle.std.proofs.Common.{refl}
use Rattle.std.proofs.lemmas.Result.{err_from_is_err_and}
use Rattle.msr_walk.proofs.EntriesTold.{none_among, none_told}
use Rattle.msr_walk.proofs.Working.{goes_works_none, rests_nothing}
use Rattle.msr_walk.proofs.folders.WalkerEntryVisitor.enter_folder.Goals as goal

pub returns-then-levels-gt0-clause-told : goal.returns-then-levels-gt0-clause-told
returns-then-levels-gt0-clause-told g c = (none_among (λ of. of.tally) c.args.self.now.archive.now (g.O.Sink.device c.args._out.now) _ _ refl, rests_nothing c.args.self.now.archive.now _)

pub returns-then-levels-gt0-clause-does : goal.returns-then-levels-gt0-clause-does
returns-then-levels-gt0-clause-does g c = goes_works_none c.args.self.now.archive.now _ _

pub returns-in_err-apart-clause-stops : goal.returns-in_err-apart-clause-stops
returns-in_err-apart-clause-stops g c =
    let p = err_from_is_err_and c.from_residual.result c.from_residual.ensures.1 in
    rw (p.1, p.2) (none_told c.args.self.now.archive.now (g.O.Sink.device c.args._out.now))

pub returns-in_err-apart-clause-does : goal.returns-in_err-apart-clause-does
returns-in_err-apart-clause-does g c = goes_works_none c.args.self.now.archive.now _ _

pub returns-clause-told : goal.returns-clause-told
returns-clause-told g c = (none_among (λ of. of.tally) c.args.self.now.archive.now (g.O.Sink.device c.args._out.now) _ _ refl, rests_nothing c.args.self.now.archive.now _)

pub returns-clause-does : goal.returns-clause-does
returns-clause-does g c = goes_works_none c.args.self.now.archive.now _ _
