use Rattle.std.proofs.Common.{rules}
use Rattle.std.specs.String.{string_bytes}
use Rattle.msr_walk.proofs.Working.{goes_settles_none, stamps_work}
use Rattle.msr_walk.proofs.batch.Batch.name_all.Goals as goal

pub returns-in_err-store_names-clause-works : goal.returns-in_err-store_names-clause-works
returns-in_err-store_names-clause-works g c = goes_settles_none c.args.walker.now.archive.now _ _

pub returns-in_err-out-clause-works : goal.returns-in_err-out-clause-works
returns-in_err-out-clause-works g c = goes_settles_none c.args.walker.now.archive.now _ _

pub returns-in_err-reports-clause-works : goal.returns-in_err-reports-clause-works
returns-in_err-reports-clause-works g c = goes_settles_none c.args.walker.now.archive.now _ _

pub returns-clause-works : goal.returns-clause-works
returns-clause-works g c =
    let archive = c.args.walker.now.archive.now in
    stamps_work archive c.args.walker.now.apart (string_bytes c.args.self.now.folder) _ _ c.args.ours.now c.name_stamps.result _ _ c.requires c.name_stamps.ensures (search rules) (search rules)
