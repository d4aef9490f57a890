use Rattle.std.proofs.lemmas.Result.{err_from_is_err_and}
use Rattle.std.proofs.Common.{refl}
use Rattle.msr_folders.proofs.VisitLemmas.{part_line, part_one, these_one}
use Rattle.msr_outcomes.specs.Entries.{Entry, IsTally}
use Rattle.msr_trial.proofs.Told.{none_told}
use Rattle.msr_trial.specs.Entries.{IsTrialEntry}
use Rattle.msr_trial.specs.Lines.{IsTrialLine}
use Rattle.msr_trial.proofs.walk.tell.Goals as goal

pub returns-in_err-line-clause-stops : goal.returns-in_err-line-clause-stops
returns-in_err-line-clause-stops g c =
    let p = err_from_is_err_and c.from_residual.result c.from_residual.ensures.1 in
    λ is. rw (p.1, p.2) (none_told c.args.trier.now.asked.now.days (g.O.Sink.device c.args.out.now))

pub returns-in_err-write_all-clause-stops : goal.returns-in_err-write_all-clause-stops
returns-in_err-write_all-clause-stops g c =
    let p = err_from_is_err_and c.from_residual-in_err-write_all.result c.from_residual-in_err-write_all.ensures.1 in
    let part = c.in_err-write_all.ensures.part in
    let days = c.args.trier.now.asked.now.days in
    let entry : Entry = record { path = c.args.path.now; channel = c.args.channel.now; outcome = c.args.outcome } in
    λ is. rw (p.1, p.2) (
      part_line (IsTrialEntry days) (IsTrialLine days) _ _ part.0 entry c.as_bytes.result.now (record { is = is })
          (rw c.as_bytes.ensures.value (c.in_ok-line.ensures c.args.channel.now)) part.1,
      c.in_err-write_all.ensures.failed,
    )

pub returns-in_err-add-clause-stops : goal.returns-in_err-add-clause-stops
returns-in_err-add-clause-stops g c =
    let p = err_from_is_err_and c.from_residual-in_err-add.result c.from_residual-in_err-add.ensures.1 in
    let days = c.args.trier.now.asked.now.days in
    let entry : Entry = record { path = c.args.path.now; channel = c.args.channel.now; outcome = c.args.outcome } in
    λ is. rw (p.1, p.2) (
      part_one (IsTrialEntry days) (IsTrialLine days) _ _ entry c.as_bytes.result.now (record { is = is })
          (rw c.as_bytes.ensures.value (c.in_ok-line.ensures c.args.channel.now)) c.in_ok-write_all.ensures.all,
      c.in_ok-write_all.ensures.calm.steady,
    )

pub returns-clause-told : goal.returns-clause-told
returns-clause-told g c =
    let days = c.args.trier.now.asked.now.days in
    let entry : Entry = record { path = c.args.path.now; channel = c.args.channel.now; outcome = c.args.outcome } in
    λ is. these_one (IsTrialEntry days) (IsTrialLine days) IsTally _ _ _ _ entry c.as_bytes.result.now (record { is = is })
    (rw c.as_bytes.ensures.value (c.in_ok-line.ensures c.args.channel.now)) c.in_ok-write_all.ensures.all c.in_ok-write_all.ensures.calm
    (λ before h. c.in_ok-add.ensures before entry h refl refl)
