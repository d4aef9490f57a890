use Rattle.std.proofs.lemmas.Result.{err_from_is_err_and}
use Rattle.std.proofs.Common.{◌≡◌, refl}
use Rattle.std.specs.String.{string_bytes}
use Rattle.msr_folders.proofs.VisitLemmas.{part_line, these_one}
use Rattle.msr_verify.specs.Entries.{IsVerifyTally, JudgedEntry}
use Rattle.msr_verify.specs.Known.{IsJudgedEntry}
use Rattle.msr_verify.specs.Lines.{IsToldLine}
use Rattle.msr_verify.proofs.EntriesFound.{none_told}
use Rattle.msr_verify.proofs.visitors.tell.Goals as goal

pub returns-in_err-judgement-clause-stops : goal.returns-in_err-judgement-clause-stops
returns-in_err-judgement-clause-stops g c =
    let p = err_from_is_err_and c.from_residual.result c.from_residual.ensures.1 in
    λ is. rw (p.1, p.2) (none_told c.args.archive.now (g.O.Sink.device c.args.out.now))

pub returns-in_err-line-clause-stops : goal.returns-in_err-line-clause-stops
returns-in_err-line-clause-stops g c =
    let p = err_from_is_err_and c.from_residual-in_err-line.result c.from_residual-in_err-line.ensures.1 in
    λ is. rw (p.1, p.2) (none_told c.args.archive.now (g.O.Sink.device c.args.out.now))

pub returns-in_err-write_all-clause-stops : goal.returns-in_err-write_all-clause-stops
returns-in_err-write_all-clause-stops g c =
    let p = err_from_is_err_and c.from_residual-in_err-write_all.result c.from_residual-in_err-write_all.ensures.1 in
    let part = c.in_err-write_all.ensures.part in
    let asked = c.args.archive.now in
    let entry : JudgedEntry = record { path = c.args.path.now; judgement = c.in_ok-judgement.judgement } in
    let text : c.as_bytes.result.now ≡ string_bytes c.in_ok-line.line = c.as_bytes.ensures.value in
    λ is. rw (p.1, p.2) (
      part_line (IsJudgedEntry asked) (IsToldLine asked) _ _ part.0 entry c.as_bytes.result.now
          (record { found = c.args.judgement; of = is; is = c.in_ok-judgement.ensures })
          (rw text c.in_ok-line.ensures) part.1,
      c.in_err-write_all.ensures.failed,
    )

pub returns-clause-told : goal.returns-clause-told
returns-clause-told g c =
    let asked = c.args.archive.now in
    let entry : JudgedEntry = record { path = c.args.path.now; judgement = c.in_ok-judgement.judgement } in
    let text : c.as_bytes.result.now ≡ string_bytes c.in_ok-line.line = c.as_bytes.ensures.value in
    λ is. rw (← c.in_ok-judgement.ensures) (these_one (IsJudgedEntry asked) (IsToldLine asked) IsVerifyTally _ _ _ _ entry c.as_bytes.result.now
    (record { found = c.args.judgement; of = is; is = c.in_ok-judgement.ensures })
    (rw text c.in_ok-line.ensures) c.in_ok-write_all.ensures.all c.in_ok-write_all.ensures.calm
    (λ before h. c.add.ensures before entry h refl))
