use Rattle.std.proofs.Common.{◌≡◌}
use Rattle.std.proofs.lemmas.Result.{err_from_is_err_and}
use Rattle.msr_tool.specs.Tasks.{verdict_line}
use Rattle.msr_tool.specs.declared.fault.ToolFault.TheVariants.{Memory}
use Rattle.msr_tool.proofs.StoppedRepacks.{ok_unread}
use Rattle.msr_tool.proofs.StoppedTexts.{check_stops, line_cut, line_told}
use Rattle.msr_tool.proofs.tasks.check_and_tell.Goals as goal

pub returns-in_err-verdict-clause-answer : goal.returns-in_err-verdict-clause-answer
returns-in_err-verdict-clause-answer g c =
    let p = err_from_is_err_and c.from_residual.result c.from_residual.ensures.1 in
    let a = c.in_err-verdict.ensures.answer in
    rw (p.1, p.2) (check_stops _ _ _ a.0 a.1 c.in_err-verdict.field-0.0 a.2 a.3 a.4)

pub returns-in_err-line-clause-answer : goal.returns-in_err-line-clause-answer
returns-in_err-line-clause-answer g c =
    let p = err_from_is_err_and c.from_residual-in_err-line.result c.from_residual-in_err-line.ensures.1 in
    let a = c.in_ok-verdict.ensures.answer in
    rw (p.1, p.2) (check_stops _ _ _ a.0 a.1 Memory a.2 a.3 tt)

pub returns-in_err-write_all-clause-answer : goal.returns-in_err-write_all-clause-answer
returns-in_err-write_all-clause-answer g c =
    let p = err_from_is_err_and c.from_residual-in_err-write_all.result c.from_residual-in_err-write_all.ensures.1 in
    let a = c.in_ok-verdict.ensures.answer in
    let part = c.in_err-write_all.ensures.part in
    let line : c.as_bytes.result.now ≡ verdict_line c.in_ok-verdict.verdict = rw c.as_bytes.ensures.value c.in_ok-line.ensures in
    rw (p.1, p.2) (line_cut _ _ _ _ a.0 a.1 c.as_bytes.result.now part.0 c.in_ok-verdict.verdict a.2 a.3 a.4 line part.1)

pub returns-in_err-write_all-clause-read : goal.returns-in_err-write_all-clause-read
returns-in_err-write_all-clause-read g c =
    let p = err_from_is_err_and c.from_residual-in_err-write_all.result c.from_residual-in_err-write_all.ensures.1 in
    rw (p.1, p.2) ((λ e. absurd cc), (λ failed. ok_unread _ _ (c.in_ok-verdict.ensures.read.1 failed)))

pub returns-clause-answer : goal.returns-clause-answer
returns-clause-answer g c =
    let a = c.in_ok-verdict.ensures.answer in
    let line : c.as_bytes.result.now ≡ verdict_line c.in_ok-verdict.verdict = rw c.as_bytes.ensures.value c.in_ok-line.ensures in
    line_told _ _ _ _ a.0 a.1 c.as_bytes.result.now c.in_ok-verdict.verdict a.2 a.3 a.4 line c.in_ok-write_all.ensures.all
