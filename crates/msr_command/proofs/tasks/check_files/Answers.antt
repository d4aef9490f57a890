use Rattle.std.proofs.Common.{inl, refl}
use Rattle.std.proofs.lemmas.Result.{err_from_is_err_and}
use Rattle.msr_command.proofs.Endings.{check_unread}
use Rattle.msr_command.proofs.Inputs.{leads_to}
use Rattle.msr_command.proofs.tasks.check_files.Goals as goal

pub returns-in_err-packed : goal.returns-in_err-packed
returns-in_err-packed g c =
    let p = err_from_is_err_and c.from_residual.result c.from_residual.ensures.1 in
    rw (p.1, p.2) (check_unread (g.F.NamedFiles.went c.args.files.now) c.args.asked.now
    (g.O.Sink.device c.args.output.now) c.in_err-packed.field-0.0 c.in_err-packed.ensures.stop)

pub returns-in_err-report : goal.returns-in_err-report
returns-in_err-report g c =
    let p = err_from_is_err_and c.from_residual-in_err-report.result
    c.from_residual-in_err-report.ensures.1 in
    rw (p.1, p.2) (check_unread (g.F.NamedFiles.went c.args.files.now) c.args.asked.now
    (g.O.Sink.device c.args.output.now) c.in_err-report.field-0.0 c.in_err-report.ensures.stop)

pub returns-in_err-verdict : goal.returns-in_err-verdict
returns-in_err-verdict g c =
    let p = err_from_is_err_and c.from_residual-in_err-verdict.result c.from_residual-in_err-verdict.ensures.1 in
    let a = c.in_err-verdict.ensures.answer in
    rw (p.1, p.2) (record {
      input = a.input;
      text = a.text;
      printed = a.told;
      packed = λ opened. leads_to c.in_ok-packed.ensures.reads a.left;
      report = λ opened. leads_to c.in_ok-report.ensures.reads a.left_text;
      prints = a.told_all;
      ends = inl a.answers;
    })

pub returns : goal.returns
returns g c =
    let a = c.in_ok-verdict.ensures.answer in
    record {
      input = a.input;
      text = a.text;
      printed = a.told;
      packed = λ opened. leads_to c.in_ok-packed.ensures.reads a.left;
      report = λ opened. leads_to c.in_ok-report.ensures.reads a.left_text;
      prints = a.told_all;
      ends = (_, refl, a.answers);
    }
