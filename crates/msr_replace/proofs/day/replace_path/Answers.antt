use Rattle.std.proofs.Common.{refl}
use Rattle.std.proofs.lemmas.Result.{err_from_is_err_and}
use Rattle.msr_replace.specs.Answers.{report_in}
use Rattle.msr_exchange.specs.Work.{names_in, stamp_in}
use Rattle.msr_exchange.proofs.NameLemmas.{are_stamp_names}
use Rattle.msr_replace.proofs.Exchanged.{replaced_none}
use Rattle.msr_replace.proofs.day.replace_path.Goals as goal

pub returns-in_err-names : goal.returns-in_err-names
returns-in_err-names g c =
    let p = err_from_is_err_and c.from_residual.result c.from_residual.ensures.1 in
    rw (p.1, p.2) (replaced_none (names_in c.args.work.now c.args.path.now) (stamp_in c.args.work.now c.args.path.now) c.args.work.now (report_in c.args.work.now c.args.path.now) _)

pub returns-in_err-report : goal.returns-in_err-report
returns-in_err-report g c =
    let p = err_from_is_err_and c.from_residual-in_err-report.result c.from_residual-in_err-report.ensures.1 in
    rw (p.1, p.2) (replaced_none (names_in c.args.work.now c.args.path.now) (stamp_in c.args.work.now c.args.path.now) c.args.work.now (report_in c.args.work.now c.args.path.now) _)

pub returns-in_err-stamp : goal.returns-in_err-stamp
returns-in_err-stamp g c =
    let p = err_from_is_err_and c.from_residual-in_err-stamp.result c.from_residual-in_err-stamp.ensures.1 in
    rw (p.1, p.2) (replaced_none (names_in c.args.work.now c.args.path.now) (stamp_in c.args.work.now c.args.path.now) c.args.work.now (report_in c.args.work.now c.args.path.now) _)

pub replace_stamped-requires-clause-stamp : goal.replace_stamped-requires-clause-stamp
replace_stamped-requires-clause-stamp g c =
    let work = c.args.work.now in
    rw (c.in_ok-names.ensures.names, c.in_ok-stamp.ensures) (are_stamp_names work.root.now work.out.now work.aside.now work.reports.now c.args.path.now c.requires.day.0 c.requires.day.1)

pub replace_stamped-requires-clause-report : goal.replace_stamped-requires-clause-report
replace_stamped-requires-clause-report g c = rw (c.as_str.ensures.value, c.in_ok-report.ensures) refl

pub returns : goal.returns
returns g c =
    let one = rw c.in_ok-names.ensures.names at c.replace_stamped.ensures in
    let two = rw c.in_ok-stamp.ensures at one in
    rw (c.as_str.ensures.value, c.in_ok-report.ensures) at two
