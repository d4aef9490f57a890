use Rattle.std.proofs.Common.{[], Option, ◌≡◌, ◌∙◌, subst}
use Rattle.std.proofs.lemmas.Result.{err_from_is_err_and}
use Rattle.msr_tree.specs.declared.facts.Facts.{Facts}
use Rattle.msr_tree.specs.Calls.{Looks}
use Rattle.msr_tree.proofs.Acting.{goes_tells, stopped_as, then_ok, then_stopped}
use Rattle.msr_replace.specs.Looks.{IsSeenDay}
use Rattle.msr_replace.specs.declared.looks.Looked.{Looked}
use Rattle.msr_replace.proofs.looks.look_at_day.Goals as goal

pub returns-in_err-file : goal.returns-in_err-file
returns-in_err-file g c =
    let p = err_from_is_err_and c.from_residual.result c.from_residual.ensures.1 in
    rw (p.1, p.2) (stopped_as {A = Option Facts} {B = Looked} [] _ (IsSeenDay c.args.names.now c.args.report.now) _ _ _ (goes_tells {T = Option Facts} [] (Looks c.at.result.now) _ _ _ c.in_err-file.ensures))

pub returns-in_err-records : goal.returns-in_err-records
returns-in_err-records g c =
    let p = err_from_is_err_and c.from_residual-in_err-records.result c.from_residual-in_err-records.ensures.1 in
    let first = goes_tells {T = Option Facts} [] (Looks c.at.result.now) _ _ _ c.in_ok-file.ensures in
    let second = goes_tells {T = Option Facts} [] (Looks c.at-2.result.now) _ _ _ c.in_err-records.ensures in
    rw (p.1, p.2) (then_stopped {A = Option Facts} {B = Option Facts} {C = Looked} [] _ _ (IsSeenDay c.args.names.now c.args.report.now) c.in_ok-file.file _ _ _ _ first second)

pub returns-in_err-report : goal.returns-in_err-report
returns-in_err-report g c =
    let p = err_from_is_err_and c.from_residual-in_err-report.result c.from_residual-in_err-report.ensures.1 in
    let first = goes_tells {T = Option Facts} [] (Looks c.at.result.now) _ _ _ c.in_ok-file.ensures in
    let second = goes_tells {T = Option Facts} [] (Looks c.at-2.result.now) _ _ _ c.in_ok-records.ensures in
    let third = goes_tells {T = Option Facts} [] (Looks c.args.report.now) _ _ _ c.in_err-report.ensures in
    let both = then_ok {A = Option Facts} {B = Option Facts} {C = Unit {0}} [] _ _ (λ old new x. Unit {0}) c.in_ok-file.file c.in_ok-records.records tt _ _ _ (λ p q r a b x y. tt) first second in
    rw (p.1, p.2) (then_stopped {A = Unit {0}} {B = Option Facts} {C = Looked} [] _ _ (IsSeenDay c.args.names.now c.args.report.now) tt _ _ _ _ both third)

pub returns : goal.returns
returns g c =
    let file = c.in_ok-file.file in
    let records = c.in_ok-records.records in
    let report = c.in_ok-report.report in
    let text = c.args.report.now in
    let first = goes_tells {T = Option Facts} [] (Looks c.at.result.now) _ _ _ c.in_ok-file.ensures in
    let second = goes_tells {T = Option Facts} [] (Looks c.at-2.result.now) _ _ _ c.in_ok-records.ensures in
    let third = goes_tells {T = Option Facts} [] (Looks text) _ _ _ c.in_ok-report.ensures in
    let both = then_ok {A = Option Facts} {B = Option Facts} {C = Unit {0}} [] _ _ (λ old new x. (new ≡ old) × Looks c.at.result.now old file × Looks c.at-2.result.now old records) file records tt _ _ _
    (λ p q r a b x y. (b.0 ∙ a.0, a.1, subst (λ s. Looks c.at-2.result.now s records) a.0 b.1)) first second in
    then_ok {A = Unit {0}} {B = Option Facts} {C = Looked} [] _ _ (IsSeenDay c.args.names.now text) tt report (record { file = file; records = records; report = report }) _ _ _
    (λ p q r a b x y. record {
      file = subst (λ n. Looks n p file) c.at.ensures a.1;
      records = subst (λ n. Looks n p records) c.at-2.ensures a.2;
      text = subst (λ s. Looks text s report) a.0 b.1;
    }) both third
