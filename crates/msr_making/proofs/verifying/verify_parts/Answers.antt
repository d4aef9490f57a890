use Rattle.std.proofs.lemmas.Result.{err_from_is_err_and}
use Rattle.std.proofs.Common.{◌≡◌, rules}
use Rattle.msr_options.specs.declared.hint.Side.TheVariants.{File, Records, Report}
use Rattle.msr_making.proofs.Verified.{not_opened, then_verified, told_verified, unopened_was, verified_not, verified_well}
use Rattle.msr_making.proofs.verifying.verify_parts.Goals as goal

pub returns-in_err-records-clause-told : goal.returns-in_err-records-clause-told
returns-in_err-records-clause-told g c =
    let p = err_from_is_err_and c.from_residual.result c.from_residual.ensures.1 in
    rw (p.1, p.2) (unopened_was c.args.options Records c.in_err-records.field-0.0 c.in_err-records.ensures.refuses)

pub returns-in_err-records-clause-goes : goal.returns-in_err-records-clause-goes
returns-in_err-records-clause-goes g c =
    let one : c.as_str.result.now ≡ c.args.files.now.records.part = search rules in
    let p = err_from_is_err_and c.from_residual.result c.from_residual.ensures.1 in
    rw (p.1, p.2) (not_opened c.args.input.now c.args.files.now c.args.options _ Records c.in_err-records.field-0.0 _ _ c.in_err-records.ensures.refuses (rw one at c.in_err-records.ensures.goes))

pub returns-in_err-report-clause-told : goal.returns-in_err-report-clause-told
returns-in_err-report-clause-told g c =
    let p = err_from_is_err_and c.from_residual-in_err-report.result c.from_residual-in_err-report.ensures.1 in
    rw (p.1, p.2) (unopened_was c.args.options Report c.in_err-report.field-0.0 c.in_err-report.ensures.refuses)

pub returns-in_err-report-clause-goes : goal.returns-in_err-report-clause-goes
returns-in_err-report-clause-goes g c =
    let one : c.as_str.result.now ≡ c.args.files.now.records.part = search rules in
    let two : c.as_str-2.result.now ≡ c.args.files.now.report.part = search rules in
    let p = err_from_is_err_and c.from_residual-in_err-report.result c.from_residual-in_err-report.ensures.1 in
    rw (p.1, p.2) (then_verified c.args.input.now c.args.files.now c.args.options _ _ _ _ _ _ (rw one at c.in_ok-records.ensures.goes) (not_opened c.args.input.now c.args.files.now c.args.options _ Report c.in_err-report.field-0.0 _ _ c.in_err-report.ensures.refuses (rw two at c.in_err-report.ensures.goes)))

pub returns-in_err-own-clause-told : goal.returns-in_err-own-clause-told
returns-in_err-own-clause-told g c =
    let p = err_from_is_err_and c.from_residual-in_err-own.result c.from_residual-in_err-own.ensures.1 in
    rw (p.1, p.2) (unopened_was c.args.options File c.in_err-own.field-0.0 c.in_err-own.ensures.refuses)

pub returns-in_err-own-clause-goes : goal.returns-in_err-own-clause-goes
returns-in_err-own-clause-goes g c =
    let one : c.as_str.result.now ≡ c.args.files.now.records.part = search rules in
    let two : c.as_str-2.result.now ≡ c.args.files.now.report.part = search rules in
    let p = err_from_is_err_and c.from_residual-in_err-own.result c.from_residual-in_err-own.ensures.1 in
    rw (p.1, p.2) (then_verified c.args.input.now c.args.files.now c.args.options _ _ _ _ _ _ (rw one at c.in_ok-records.ensures.goes) (then_verified c.args.input.now c.args.files.now c.args.options _ _ _ _ _ _ (rw two at c.in_ok-report.ensures.goes) (not_opened c.args.input.now c.args.files.now c.args.options _ File c.in_err-own.field-0.0 _ _ c.in_err-own.ensures.refuses c.in_err-own.ensures.goes)))

pub returns-in-Ok-clause-told : goal.returns-in-Ok-clause-told
returns-in-Ok-clause-told g c =
    let a = c.in-Ok.ensures.answer in
    record { file = a.input; records = a.written; text = a.text; verified = a.answers }

pub returns-in-Ok-clause-goes : goal.returns-in-Ok-clause-goes
returns-in-Ok-clause-goes g c =
    let one : c.as_str.result.now ≡ c.args.files.now.records.part = search rules in
    let two : c.as_str-2.result.now ≡ c.args.files.now.report.part = search rules in
    verified_well c.args.input.now c.args.files.now c.args.options (λ reader. g.T.Reader.Source.device reader) c.in_ok-records.records c.in_ok-report.report c.in_ok-own.own _ _ _ _ (rw one at c.in_ok-records.ensures.goes) (rw two at c.in_ok-report.ensures.goes) c.in_ok-own.ensures.goes c.in-Ok.ensures.answer

pub returns-clause-told : goal.returns-clause-told
returns-clause-told g c = told_verified c.args.options _ _ _ c.in-Err.fault c.in-Err.ensures.answer

pub returns-clause-goes : goal.returns-clause-goes
returns-clause-goes g c =
    let one : c.as_str.result.now ≡ c.args.files.now.records.part = search rules in
    let two : c.as_str-2.result.now ≡ c.args.files.now.report.part = search rules in
    verified_not c.args.input.now c.args.files.now c.args.options (λ reader. g.T.Reader.Source.device reader) c.in_ok-records.records c.in_ok-report.report c.in_ok-own.own _ _ _ _ (rw one at c.in_ok-records.ensures.goes) (rw two at c.in_ok-report.ensures.goes) c.in_ok-own.ensures.goes c.in-Err.fault c.in-Err.ensures.answer
