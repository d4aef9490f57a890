use Rattle.std.proofs.Common.{◌≡◌, Err, Ok, rules}
use Rattle.std.proofs.lemmas.Result.{err_from_is_err_and}
use Rattle.msr_making.specs.Looking.{IsRegular}
use Rattle.msr_making.proofs.Fewer.{if_some, left_no_records, left_no_report, left_told, left_unasked, left_unopened, none_of, some_of}
use Rattle.msr_making.proofs.Verified.{opens_at}
use Rattle.msr_making.proofs.shrinking.samples_left.Goals as goal

pub returns-then-not-asked-clause-goes : goal.returns-then-not-asked-clause-goes
returns-then-not-asked-clause-goes g c = left_unasked c.args.files.now c.args.look.now c.args.asked.now _ c.if-not-asked.true

pub returns-then-is_none-clause-goes : goal.returns-then-is_none-clause-goes
returns-then-is_none-clause-goes g c = left_no_records c.args.files.now c.args.look.now c.args.asked.now _ (c.regular.ensures.none (none_of c.regular.result c.if-is_none.ensures))

pub returns-in_default-clause-goes : goal.returns-in_default-clause-goes
returns-in_default-clause-goes g c = left_no_report c.args.files.now c.args.look.now c.args.asked.now _ (c.regular-2.ensures.none c.in_default.is)

pub returns-in_err-source-clause-goes : goal.returns-in_err-source-clause-goes
returns-in_err-source-clause-goes g c =
    let p = err_from_is_err_and c.from_residual.result c.from_residual.ensures.1 in
    let path : c.as_str.result.now ≡ c.args.files.now.report.path = search rules in
    rw (p.1, p.2) (left_unopened c.args.files.now c.args.look.now c.args.asked.now (λ reader. g.T.Reader.Source.device reader) c.in_err-source.field-0.0 _ _ c.in_err-source.ensures.refuses
    (opens_at c.args.files.now.report.path (λ reader. g.T.Reader.Source.device reader) (Err c.in_err-source.field-0.0) _ _ _ c.in_err-source.ensures.told (rw path at c.open_found-opened.ensures.went)))

pub returns-clause-goes : goal.returns-clause-goes
returns-clause-goes g c =
    let path : c.as_str.result.now ≡ c.args.files.now.report.path = search rules in
    let records = some_of c.regular.result c.if-is_none.ensures in
    left_told c.args.files.now c.args.look.now c.args.asked.now (λ reader. g.T.Reader.Source.device reader) c.in_ok-source.source records.0 c.samples_told.result _ _ (if_some (IsRegular c.args.look.now.records) c.regular.result records.0 records.1 c.regular.ensures.found) c.samples_told.ensures.reads
    (opens_at c.args.files.now.report.path (λ reader. g.T.Reader.Source.device reader) (Ok c.in_ok-source.source) _ _ _ c.in_ok-source.ensures.told (rw path at c.open_found-opened.ensures.went))
