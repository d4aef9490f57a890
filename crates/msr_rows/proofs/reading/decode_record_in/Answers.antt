-- A row that is not in time, and that the first bytes decide.
use Rattle.std.proofs.Common.{rules}
use Rattle.std.proofs.lemmas.Result.{err_from_is_err_and}
use Rattle.msr_rows.proofs.FirstBytes.{first_same, record_same, refusal_same}
use Rattle.msr_rows.proofs.RowLemmas.{out_of_range}
use Rattle.msr_rows.proofs.reading.decode_record_in.Goals as goal

pub returns-in_err-opened-clause-refused_in_first : goal.returns-in_err-opened-clause-refused_in_first
returns-in_err-opened-clause-refused_in_first c =
    refusal_same c.from_residual.result c.args.rest.now _
    (first_same _ c.open_record.ensures.first_bytes) (search rules)

pub returns-in_default-clause-found_in_first : goal.returns-in_default-clause-found_in_first
returns-in_default-clause-found_in_first c =
    record_same c.args.rest.now _ _ (first_same _ c.open_record.ensures.first_bytes) (search rules)

pub returns-in_err-decoded-clause-refused_in_first : goal.returns-in_err-decoded-clause-refused_in_first
returns-in_err-decoded-clause-refused_in_first c =
    refusal_same c.from_residual-in_err-decoded.result c.args.rest.now _
    (first_same _ c.open_record.ensures.first_bytes) (search rules)

pub returns-in_err-key-clause-refused : goal.returns-in_err-key-clause-refused
returns-in_err-key-clause-refused c =
    let opened = c.in_ok-opened.opened in
    let fields = rw c.in-Some.is at c.in_ok-opened.ensures.opened.fields_are in
    let carried = rw (c.area_of-area.ensures.area, c.storage.ensures) at c.in_ok-decoded.ensures.samples in
    let p = err_from_is_err_and c.from_residual-in_err-key.result c.from_residual-in_err-key.ensures.1 in
    rw (p.1, p.2, c.in_err-key.ensures.fault)
    (λ other. out_of_range c.args.rest.now opened.header c.in-Some.kind c.in_ok-decoded.decoded.samples
    fields.has_area c.in_ok-decoded.ensures.count carried c.in_err-key.ensures.out)

pub returns-in_err-key-clause-refused_in_first : goal.returns-in_err-key-clause-refused_in_first
returns-in_err-key-clause-refused_in_first c =
    refusal_same c.from_residual-in_err-key.result c.args.rest.now _
    (first_same _ c.open_record.ensures.first_bytes) (returns-in_err-key-clause-refused c)

pub returns-clause-found_in_first : goal.returns-clause-found_in_first
returns-clause-found_in_first c =
    record_same c.args.rest.now _ _ (first_same _ c.open_record.ensures.first_bytes) (search rules)
