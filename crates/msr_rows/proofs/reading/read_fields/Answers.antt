use Rattle.std.proofs.Common.{sym, ◌∙◌, FitsSigned, to_z-of_z, rules}
use Rattle.std.specs.Int.{w16}
use Rattle.msr_rows.proofs.FieldLemmas.{has_rate_true, has_rate_false, no_rate, other_encoding, bad_data_offset, fields_pass, kind_is_of_code}
use Rattle.msr_rows.proofs.reading.read_fields.Goals as goal

pub returns-in_default-clause-fields : goal.returns-in_default-clause-fields
returns-in_default-clause-fields c =
    let factor_fits : FitsSigned w16 c.args.header.now.factor = search rules in
    let multiplier_fits : FitsSigned w16 c.args.header.now.multiplier = search rules in
    let none = rw (c.in_default.is, to_z-of_z factor_fits, to_z-of_z multiplier_fits) at c.new.ensures in
    no_rate c.args.header.now (has_rate_false c.args.header.now none)

pub returns-in_default-of_code-clause-fields : goal.returns-in_default-of_code-clause-fields
returns-in_default-of_code-clause-fields c =
    let factor_fits : FitsSigned w16 c.args.header.now.factor = search rules in
    let multiplier_fits : FitsSigned w16 c.args.header.now.multiplier = search rules in
    let some = rw (c.in-Some.is, to_z-of_z factor_fits, to_z-of_z multiplier_fits) at c.new.ensures in
    other_encoding c.args.header.now (has_rate_true c.args.header.now some.0)
    (sym (kind_is_of_code c.args.header.now.encoding c.of_code.result c.of_code.ensures) ∙ c.in_default-of_code.is)

pub returns-then-not-has_area-clause-fields : goal.returns-then-not-has_area-clause-fields
returns-then-not-has_area-clause-fields c =
    let factor_fits : FitsSigned w16 c.args.header.now.factor = search rules in
    let multiplier_fits : FitsSigned w16 c.args.header.now.multiplier = search rules in
    let some = rw (c.in-Some.is, to_z-of_z factor_fits, to_z-of_z multiplier_fits) at c.new.ensures in
    bad_data_offset c.args.header.now _ (has_rate_true c.args.header.now some.0)
    (sym (kind_is_of_code c.args.header.now.encoding c.of_code.result c.of_code.ensures)
    ∙ c.in-Some-of_code.is) (sym c.has_area.ensures ∙ c.if-not-has_area.true)

pub returns-clause-fields : goal.returns-clause-fields
returns-clause-fields c =
    let factor_fits : FitsSigned w16 c.args.header.now.factor = search rules in
    let multiplier_fits : FitsSigned w16 c.args.header.now.multiplier = search rules in
    let some = rw (c.in-Some.is, to_z-of_z factor_fits, to_z-of_z multiplier_fits) at c.new.ensures in
    let code = sym (kind_is_of_code c.args.header.now.encoding c.of_code.result c.of_code.ensures)
    ∙ c.in-Some-of_code.is in (
      fields_pass c.args.header.now _ (has_rate_true c.args.header.now some.0) code
          (sym c.has_area.ensures ∙ c.if-not-has_area.false),
      code,
    )
