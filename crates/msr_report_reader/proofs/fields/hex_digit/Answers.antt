use Rattle.std.proofs.Common.{arith, refl}
use Rattle.msr_report_reader.proofs.Bytes.{decimal_hex, letter_hex, no_hex, one_hex}
use Rattle.msr_report_reader.proofs.fields.hex_digit.Goals as goal

pub returns-then-digit-lt10-clause-found : goal.returns-then-digit-lt10-clause-found
returns-then-digit-lt10-clause-found c =
    let is = decimal_hex c.args.byte _ (omega arith) refl c.if-digit-lt10.true in (is.small, is.is)

pub returns-then-digit-lt10-clause-only : goal.returns-then-digit-lt10-clause-only
returns-then-digit-lt10-clause-only c n small same =
    one_hex c.args.byte _ n (decimal_hex c.args.byte _ (omega arith) refl c.if-digit-lt10.true) small same

pub overflow_add-result : goal.overflow_add-result
overflow_add-result c = omega (arith, c.if-letter-lt6.true)

pub returns-then-letter-lt6-clause-found : goal.returns-then-letter-lt6-clause-found
returns-then-letter-lt6-clause-found c =
    let is = letter_hex c.args.byte _ (omega arith) refl c.if-letter-lt6.true in (is.small, is.is)

pub returns-then-letter-lt6-clause-only : goal.returns-then-letter-lt6-clause-only
returns-then-letter-lt6-clause-only c n small same =
    one_hex c.args.byte _ n (letter_hex c.args.byte _ (omega arith) refl c.if-letter-lt6.true) small same

pub returns-clause-only : goal.returns-clause-only
returns-clause-only c n small same =
    no_hex c.args.byte _ _ n (omega arith) refl c.if-digit-lt10.false refl c.if-letter-lt6.false small same
