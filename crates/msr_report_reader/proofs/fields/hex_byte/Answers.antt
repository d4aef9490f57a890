use Rattle.std.proofs.Common.{◌/◌, ◌%◌, ◌∙◌, ap, arith, length, sym}
use Rattle.msr_report_reader.proofs.Bytes.{hex_front, hex_two}
use Rattle.msr_report_reader.proofs.LineFeeds.{same_cons}
use Rattle.msr_report_reader.proofs.fields.hex_byte.Goals as goal

pub returns-in_err-first-clause-only : goal.returns-in_err-first-clause-only
returns-in_err-first-clause-only c n rest small is =
    let long = ap length is in absurd (omega (arith, long, c.in_err-first.ensures.cases))

pub returns-in_err-second-clause-only : goal.returns-in_err-second-clause-only
returns-in_err-second-clause-only c n rest small is =
    let front = hex_front c.args.text.now c.in_ok-first.text.now rest c.in_ok-first.first.now n
    c.in_ok-first.ensures.cases.0 is in
    let long = ap length front.1 in absurd (omega (arith, long, c.in_err-second.ensures.cases))

pub returns-in_err-high-clause-only : goal.returns-in_err-high-clause-only
returns-in_err-high-clause-only c n rest small is =
    let front = hex_front c.args.text.now c.in_ok-first.text.now rest c.in_ok-first.first.now n
    c.in_ok-first.ensures.cases.0 is in
    absurd (c.in_err-high.ensures.only (n / 16) (omega arith) front.0)

pub returns-in_err-low-clause-only : goal.returns-in_err-low-clause-only
returns-in_err-low-clause-only c n rest small is =
    let front = hex_front c.args.text.now c.in_ok-first.text.now rest c.in_ok-first.first.now n
    c.in_ok-first.ensures.cases.0 is in
    let back = same_cons c.in_ok-second.second.now _ c.in_ok-second.rest.now rest
    (sym c.in_ok-second.ensures.cases.0 ∙ front.1) in
    absurd (c.in_err-low.ensures.only (n % 16) (omega arith) back.0)

pub overflow_mul-result : goal.overflow_mul-result
overflow_mul-result c = omega (arith, c.in_ok-high.ensures.found.0)

pub overflow_add-result : goal.overflow_add-result
overflow_add-result c = omega (arith, c.in_ok-high.ensures.found.0, c.in_ok-low.ensures.found.0)

pub returns-clause-found : goal.returns-clause-found
returns-clause-found c =
    hex_two c.args.text.now c.in_ok-first.text.now c.in_ok-second.rest.now c.in_ok-first.first.now
    c.in_ok-second.second.now c.in_ok-high.high c.in_ok-low.low c.in_ok-first.ensures.cases.0
    c.in_ok-second.ensures.cases.0 c.in_ok-high.ensures.found.0 c.in_ok-high.ensures.found.1
    c.in_ok-low.ensures.found.0 c.in_ok-low.ensures.found.1

pub returns-clause-only : goal.returns-clause-only
returns-clause-only c n rest small is =
    let front = hex_front c.args.text.now c.in_ok-first.text.now rest c.in_ok-first.first.now n
    c.in_ok-first.ensures.cases.0 is in
    let back = same_cons c.in_ok-second.second.now _ c.in_ok-second.rest.now rest
    (sym c.in_ok-second.ensures.cases.0 ∙ front.1) in
    let high = c.in_ok-high.ensures.only (n / 16) (omega arith) front.0 in
    let low = c.in_ok-low.ensures.only (n % 16) (omega arith) back.0 in
    (omega (arith, high, low), back.1)
