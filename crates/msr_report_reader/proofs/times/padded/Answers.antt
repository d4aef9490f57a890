use Rattle.std.proofs.Common.{◌≡◌, ◌∙◌, ◌++◌, ap, sym, ℕ, List, arith, take-append-drop}
use Rattle.std.proofs.lemmas.Str.Parse.{digits_value_short}
use Rattle.msr_report.specs.Text.{padded_decimal}
use Rattle.msr_report_reader.specs.Fields.{with_digits}
use Rattle.msr_report_reader.proofs.Digits.{own}
use Rattle.msr_report_reader.proofs.Padded.{reads_padded, padded_parts, pow_small, pads}
use Rattle.msr_report_reader.proofs.times.padded.Goals as goal

pub returns-in_err-value-clause-only : goal.returns-in_err-value-clause-only
returns-in_err-value-clause-only c n rest fits is =
    let bound = pow_small c.args.width c.requires.few in
    let word = reads_padded c.args.width n c.requires.some fits (omega arith) in
    let parts = padded_parts c.in_ok-text.text.now rest c.split_at.result.0.now c.split_at.result.1.now
    (padded_decimal c.args.width n) c.args.width c.split_at.ensures.front c.split_at.ensures.back
    (c.in_ok-text.ensures.only (padded_decimal c.args.width n ++ rest) is) word.long in
    absurd (c.in_err-value.ensures (rw parts.0 word.all))

pub returns-clause-found : goal.returns-clause-found
returns-clause-found c =
    let is_front : c.in_ok-text.text.now ≡ c.split_at.result.0.now ++ c.split_at.result.1.now =
    rw (c.split_at.ensures.front, c.split_at.ensures.back) (sym (take-append-drop c.args.width c.in_ok-text.text.now)) in
    let word = pads c.split_at.result.0.now c.in_ok-value.ensures.0 (omega arith) (omega arith) in
    let same : padded_decimal c.args.width c.in_ok-value.value ≡ c.split_at.result.0.now =
    rw (sym c.split_at.ensures.front_len, c.in_ok-value.ensures.1) word in
    c.in_ok-text.ensures.found ∙ ap (λ (l : List ℕ). c.args.word.now ++ l)
    (is_front ∙ ap (λ (l : List ℕ). l ++ c.split_at.result.1.now) (sym same))

pub returns-clause-small : goal.returns-clause-small
returns-clause-small c =
    let short = digits_value_short own c.split_at.result.0.now c.args.width c.in_ok-value.ensures.0 (omega arith) in
    rw c.in_ok-value.ensures.1 short

pub returns-clause-only : goal.returns-clause-only
returns-clause-only c n rest fits is =
    let bound = pow_small c.args.width c.requires.few in
    let word = reads_padded c.args.width n c.requires.some fits (omega arith) in
    let parts = padded_parts c.in_ok-text.text.now rest c.split_at.result.0.now c.split_at.result.1.now
    (padded_decimal c.args.width n) c.args.width c.split_at.ensures.front c.split_at.ensures.back
    (c.in_ok-text.ensures.only (padded_decimal c.args.width n ++ rest) is) word.long in
    (c.in_ok-value.ensures.1 ∙ ap (with_digits 0) parts.0 ∙ word.is, parts.1)
