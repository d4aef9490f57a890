use Rattle.std.proofs.Common.{◌≡◌, ◌∙◌, ap, sym, refl, arith, ◌++◌, List, ℕ, pos, ◌+ℤ◌}
use Rattle.msr_time.specs.declared.btime.BTime.{BTime}
use Rattle.msr_time.specs.Instant.{IsTime, instant_of}
use Rattle.msr_report.specs.Text.{split_text}
use Rattle.msr_report_reader.specs.Fields.{split_then}
use Rattle.msr_report_reader.proofs.Instants.{split_same, sum_is}
use Rattle.msr_report_reader.proofs.times.instant.Goals as goal

pub returns-in_err-time-clause-only : goal.returns-in_err-time-clause-only
returns-in_err-time-clause-only c t word rest is_text is =
    let text : c.args.text.now ≡ split_then is_text.time is_text.micros rest = is
    ∙ ap (λ (l : List ℕ). l ++ rest) is_text.is ∙ split_same is_text.time is_text.micros rest in
    absurd (c.in_err-time.ensures.only is_text.time is_text.micros rest is_text.split.is_time is_text.split.below text)

pub returns-then-time-gt59-clause-only : goal.returns-then-time-gt59-clause-only
returns-then-time-gt59-clause-only c t word rest is_text is =
    let text : c.args.text.now ≡ split_then is_text.time is_text.micros rest = is
    ∙ ap (λ (l : List ℕ). l ++ rest) is_text.is ∙ split_same is_text.time is_text.micros rest in
    let read = c.in_ok-time.ensures.only is_text.time is_text.micros rest is_text.split.is_time is_text.split.below
    text in
    let second : c.in_ok-time.time.second ≡ is_text.time.second = ap (λ (x : BTime). x.second) read.0 in
    omega (arith, is_text.split.no_leap_second)

pub returns-in_err-whole-clause-only : goal.returns-in_err-whole-clause-only
returns-in_err-whole-clause-only c t word rest is_text is =
    let text : c.args.text.now ≡ split_then is_text.time is_text.micros rest = is
    ∙ ap (λ (l : List ℕ). l ++ rest) is_text.is ∙ split_same is_text.time is_text.micros rest in
    let read = c.in_ok-time.ensures.only is_text.time is_text.micros rest is_text.split.is_time is_text.split.below
    text in
    let time : IsTime c.in_ok-time.time = rw read.0 is_text.split.is_time in
    absurd (c.in_err-whole.ensures time)

pub overflow_add-result : goal.overflow_add-result
overflow_add-result c = (sum_is c.in_ok-time.time c.in_ok-time.micros c.in_ok-whole.whole c.in_ok-whole.ensures.0
    (omega arith) c.in_ok-time.ensures.below c.in_ok-whole.ensures.1).fits

pub returns-clause-range : goal.returns-clause-range
returns-clause-range c =
    let s = sum_is c.in_ok-time.time c.in_ok-time.micros c.in_ok-whole.whole c.in_ok-whole.ensures.0
    (omega arith) c.in_ok-time.ensures.below c.in_ok-whole.ensures.1 in
    rw s.is s.range

pub returns-clause-found : goal.returns-clause-found
returns-clause-found c =
    let s = sum_is c.in_ok-time.time c.in_ok-time.micros c.in_ok-whole.whole c.in_ok-whole.ensures.0
    (omega arith) c.in_ok-time.ensures.below c.in_ok-whole.ensures.1 in (
      split_text c.in_ok-time.time c.in_ok-time.micros,
      (
        record { time = c.in_ok-time.time; micros = c.in_ok-time.micros; split = rw s.is s.split; is = refl },
        c.in_ok-time.ensures.found ∙ sym (split_same c.in_ok-time.time c.in_ok-time.micros c.in_ok-time.rest.now),
      ),
    )

pub returns-clause-only : goal.returns-clause-only
returns-clause-only c t word rest is_text is =
    let text : c.args.text.now ≡ split_then is_text.time is_text.micros rest = is
    ∙ ap (λ (l : List ℕ). l ++ rest) is_text.is ∙ split_same is_text.time is_text.micros rest in
    let read = c.in_ok-time.ensures.only is_text.time is_text.micros rest is_text.split.is_time is_text.split.below
    text in
    let s = sum_is c.in_ok-time.time c.in_ok-time.micros c.in_ok-whole.whole c.in_ok-whole.ensures.0
    (omega arith) c.in_ok-time.ensures.below c.in_ok-whole.ensures.1 in
    let same : instant_of c.in_ok-time.time +ℤ pos c.in_ok-time.micros ≡ t = rw (read.0, read.1) is_text.split.sum in
    (s.is ∙ same, read.2)
