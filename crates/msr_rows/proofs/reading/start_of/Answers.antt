use Rattle.std.proofs.Common.{ap, ◌∙◌, ℤ, ◌+ℤ◌, FitsSigned, w8, w32, to_z-of_z, rules}
use Rattle.msr_time.specs.Instant.{instant_of}
use Rattle.msr_header.specs.declared.header.Timing.{Timing}
use Rattle.msr_rows.specs.Correction.{correction_micros}
use Rattle.msr_time.proofs.TimeLemmas.{start_first, moved_sum}
use Rattle.msr_rows.proofs.TimeLemmas.{IsMove, moved_near}
use Rattle.msr_rows.proofs.reading.start_of.Goals as goal

pub overflow_add-result : goal.overflow_add-result
overflow_add-result c =
    let micros_fit : FitsSigned w8 c.timing_or_zeros-micros.result.micros = search rules in
    (start_first c.args.header.now.time _ _ c.requires c.instant-time.ensures micros_fit).0

pub overflow_add-result-2 : goal.overflow_add-result-2
overflow_add-result-2 c =
    let micros_fit : FitsSigned w8 c.timing_or_zeros-micros.result.micros = search rules in
    let correction_fit : FitsSigned w32 c.args.header.now.correction = search rules in
    let moved = rw (to_z-of_z correction_fit) at c.correction_micros.ensures in
    let near : IsMove c.correction_micros.result =
    rw moved (moved_near c.args.header.now.activity c.args.header.now.correction correction_fit) in
    let first = start_first c.args.header.now.time _ _ c.requires c.instant-time.ensures micros_fit in
    (moved_sum c.args.header.now.time _ _ _ c.requires first.1 micros_fit near).0

pub returns : goal.returns
returns c =
    let micros_fit : FitsSigned w8 c.timing_or_zeros-micros.result.micros = search rules in
    let correction_fit : FitsSigned w32 c.args.header.now.correction = search rules in
    let moved = rw (to_z-of_z correction_fit) at c.correction_micros.ensures in
    let near : IsMove c.correction_micros.result =
    rw moved (moved_near c.args.header.now.activity c.args.header.now.correction correction_fit) in
    let first = start_first c.args.header.now.time _ _ c.requires c.instant-time.ensures micros_fit in
    (moved_sum c.args.header.now.time _ _ _ c.requires first.1 micros_fit near).1
    ∙ ap (λ (m : ℤ). (instant_of c.args.header.now.time +ℤ c.timing_or_zeros-micros.result.micros) +ℤ m) moved
    ∙ ap (λ (m : ℤ). (instant_of c.args.header.now.time +ℤ m) +ℤ correction_micros c.args.header.now.activity
    c.args.header.now.correction) (ap (λ (t : Timing). t.micros) c.timing_or_zeros-micros.ensures)
