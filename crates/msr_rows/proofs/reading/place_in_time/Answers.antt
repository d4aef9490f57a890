-- By the test of the time.
use Rattle.std.proofs.Common.{◌≡◌, refl, ◌∙◌, FitsSigned, w64, to_z, of_z, to_z-of_z, rules}
use Rattle.msr_rows.specs.Correction.{key_of, start_of}
use Rattle.msr_rows.proofs.RowLemmas.{in_time_of, out_of_time}
use Rattle.msr_rows.proofs.reading.place_in_time.Goals as goal

pub returns-then-not-is_in_time-clause-out : goal.returns-then-not-is_in_time-clause-out
returns-then-not-is_in_time-clause-out c =
    let h = c.args.header.now in
    let fits : FitsSigned w64 c.start_of-start.result = search rules in
    let start : to_z w64 (of_z w64 c.start_of-start.result) ≡ start_of h = to_z-of_z fits ∙ c.start_of-start.ensures in
    rw start at (out_of_time h c.args.rate (key_of h)
    (to_z w64 (of_z w64 c.start_of-start.result)) h.samples c.is_in_time.result c.requires.factor
    c.requires.multiplier refl refl c.is_in_time.ensures c.if-not-is_in_time.true)

pub returns-clause-in_time : goal.returns-clause-in_time
returns-clause-in_time c =
    let h = c.args.header.now in
    let fits : FitsSigned w64 c.start_of-start.result = search rules in
    let start : to_z w64 (of_z w64 c.start_of-start.result) ≡ start_of h = to_z-of_z fits ∙ c.start_of-start.ensures in
    rw start at (in_time_of h c.args.rate (key_of h)
    (to_z w64 (of_z w64 c.start_of-start.result)) h.samples c.is_in_time.result c.requires.factor
    c.requires.multiplier refl refl c.is_in_time.ensures c.if-not-is_in_time.false)
