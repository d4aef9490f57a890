use Rattle.std.proofs.Common.{◌≡◌, ℕ, ℤ, pos, ◌+ℤ◌, FitsSigned, w64, to_z-of_z, arith, rules}
use Rattle.std.proofs.lemmas.Bool.Decides.{Decides-ltb}
use Rattle.jiff_core.proofs.SignedLemmas.{signed_arith}
use Rattle.msr_time.specs.Instant.{IsTime, instant_of}
use Rattle.msr_time.proofs.TimeLemmas.{instant_near}
use Rattle.msr_folders.specs.Times.{midnight}
use Rattle.msr_folders.proofs.OnDays.{has_first, has_some}
use Rattle.msr_folders.proofs.times.has_sample_on.Goals as goal

-- the midnight and the next one fit
fits : (year day : ℕ) (from : ℤ) → IsTime (midnight year day) → from ≡ instant_of (midnight year day) → FitsSigned w64 from × FitsSigned w64 (from +ℤ pos 86_400_000_000)
fits year day from exists is =
    let near = instant_near (midnight year day) exists in
    rw is (omega (arith, signed_arith), omega (arith, signed_arith))

pub overflow_add-from : goal.overflow_add-from
overflow_add-from c =
    let both = fits c.args.year c.args.day c.in-Some.from c.in-Some.ensures.0 c.in-Some.ensures.1 in
    rw (to_z-of_z both.0) both.1

pub returns-then-first-after : goal.returns-then-first-after
returns-then-first-after c =
    let is = c.in-Some.ensures in
    let both = fits c.args.year c.args.day c.in-Some.from is.0 is.1 in
    let first = c.first_from-first.result in
    let after = c.first_from-after.result in
    let start : FitsSigned w64 c.args.segment.now.start = search rules in
    let count = rw (to_z-of_z start, to_z-of_z both.0) at c.first_from-first.ensures.count in
    let later = rw (to_z-of_z start, to_z-of_z both.0, to_z-of_z both.1) at c.first_from-after.ensures.count in
    let each = rw (to_z-of_z start) at c.first_from-first.ensures.each in
    let test = Decides-ltb first c.args.segment.now.count in (
      λ t. has_some c.args.segment.now c.args.year c.args.day first after c.in-Some.from is.0 is.1 count later
          each c.if-first-after.true (test.0 t),
      λ has. test.1 (has_first c.args.segment.now c.args.year c.args.day first after c.in-Some.from is.0 is.1 count later has).1,
    )

pub returns-else-first-after : goal.returns-else-first-after
returns-else-first-after c =
    let is = c.in-Some.ensures in
    let both = fits c.args.year c.args.day c.in-Some.from is.0 is.1 in
    let first = c.first_from-first.result in
    let after = c.first_from-after.result in
    let start : FitsSigned w64 c.args.segment.now.start = search rules in
    let count = rw (to_z-of_z start, to_z-of_z both.0) at c.first_from-first.ensures.count in
    let later = rw (to_z-of_z start, to_z-of_z both.0, to_z-of_z both.1) at c.first_from-after.ensures.count in
    let each = rw (to_z-of_z start) at c.first_from-first.ensures.each in
    let test = Decides-ltb first after in (
      λ t. let sooner = test.0 t in let not = c.if-first-after.false in absurd (omega arith),
      λ has. test.1 (has_first c.args.segment.now c.args.year c.args.day first after c.in-Some.from is.0 is.1 count later has).0,
    )
