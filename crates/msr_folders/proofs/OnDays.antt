-- Whether a segment has a sample on a day, by the first sample that is not before it, and the first that is after it.
use Rattle.std.proofs.Common.{◌≡◌, ℕ, ◌<◌, ◌≤◌, arith, subst, sym, ℤ, pos, ◌+ℤ◌, ◌≤ℤ◌, ◌<ℤ◌}
use Rattle.std.specs.Prelude.{◌↔◌}
use Rattle.std.proofs.lemmas.Int.{by_lt_z}
use Rattle.jiff_core.proofs.SignedLemmas.{signed_arith}
use Rattle.msr_report.specs.declared.json.ListedSegment.{ListedSegment}
use Rattle.msr_time.specs.Instant.{IsTime, instant_of}
use Rattle.msr_time.specs.SampleRate.{IsRoundedNominal}
use Rattle.msr_folders.specs.Times.{HasSampleOn, midnight}

module _ (segment : ListedSegment) (year day first after : ℕ) (from : ℤ) (exists : IsTime (midnight year day)) (is : from ≡ instant_of (midnight year day))
    (count : (n : ℕ) (r : ℤ) → IsRoundedNominal segment.key.rate segment.start n r → (from ≤ℤ r) ↔ (first ≤ n))
    (later : (n : ℕ) (r : ℤ) → IsRoundedNominal segment.key.rate segment.start n r → ((from +ℤ pos 86_400_000_000) ≤ℤ r) ↔ (after ≤ n)) where
  pub has_some : ((n : ℕ) → (r : ℤ) × IsRoundedNominal segment.key.rate segment.start n r) → first < after → first < segment.count → HasSampleOn year day segment
  has_some each sooner within =
      let one = each first in
      record {
        place = first;
        within = within;
        instant = one.0;
        nominal = one.1;
        on = record {
          exists = exists;
          from = subst (λ (f : ℤ). f ≤ℤ one.0) is ((count first one.0 one.1).1 (omega arith));
          before = subst (λ (f : ℤ). one.0 <ℤ (f +ℤ pos 86_400_000_000)) is
              (by_lt_z one.0 (from +ℤ pos 86_400_000_000) (λ lt. lt) (λ le. let too_late = (later first one.0 one.1).0 le in absurd (omega arith)));
        };
      }

  pub has_first : HasSampleOn year day segment → (first < after) × (first < segment.count)
  has_first has =
      let on = has.on in
      let least = (count has.place has.instant has.nominal).0 (subst (λ (f : ℤ). f ≤ℤ has.instant) (sym is) on.from) in
      let within = has.within in
      let before = subst (λ (f : ℤ). has.instant <ℤ (f +ℤ pos 86_400_000_000)) (sym is) on.before in
      let not_late : after ≤ has.place → ⊥ =
      λ le. let late = (later has.place has.instant has.nominal).1 le in omega (arith, signed_arith) in
      (omega arith, omega arith)
