use Rattle.std.proofs.Common.{◌+◌, ◌∙◌, ap, min, refl, rules, FitsSigned, w32, to_z-of_z}
use Rattle.msr_compare.proofs.MeetingLemmas.{passes_samples, values_differ}
use Rattle.msr_compare.proofs.meeting.meet_samples.Goals as goal

pub returns-in-Some : goal.returns-in-Some
returns-in-Some c =
    let unequal = rw (c.samples.ensures, c.samples-2.ensures, c.ahead.ensures, c.ahead-2.ensures) at c.in-Some.ensures in
    let fits : FitsSigned w32 c.in-Some.unequal.one = search rules in
    let other_fits : FitsSigned w32 c.in-Some.unequal.other = search rules in
    rw c.differs.ensures (rw (to_z-of_z fits, to_z-of_z other_fits) (
      record {
        segment_is = refl;
        differ = values_differ c.requires.one c.requires.other unequal (c.saturating_add.ensures
            ∙ ap (λ n. min (n + c.in-Some.unequal.at) 18_446_744_073_709_551_615) c.place.ensures);
      },
      record { one_still = refl; other_still = refl },
    ))

pub returns : goal.returns
returns c =
    let same = rw (c.samples.ensures, c.samples-2.ensures, c.ahead.ensures, c.ahead-2.ensures) at c.in_default.ensures in
    let count = rw (c.samples-3.ensures, c.samples-4.ensures, c.ahead-3.ensures, c.ahead-4.ensures) at c.min-count.ensures in
    passes_samples c.min-count.result c.requires.one c.requires.other count (rw (← count) at same) c.pass.ensures.ahead
    c.pass-2.ensures.ahead c.pass.ensures.only c.pass-2.ensures.only
