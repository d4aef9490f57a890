-- The line of what is no day that would be repacked.
use Rattle.std.proofs.Common.{◌≡◌, ℕ, List, refl, Result, Ok, Err, IfOk, String, string_bytes}
use Rattle.std.specs.declared.alloc.AllocError.{AllocError}
use Rattle.msr_making.specs.declared.answer.Repacked.{Repacked}
use Rattle.msr_options.specs.declared.days.DayOptions.{DayOptions}
use Rattle.msr_outcomes.specs.Lines.{IsLineBy}
use Rattle.msr_outcomes.specs.declared.outcome.Outcome.{Outcome}
use Rattle.msr_outcomes.specs.declared.outcome.Outcome.TheVariants.{Done}
use Rattle.msr_trial.specs.Lines.{IsTrialLineOf, IsTrialLine}

line_is : (asked : DayOptions) (path channel : List ℕ) (outcome : Outcome) (line : List ℕ) → ((repacked : Repacked) → outcome ≡ Done repacked → ⊥)
    → IsLineBy asked (record { path = path; channel = channel; outcome = outcome }) line → IsTrialLineOf asked path channel outcome line
line_is asked path channel (Done repacked) line not is = absurd (not repacked refl)
line_is asked path channel outcome line not is = is

pub other_line : {Z : Type 0} (asked : DayOptions) (path channel : List ℕ) (outcome : Outcome) (result : Result (String Z) AllocError)
    → ((repacked : Repacked) → outcome ≡ Done repacked → ⊥)
    → IfOk result (λ line. IsLineBy asked (record { path = path; channel = channel; outcome = outcome }) (string_bytes line))
    → IfOk result (λ line. IsTrialLine asked (record { path = path; channel = channel; outcome = outcome }) (string_bytes line))
other_line asked path channel outcome (Ok line) not is = record { is = line_is asked path channel outcome (string_bytes line) not is }
other_line asked path channel outcome (Err e) not is = tt
