-- What an outcome says of a day of an archive.
use Rattle.std.specs.Prelude.{◌≡◌, false}
use Rattle.msr_options.specs.Days.{in_length}
use Rattle.msr_options.specs.declared.days.DayOptions.{DayOptions}
use Rattle.msr_base.specs.declared.lengths.Length.{Length}
use Rattle.msr_making.specs.Day.{IsDayOutcome}
use Rattle.msr_making.specs.declared.answer.DayOutcome.{DayOutcome}
use Rattle.msr_making.specs.declared.answer.DayOutcome.TheVariants as outcomes
use Rattle.msr_outcomes.specs.declared.outcome.Outcome.{Outcome}
use Rattle.msr_outcomes.specs.declared.outcome.Outcome.TheVariants.{Done, Same, Young, Refused}

-- What is asked of one day: what is of all, but for the length if each day's own is asked for.
pub record IsForDay (days asked : DayOptions) : Type 0 where
  pub record_length : Length
  pub is : asked ≡ in_length record_length days
  pub own : days.same_length ≡ false → record_length ≡ days.options.record_length

-- what becomes of a day, as what becomes of an entry
abbrev pub of_day : DayOutcome → Outcome
of_day (outcomes.Done repacked) = Done repacked
of_day (outcomes.Same repacked) = Same repacked
of_day outcomes.Young = Young
of_day (outcomes.Refused why) = Refused why

-- What an outcome says of a day of an archive of whose days this is asked.
pub record IsOutcomeOfDay (days : DayOptions) (outcome : Outcome) : Type 0 where
  pub asked : DayOptions
  pub for_day : IsForDay days asked
  pub of : DayOutcome
  pub same : outcome ≡ of_day of
  pub is : IsDayOutcome asked of
