-- What is known of the entries of a walk.
use Rattle.std.specs.Prelude.{if◌then◌else◌, ◌≡◌, ◌&&◌, Bool, true, false, List, ℕ, ◌++◌, codes}
use Rattle.msr_folders.specs.Paths.{shown_path}
use Rattle.msr_making.specs.declared.answer.DayFault.{DayFault}
use Rattle.msr_making.specs.declared.answer.DayFault.TheVariants.{CannotOpen, ClaimedByAnother, Gone, Listing, Tool}
use Rattle.msr_options.specs.Known.{knows}
use Rattle.msr_options.specs.declared.known.Known.{Known as Asked}
use Rattle.msr_options.specs.declared.task.Archiving.{Archiving}
use Rattle.msr_outcomes.specs.Entries.{Entry, IsOutcomeOf}
use Rattle.msr_outcomes.specs.Lines.{day_refusal_text}
use Rattle.msr_outcomes.specs.declared.outcome.Outcome.{Outcome}
use Rattle.msr_outcomes.specs.declared.outcome.Outcome.TheVariants.{Refused, Known}

-- an entry with that fault is told as refused, by no word of its own
abbrev pub is_plain : DayFault → Bool
is_plain (CannotOpen unopened) = true
is_plain Gone = true
is_plain Listing = true
is_plain ClaimedByAnother = true
is_plain (Tool fault) = true
is_plain _ = false

-- its line in words, without the line feed
abbrev pub refusal_line : (path : List ℕ) → DayFault → List ℕ
refusal_line path why = codes "refused " ++ (shown_path path ++ (codes ": " ++ day_refusal_text why))

-- what is told of an entry: that it is known exactly if it would be told as refused by a line that is known
abbrev pub known_as : Asked → (path : List ℕ) → Outcome → Outcome
known_as asked path (Refused why) = if is_plain why && knows asked (refusal_line path why) then Known why else Refused why
known_as asked path outcome = outcome

-- An entry is told as what became of it, or as known.
pub record IsEntry (asked : Archiving) (entry : Entry) : Type 0 where
  pub found : Outcome
  pub of : IsOutcomeOf asked.days entry.path entry.channel found
  pub is : entry.outcome ≡ known_as asked.known entry.path found
