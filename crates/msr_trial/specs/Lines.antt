-- The line of a day that would be repacked, in words and in JSON.
use Rattle.std.specs.Prelude.{◌≡◌, ℕ, Bool, cond, List, [], ◌++◌, codes}
use Rattle.msr_folders.specs.Paths.{shown_path, text_json}
use Rattle.msr_making.specs.declared.answer.Repacked.{Repacked}
use Rattle.msr_options.specs.declared.days.DayOptions.{DayOptions}
use Rattle.msr_options.specs.declared.task.ListForm.{ListForm}
use Rattle.msr_options.specs.declared.task.ListForm.TheVariants.{Words, Json}
use Rattle.msr_outcomes.specs.Entries.{Entry}
use Rattle.msr_outcomes.specs.Lines.{IsLineBy, counts_told, repacked_json}
use Rattle.msr_outcomes.specs.declared.outcome.Outcome.{Outcome}
use Rattle.msr_outcomes.specs.declared.outcome.Outcome.TheVariants.{Done}

abbrev pub would_words : (bytes : Bool) → List ℕ → Repacked → List ℕ
would_words bytes path repacked = codes "would " ++ (shown_path path ++ (counts_told bytes repacked ++ codes "\n"))

abbrev pub would_json : (bytes : Bool) → List ℕ → Repacked → List ℕ
would_json bytes path repacked =
    codes "{\"what\":\"would\",\"path\":\"" ++ (text_json path ++ (codes "\"" ++ (repacked_json bytes repacked ++ codes "}\n")))

abbrev pub would_in : ListForm → (bytes : Bool) → List ℕ → Repacked → List ℕ
would_in Words bytes path repacked = would_words bytes path repacked
would_in Json bytes path repacked = would_json bytes path repacked

abbrev pub would_line : DayOptions → List ℕ → Repacked → List ℕ
would_line asked path repacked = would_in asked.telling.form asked.bytes path repacked

-- what is printed of the day: nothing if only what is to be looked at is asked for
abbrev pub would_told : DayOptions → List ℕ → Repacked → List ℕ
would_told asked path repacked = cond asked.telling.quiet [] (would_line asked path repacked)

-- what is printed of an entry: of what is no such day that which the repack prints
abbrev pub IsTrialLineOf : DayOptions → (path channel : List ℕ) → Outcome → List ℕ → Type 0
IsTrialLineOf asked path channel (Done repacked) line = line ≡ would_told asked path repacked
IsTrialLineOf asked path channel outcome line = IsLineBy asked (record { path = path; channel = channel; outcome = outcome }) line

pub record IsTrialLine (asked : DayOptions) (entry : Entry) (line : List ℕ) : Type 0 where
  pub is : IsTrialLineOf asked entry.path entry.channel entry.outcome line
