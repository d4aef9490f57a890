-- The lines of a walk, in words and in JSON.
use Rattle.std.specs.Prelude.{◌≡◌, ◌⊎◌, ◌||◌, ℕ, not, Bool, true, false, List, [], ◌++◌, codes}
use Rattle.std.specs.Fmt.{decimal}
use Rattle.msr_folders.specs.Faults.{fault_json, read_fault_text}
use Rattle.msr_folders.specs.Members.{IsReasonMember, IsReasonOf, skip_text}
use Rattle.msr_folders.specs.Paths.{shown_path, text_json}
use Rattle.msr_input.specs.declared.fault.ReadFault.TheVariants as stop
use Rattle.msr_making.specs.declared.answer.DayFault.{DayFault}
use Rattle.msr_making.specs.declared.answer.DayFault.TheVariants.{CannotOpen, Changed, ClaimedByAnother, Differs, Gone, Larger, Listing, Misplaced, NotShown, Shrunk, Tool}
use Rattle.msr_making.specs.declared.answer.Repacked.{Repacked}
use Rattle.msr_folders.specs.Names.{found_json, found_words}
use Rattle.msr_options.specs.declared.days.DayOptions.{DayOptions}
use Rattle.msr_options.specs.declared.task.Archiving.{Archiving}
use Rattle.msr_options.specs.declared.hint.Side.{Side}
use Rattle.msr_options.specs.declared.hint.Side.TheVariants as side
use Rattle.msr_options.specs.declared.task.ListForm.{ListForm}
use Rattle.msr_options.specs.declared.task.ListForm.TheVariants.{Words, Json}
use Rattle.msr_options.specs.declared.telling.Telling.{Telling}
use Rattle.msr_tool.specs.declared.fault.ToolFault.{ToolFault}
use Rattle.msr_tool.specs.declared.fault.ToolFault.TheVariants as tool
use Rattle.msr_outcomes.specs.Entries.{Entry}
use Rattle.msr_outcomes.specs.declared.outcome.Outcome.{Outcome}
use Rattle.msr_outcomes.specs.declared.outcome.Outcome.TheVariants.{Done, Same, Young, Skipped, Refused, Known}

-- the first word of a line
abbrev pub outcome_word : Outcome → List ℕ
outcome_word (Done repacked) = codes "done"
outcome_word (Same repacked) = codes "same"
outcome_word Young = codes "young"
outcome_word (Skipped why) = codes "skipped"
outcome_word (Refused NotShown) = codes "notshown"
outcome_word (Refused Differs) = codes "differs"
outcome_word (Refused Changed) = codes "changed"
outcome_word (Refused (Larger repacked)) = codes "larger"
outcome_word (Refused (Shrunk shrinkage)) = codes "shrunk"
outcome_word (Refused (Misplaced found)) = codes "misplaced"
outcome_word (Refused why) = codes "refused"
outcome_word (Known why) = codes "known"

-- what a line says of bytes that were read and written: nothing, unless that is asked for
abbrev pub bytes_told : (told : Bool) → (read written : ℕ) → List ℕ
bytes_told false read written = []
bytes_told true read written = codes " bytes " ++ (decimal read ++ (codes " " ++ decimal written))

-- the counts of a day
abbrev pub counts_told : (bytes : Bool) → Repacked → List ℕ
counts_told bytes repacked =
    codes " read " ++ (decimal repacked.read ++ (codes " written " ++ (decimal repacked.written
    ++ bytes_told bytes repacked.bytes_read repacked.bytes_written)))

-- why the tool stopped
abbrev pub tool_text : ToolFault → List ℕ
tool_text (tool.Input fault) = read_fault_text (stop.Input fault)
tool_text (tool.Report line) = codes "report line " ++ decimal line
tool_text tool.Read = codes "read fault"
tool_text tool.Write = codes "write fault"
tool_text tool.Memory = codes "out of memory"

-- why an entry is refused; nothing if its first word tells that
abbrev pub day_refusal_text : DayFault → List ℕ
day_refusal_text (CannotOpen unopened) = codes "cannot open"
day_refusal_text Gone = codes "cannot open"
day_refusal_text Listing = codes "listing"
day_refusal_text ClaimedByAnother = codes "another walk is at work"
day_refusal_text (Tool fault) = tool_text fault
day_refusal_text _ = []

-- what stands after the path
abbrev pub outcome_rest : (bytes : Bool) → Outcome → List ℕ
outcome_rest bytes (Done repacked) = counts_told bytes repacked
outcome_rest bytes (Same repacked) = counts_told bytes repacked
outcome_rest bytes Young = []
outcome_rest bytes (Skipped why) = codes ": " ++ skip_text why
outcome_rest bytes (Refused NotShown) = []
outcome_rest bytes (Refused Differs) = []
outcome_rest bytes (Refused Changed) = []
outcome_rest bytes (Refused (Larger repacked)) = counts_told bytes repacked
outcome_rest bytes (Refused (Shrunk shrinkage)) = codes " samples " ++ (decimal shrinkage.was ++ (codes " " ++ decimal shrinkage.is))
outcome_rest bytes (Refused (Misplaced found)) = found_words found
outcome_rest bytes (Refused why) = codes ": " ++ day_refusal_text why
outcome_rest bytes (Known why) = codes ": " ++ day_refusal_text why

abbrev pub outcome_words : (bytes : Bool) → List ℕ → Outcome → List ℕ
outcome_words bytes path outcome =
    outcome_word outcome ++ (codes " " ++ (shown_path path ++ (outcome_rest bytes outcome ++ codes "\n")))

-- the members that tell bytes
abbrev pub bytes_json : (told : Bool) → (read written : ℕ) → List ℕ
bytes_json false read written = []
bytes_json true read written =
    codes ",\"bytes_read\":" ++ (decimal read ++ (codes ",\"bytes_written\":" ++ decimal written))

-- those that tell the counts of a day
abbrev pub repacked_json : (bytes : Bool) → Repacked → List ℕ
repacked_json bytes repacked =
    codes ",\"read\":" ++ (decimal repacked.read ++ (codes ",\"written\":" ++ (decimal repacked.written
    ++ bytes_json bytes repacked.bytes_read repacked.bytes_written)))

-- the member that tells what could not be opened or made
abbrev pub unopened_json : Side → List ℕ
unopened_json side.File = codes ",\"side\":\"file\""
unopened_json side.Records = codes ",\"side\":\"records\""
unopened_json side.Report = codes ",\"side\":\"report\""
unopened_json side.Outputs = []

-- the members that tell whose fault it is, and where it is and what is there
abbrev pub day_place_json : DayFault → List ℕ
day_place_json (CannotOpen unopened) = unopened_json unopened.side
day_place_json Gone = codes ",\"side\":\"file\""
day_place_json (Tool (tool.Input fault)) = codes ",\"side\":\"file\"" ++ fault_json fault
day_place_json _ = []

abbrev pub day_refusal_json : DayFault → List ℕ
day_refusal_json why = day_place_json why ++ (codes ",\"text\":\"" ++ (text_json (day_refusal_text why) ++ codes "\""))

-- those after the path
abbrev pub outcome_members : (bytes : Bool) → Outcome → List ℕ
outcome_members bytes (Done repacked) = repacked_json bytes repacked
outcome_members bytes (Same repacked) = repacked_json bytes repacked
outcome_members bytes Young = []
outcome_members bytes (Skipped why) = codes ",\"text\":\"" ++ (text_json (skip_text why) ++ codes "\"")
outcome_members bytes (Refused NotShown) = []
outcome_members bytes (Refused Differs) = []
outcome_members bytes (Refused Changed) = []
outcome_members bytes (Refused (Larger repacked)) = repacked_json bytes repacked
outcome_members bytes (Refused (Shrunk shrinkage)) = codes ",\"samples_was\":" ++ (decimal shrinkage.was ++ (codes ",\"samples\":" ++ decimal shrinkage.is))
outcome_members bytes (Refused (Misplaced found)) = found_json found
outcome_members bytes (Refused why) = day_refusal_json why
outcome_members bytes (Known why) = day_refusal_json why

-- The last member, with the system's reason: exactly if it gave one why a day could not be opened or made. No entry tells
-- whether it gave one why a folder could not be listed.
abbrev pub IsOutcomeReason : Outcome → List ℕ → Type 0
IsOutcomeReason (Refused (CannotOpen unopened)) text = IsReasonOf unopened.why text
IsOutcomeReason (Refused Listing) text = (text ≡ []) ⊎ IsReasonMember text
IsOutcomeReason (Known (CannotOpen unopened)) text = IsReasonOf unopened.why text
IsOutcomeReason (Known Listing) text = (text ≡ []) ⊎ IsReasonMember text
IsOutcomeReason _ text = text ≡ []

-- The line in JSON.
pub record IsOutcomeJson (bytes : Bool) (path : List ℕ) (outcome : Outcome) (line : List ℕ) : Type 0 where
  pub reason : List ℕ
  pub is_reason : IsOutcomeReason outcome reason
  pub is : line ≡ codes "{\"what\":\"" ++ (outcome_word outcome ++ (codes "\",\"path\":\"" ++ (text_json path
      ++ (codes "\"" ++ (outcome_members bytes outcome ++ (reason ++ codes "}\n"))))))

abbrev pub IsOutcomeLine : ListForm → (bytes : Bool) → List ℕ → Outcome → List ℕ → Type 0
IsOutcomeLine Words bytes path outcome line = line ≡ outcome_words bytes path outcome
IsOutcomeLine Json bytes path outcome line = IsOutcomeJson bytes path outcome line

-- to be looked at: neither done, in this walk or an earlier one, nor young, skipped or known
abbrev pub is_to_look_at : Outcome → Bool
is_to_look_at (Refused why) = true
is_to_look_at _ = false

-- whether the line is printed: if only what is to be looked at is asked for, all others are left out
abbrev pub is_outcome_told : Telling → Outcome → Bool
is_outcome_told telling outcome = not telling.quiet || is_to_look_at outcome

-- What is printed of an entry with these options: its line, or nothing if that is left out.
pub record IsLineBy (days : DayOptions) (entry : Entry) (line : List ℕ) : Type 0 where
  pub told : is_outcome_told days.telling entry.outcome ≡ true → IsOutcomeLine days.telling.form days.bytes entry.path entry.outcome line
  pub left_out : is_outcome_told days.telling entry.outcome ≡ false → line ≡ []

-- in a walk over an archive
abbrev pub IsEntryLine : Archiving → Entry → List ℕ → Type 0
IsEntryLine asked = IsLineBy asked.days
