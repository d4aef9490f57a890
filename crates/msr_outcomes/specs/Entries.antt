-- The entries of a walk: what became of each, and what they sum up to.
use Rattle.std.specs.Prelude.{◌≡◌, ◌+◌, ℕ, ⊤, Bool, true, false, List, [], ◌∷◌, ◌++◌, map, codes, Option, None, Some}
use Rattle.std.specs.List.{count_by, flat_map, sum_by}
use Rattle.std.specs.Option.{option_or}
use Rattle.msr_sds.specs.SdsPath.{SdsPath, ReadsAsDay}
use Rattle.msr_folders.specs.Totals.{Add, saturated, totals_of}
use Rattle.msr_folders.specs.declared.totals.Total.{Total}
use Rattle.msr_folders.specs.Names.{day_name}
use Rattle.msr_options.specs.Days.{with_name}
use Rattle.msr_options.specs.declared.days.DayOptions.{DayOptions}
use Rattle.msr_options.specs.declared.hint.Unopened.{Unopened}
use Rattle.msr_outcomes.specs.Outcomes.{IsOutcomeOfDay}
use Rattle.msr_folders.specs.Days.{IsNoDay}
use Rattle.msr_outcomes.specs.declared.outcome.Outcome.{Outcome}
use Rattle.msr_outcomes.specs.declared.outcome.Outcome.TheVariants.{Done, Same, Young, Skipped, Refused, Known}
use Rattle.msr_making.specs.declared.answer.DayFault.TheVariants.{CannotOpen, Gone, Listing, Larger}
use Rattle.msr_making.specs.declared.answer.Repacked.{Repacked}
use Rattle.msr_outcomes.specs.declared.tally.Tally.{Tally}

-- an entry: its path from the archive's folder, and what became of it; of a day its channel too
pub record Entry : Type 0 where
  pub path : List ℕ
  pub channel : List ℕ
  pub outcome : Outcome

-- NET.STA.LOC.CHAN
abbrev pub channel_of : SdsPath → List ℕ
channel_of p = p.network ++ (codes "." ++ (p.station ++ (codes "." ++ (p.location ++ (codes "." ++ p.channel)))))

-- the path is that of a day of this channel
pub record IsDayOf (path channel : List ℕ) : Type 0 where
  pub name : SdsPath
  pub reads : ReadsAsDay path name
  pub channel_is : channel ≡ channel_of name

-- the entry is a day, with this outcome; what is asked of it may be that its segments are those of its path
pub record IsToldOfDay (asked : DayOptions) (path channel : List ℕ) (outcome : Outcome) : Type 0 where
  pub day : IsDayOf path channel
  pub outcome_is : IsOutcomeOfDay (with_name (day_name day.name) asked) outcome

-- what an outcome says of an entry
abbrev pub IsOutcomeOf : DayOptions → (path channel : List ℕ) → Outcome → Type 0
IsOutcomeOf asked path channel (Skipped fault) = IsNoDay path fault
IsOutcomeOf asked path channel (Refused Gone) = ⊤
IsOutcomeOf asked path channel (Refused Listing) = ⊤
IsOutcomeOf asked path channel outcome = IsToldOfDay asked path channel outcome

-- what of a day could not be opened, if it was refused for that
abbrev pub unopened_of : Outcome → Option Unopened
unopened_of (Refused (CannotOpen unopened)) = Some unopened
unopened_of _ = None

-- what of the first such day
abbrev pub first_unopened : List Entry → Option Unopened
first_unopened [] = None
first_unopened (entry ∷ entries) = option_or (unopened_of entry.outcome) (first_unopened entries)

-- done in this walk or an earlier one
abbrev pub is_done : Outcome → Bool
is_done (Done repacked) = true
is_done (Same repacked) = true
is_done _ = false

-- left alone, since its file was changed too late
abbrev pub is_young : Outcome → Bool
is_young Young = true
is_young _ = false

abbrev pub is_skipped : Outcome → Bool
is_skipped (Skipped fault) = true
is_skipped _ = false

-- refused, or not kept since it is not shown, not the same data, or fewer samples
abbrev pub is_refused : Outcome → Bool
is_refused (Refused (Larger repacked)) = false
is_refused (Refused why) = true
is_refused _ = false

-- refused, by a line that is known
abbrev pub is_known : Outcome → Bool
is_known (Known why) = true
is_known _ = false

-- not kept since it did not get smaller
abbrev pub is_larger : Outcome → Bool
is_larger (Refused (Larger repacked)) = true
is_larger _ = false

-- the records of an entry that are counted: of what was done
abbrev pub dones_of : Outcome → List Repacked
dones_of (Done repacked) = repacked ∷ []
dones_of (Same repacked) = repacked ∷ []
dones_of _ = []

-- what a day that was done adds to the totals of its channel, in records and in bytes
abbrev pub add_of : (channel : List ℕ) → Repacked → Add
add_of channel repacked = record { name = channel; read = repacked.read; written = repacked.written }

abbrev pub add_of_bytes : (channel : List ℕ) → Repacked → Add
add_of_bytes channel repacked =
    record { name = channel; read = repacked.bytes_read; written = repacked.bytes_written }

-- what an entry adds to the totals of the channels
abbrev pub adds_of_entry : Entry → List Add
adds_of_entry entry = map (add_of entry.channel) (dones_of entry.outcome)

abbrev pub adds_of_bytes : Entry → List Add
adds_of_bytes entry = map (add_of_bytes entry.channel) (dones_of entry.outcome)

-- how many entries have such an outcome, or 2^64 - 1 if they are more
abbrev pub counted : (Outcome → Bool) → List Entry → ℕ
counted of entries = saturated (count_by (λ entry. of entry.outcome) entries)

-- the totals of the channels, in the order of their first files that were done
abbrev pub channels_of : List Entry → List (List ℕ × Total)
channels_of entries = totals_of (flat_map adds_of_entry entries)

-- those of their bytes, in the same order
abbrev pub bytes_of_channels : List Entry → List (List ℕ × Total)
bytes_of_channels entries = totals_of (flat_map adds_of_bytes entries)

-- the sum over all that was done, or 2^64 - 1 if it is more
abbrev pub summed : (Add → ℕ) → List Entry → ℕ
summed of entries = saturated (sum_by of (flat_map adds_of_bytes entries))

-- The counts and totals of the entries.
pub record IsTally (entries : List Entry) (tally : Tally) : Type 0 where
  pub done : tally.done ≡ counted is_done entries
  pub skipped : tally.skipped ≡ counted is_skipped entries
  pub refused : tally.refused ≡ counted is_refused entries
  pub known : tally.known ≡ counted is_known entries
  pub larger : tally.larger ≡ counted is_larger entries
  pub young : tally.young ≡ counted is_young entries
  pub channels : tally.channels ≡ channels_of entries
  pub bytes : tally.bytes ≡ bytes_of_channels entries
  pub bytes_read : tally.bytes_read ≡ summed (λ add. add.read) entries
  pub bytes_written : tally.bytes_written ≡ summed (λ add. add.written) entries
  pub unopened : tally.unopened ≡ first_unopened entries

-- What one day more that was done changes, whatever was counted before.
pub record AddsDone (channel : List ℕ) (repacked : Repacked) (tally0 tally : Tally) : Type 0 where
  pub done : tally.done ≡ saturated (tally0.done + 1)
  pub skipped : tally.skipped ≡ tally0.skipped
  pub refused : tally.refused ≡ tally0.refused
  pub known : tally.known ≡ tally0.known
  pub larger : tally.larger ≡ tally0.larger
  pub young : tally.young ≡ tally0.young
  pub channels : (adds : List Add) → tally0.channels ≡ totals_of adds
      → tally.channels ≡ totals_of (adds ++ add_of channel repacked ∷ [])
  pub bytes : (adds : List Add) → tally0.bytes ≡ totals_of adds
      → tally.bytes ≡ totals_of (adds ++ add_of_bytes channel repacked ∷ [])
  pub bytes_read : tally.bytes_read ≡ saturated (tally0.bytes_read + repacked.bytes_read)
  pub bytes_written : tally.bytes_written ≡ saturated (tally0.bytes_written + repacked.bytes_written)
  pub unopened : tally.unopened ≡ tally0.unopened
