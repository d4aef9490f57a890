-- What a walk through folders tells: entries, a line for each, and their counts.
use Rattle.std.specs.Prelude.{◌≡◌, ℕ, List, [], ◌∷◌, ◌++◌}
use Rattle.std.specs.List.{AllByRecursion}
use Rattle.msr_devices.specs.Device.{Device, HasFailed, IsCalm, IsSteady, Takes}
use Rattle.msr_devices.specs.declared.fault.DeviceFault.{DeviceFault}
use Rattle.msr_devices.specs.declared.fault.DeviceFault.TheVariants.{Failed, Memory}
use Rattle.msr_report.specs.Writing.{TakesPrefix}

-- a line for each entry, in order
abbrev pub AreLines : {E : Type 0} → (is_line : E → List ℕ → Type 0) → List E → List ℕ → Type 0
AreLines is_line [] lines = lines ≡ []
AreLines is_line (entry ∷ entries) lines = (line rest : List ℕ)
    × is_line entry line × AreLines is_line entries rest × (lines ≡ line ++ rest)

-- Some more entries were told: their lines were printed, and they are counted.
pub record TellsMore {E T : Type 0} (is_entry : E → Type 0) (is_line : E → List ℕ → Type 0) (is_tally : List E → T → Type 0)
    (out0 out : Device) (tally0 tally : T) : Type 0 where
  pub entries : List E
  pub lines : List ℕ
  pub are_entries : AllByRecursion is_entry entries
  pub are_lines : AreLines is_line entries lines
  pub prints : Takes out0 out lines
  pub calm : IsCalm out0 out
  pub counts : (before : List E) → is_tally before tally0 → is_tally (before ++ entries) tally

-- These entries were told.
pub record TellsThese {E T : Type 0} (is_entry : E → Type 0) (is_line : E → List ℕ → Type 0) (is_tally : List E → T → Type 0)
    (entries : List E) (out0 out : Device) (tally0 tally : T) : Type 0 where
  pub told : TellsMore is_entry is_line is_tally out0 out tally0 tally
  pub are : told.entries ≡ entries

-- A prefix of the lines of some more entries was printed.
pub record TellsInPart {E : Type 0} (is_entry : E → Type 0) (is_line : E → List ℕ → Type 0) (out0 out : Device) : Type 0 where
  pub entries : List E
  pub printed : List ℕ
  pub rest : List ℕ
  pub are_entries : AllByRecursion is_entry entries
  pub are_lines : AreLines is_line entries (printed ++ rest)
  pub prints : Takes out0 out printed

-- that was printed when a walk stopped: the sink failed, or else memory was refused
abbrev pub StopsAt : Type 0 → Device → Device → DeviceFault → Type 0
StopsAt printed out0 out Failed = printed × HasFailed out0 out
StopsAt printed out0 out Memory = printed × IsSteady out0 out

-- a prefix of a text was printed when a walk stopped
abbrev pub StopsPrefix : Device → Device → List ℕ → DeviceFault → Type 0
StopsPrefix out0 out text fault = StopsAt (TakesPrefix out0 out text) out0 out fault

-- a prefix of the lines of some more entries was printed when a walk stopped
abbrev pub StopsTelling : {E : Type 0} → (is_entry : E → Type 0) → (is_line : E → List ℕ → Type 0)
    → Device → Device → DeviceFault → Type 0
StopsTelling is_entry is_line out0 out fault = StopsAt (TellsInPart is_entry is_line out0 out) out0 out fault

-- The text of a whole walk: a line for each of some entries, and then what these very entries sum up to.
pub record IsWalk {E : Type 0} (is_entry : E → Type 0) (is_line : E → List ℕ → Type 0) (summary : List E → List ℕ)
    (text : List ℕ) (entries : List E) : Type 0 where
  pub lines : List ℕ
  pub are_entries : AllByRecursion is_entry entries
  pub are_lines : AreLines is_line entries lines
  pub whole : text ≡ lines ++ summary entries

-- A prefix of the text of a whole walk.
pub record IsWalkInPart {E : Type 0} (is_entry : E → Type 0) (is_line : E → List ℕ → Type 0)
    (summary : List E → List ℕ) (printed : List ℕ) : Type 0 where
  pub entries : List E
  pub rest : List ℕ
  pub walk : IsWalk is_entry is_line summary (printed ++ rest) entries
