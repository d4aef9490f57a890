-- What is written of a day, beside the names of its records and its report.
use Rattle.std.specs.Prelude.{◌≡◌, ◌<◌, ◌⊎◌, ℕ, ⊤, IsTrue, List, [], None, Some, Result, Ok, Err, length}
use Rattle.msr_devices.specs.Device.{Device, HasLeft, Takes}
use Rattle.msr_options.specs.declared.days.DayOptions.{DayOptions}
use Rattle.msr_options.specs.declared.hint.Side.{Side}
use Rattle.msr_options.specs.declared.hint.Side.TheVariants.{File}
use Rattle.msr_tree.specs.Folders.{ChangesFiles}
use Rattle.msr_tree.specs.Steps.{Path, Step, failures, seen}
use Rattle.msr_naming.specs.Promise.{AreReady}
use Rattle.msr_naming.specs.declared.files.DayFiles.{DayFiles}
use Rattle.msr_folders.specs.Belonging.{IsFoundAsAsked, told_segments}
use Rattle.msr_making.specs.Day.{CountAnswers, GotSmaller, HasAnswer, IsLarger, IsMisplaced, WasMisplaced}
use Rattle.msr_making.specs.Looking.{IsSightAt}
use Rattle.msr_making.specs.Parts.{ArePartsApart, IsMadeSide, part_paths}
use Rattle.msr_making.specs.declared.answer.DayFault.TheVariants.{CannotOpen, Larger, Misplaced, Tool}
use Rattle.msr_making.specs.declared.answer.Repacked.{Repacked}
use Rattle.msr_making.specs.declared.answer.Stop.{Stop}
use Rattle.msr_making.specs.declared.answer.Stop.TheVariants.{Memory, Refused}
use Rattle.msr_making.specs.declared.looks.Sight.{Sight}
use Rattle.msr_making.specs.declared.looks.Sight.TheVariants.{Unknown}

-- Some input was repacked with these counts, which are smaller if that is asked for.
pub record IsFit (asked : DayOptions) (repacked : Repacked) : Type 0 where
  pub answer : HasAnswer asked.options (Ok repacked)
  pub smaller : IsTrue asked.only_smaller → GotSmaller repacked

-- what an answer says of some input; nothing is known of the files of the system but that they have some bytes
abbrev pub WasRepacked : DayOptions → Result Repacked Stop → Type 0
WasRepacked asked (Ok repacked) = IsFit asked repacked
WasRepacked asked (Err (Refused (CannotOpen unopened))) = ⊤
WasRepacked asked (Err (Refused (Larger repacked))) = IsLarger asked repacked
WasRepacked asked (Err (Refused (Misplaced found))) = WasMisplaced asked found
WasRepacked asked (Err (Refused (Tool fault))) = HasAnswer asked.options (Err fault)
WasRepacked asked (Err (Refused why)) = ⊥
WasRepacked asked (Err Memory) = ⊤

-- These bytes were repacked to these records and this text, with these counts, which are smaller if that is asked for; and
-- their segments belong to the day if that is.
pub record IsFitOf (asked : DayOptions) (bytes_read : ℕ) (input records text : List ℕ) (repacked : Repacked) : Type 0 where
  pub counted : CountAnswers asked.options input records text (Ok repacked)
  pub belong : IsFoundAsAsked asked.names (told_segments counted.report.segments.items) None
  pub read : repacked.bytes_read ≡ bytes_read
  pub smaller : IsTrue asked.only_smaller → GotSmaller repacked

-- They were repacked, and did not get smaller.
pub record IsLargerOf (asked : DayOptions) (bytes_read : ℕ) (input records text : List ℕ) (repacked : Repacked) : Type 0 where
  pub counted : CountAnswers asked.options input records text (Ok repacked)
  pub belong : IsFoundAsAsked asked.names (told_segments counted.report.segments.items) None
  pub read : repacked.bytes_read ≡ bytes_read
  pub only_smaller : IsTrue asked.only_smaller
  pub larger : ¬ (GotSmaller repacked)

-- what an answer says of these bytes
abbrev pub RepackedOf : DayOptions → ℕ → (input records text : List ℕ) → Result Repacked Stop → Type 0
RepackedOf asked bytes_read input records text (Ok repacked) = IsFitOf asked bytes_read input records text repacked
RepackedOf asked bytes_read input records text (Err (Refused (Larger repacked))) = IsLargerOf asked bytes_read input records text repacked
RepackedOf asked bytes_read input records text (Err (Refused (Misplaced found))) = IsMisplaced asked input records text found
RepackedOf asked bytes_read input records text (Err (Refused (Tool fault))) = CountAnswers asked.options input records text (Err fault)
RepackedOf asked bytes_read input records text (Err (Refused why)) = ⊥
RepackedOf asked bytes_read input records text (Err Memory) = ⊥

-- What repacking a source did with the sinks of records and report.
pub record RepacksParts (asked : DayOptions) (bytes_read : ℕ) (source records0 records text0 text : Device) (result : Result Repacked Stop) : Type 0 where
  pub input : List ℕ
  pub written : List ℕ
  pub told : List ℕ
  pub left : HasLeft source input
  pub wrote : Takes records0 records written
  pub told_all : Takes text0 text told
  pub answers : RepackedOf asked bytes_read input written told result

-- These bytes were repacked, and what was written is on the disk, beside the names of records and report.
pub record IsWrittenTo (files : DayFiles) (asked : DayOptions) (bytes_read : ℕ) (input : List ℕ) (new : List Step) (repacked : Repacked) : Type 0 where
  pub records : List ℕ
  pub text : List ℕ
  pub fit : IsFitOf asked bytes_read input records text repacked
  pub ready : ArePartsApart files → AreReady files records text new

-- These bytes were not repacked, or not to fewer.
pub record IsUnfit (asked : DayOptions) (bytes_read : ℕ) (input : List ℕ) (stop : Stop) : Type 0 where
  pub records : List ℕ
  pub text : List ℕ
  pub answers : RepackedOf asked bytes_read input records text (Err stop)

-- what an answer says of some bytes of which P tells, where U says why this of the day may not have been opened or made
abbrev pub WrittenAs : ((List ℕ → Type 0) → Type 0) → (Side → Type 0) → DayFiles → DayOptions → (List ℕ → ℕ) → Result Repacked Stop → (new : List Step) → Type 0
WrittenAs P U files asked count (Ok repacked) new = P (λ bytes. IsWrittenTo files asked (count bytes) bytes new repacked)
WrittenAs P U files asked count (Err (Refused (CannotOpen unopened))) new = U unopened.side
WrittenAs P U files asked count (Err (Refused why)) new = P (λ bytes. IsUnfit asked (count bytes) bytes (Refused why))
WrittenAs P U files asked count (Err Memory) new = Unit {0}

-- what is said of a source that has these bytes, and of a name that leads to them
abbrev pub IfHasLeft : Device → (List ℕ → Type 0) → Type 0
IfHasLeft source P = (bytes : List ℕ) × HasLeft source bytes × P bytes

abbrev pub IfSeen : Path → List Step → (List ℕ → Type 0) → Type 0
IfSeen input past P = (bytes : List ℕ) × (seen past input ≡ Some bytes) × P bytes

-- What a source has was repacked, or why it was not.
pub record WritesFrom (source : Device) (files : DayFiles) (asked : DayOptions) (bytes_read : ℕ) (result : Result Repacked Stop) (old new : List Step) : Type 0 where
  pub changes : ChangesFiles (part_paths files) old new
  pub said : WrittenAs (IfHasLeft source) (λ side. IsMadeSide side × (failures old < failures new)) files asked (λ bytes. bytes_read) result new

-- the day's own file could not be opened, and no name was changed; or a file that is made could not be
abbrev pub IsOwnOrMade : Side → (old new : List Step) → Type 0
IsOwnOrMade side old new = ((side ≡ File) × ChangesFiles [] old new) ⊎ IsMadeSide side

-- The day's own file, of which a look told, was repacked, or why it was not.
pub record WritesDay (input : Path) (sight : Sight) (files : DayFiles) (asked : DayOptions) (result : Result Repacked Stop) (old new : List Step) : Type 0 where
  pub changes : ChangesFiles (part_paths files) old new
  pub said : IsSightAt input old sight
      → WrittenAs (IfSeen input old) (λ side. IsOwnOrMade side old new × ((sight ≡ Unknown) ⊎ (failures old < failures new))) files asked
      (λ bytes. length bytes) result new

-- it was not there, or a call failed
abbrev pub SaysNothing : Path → Stop → (old new : List Step) → Type 0
SaysNothing input (Refused (CannotOpen unopened)) old new = ((bytes : List ℕ) × (seen old input ≡ Some bytes)) ⊎ (failures old < failures new)
SaysNothing input (Refused why) old new = ⊥
SaysNothing input Memory old new = Unit {0}

pub record RefusesNothing (input : Path) (stop : Stop) (old new : List Step) : Type 0 where
  pub changes : ChangesFiles [] old new
  pub said : SaysNothing input stop old new
