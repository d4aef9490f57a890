-- What a task asks for, by what clap found under the names of its arguments.
use Rattle.std.specs.Prelude.{◌≡◌, ◌≢◌, ◌⊎◌, ◌↔◌, ◌==◌, IsTrue, ℕ, ⊤, Bool, false, true, cond, List, [], ◌∷◌, codes, string_bytes, map, Option, None, Some, option_map, unwrap_or, ok_or}
use Rattle.std.specs.Str.Parse.{ParsesUnsigned}
use Rattle.clap.specs.Words.{first_value, matched_of, one_text, raw_values}
use Rattle.clap.specs.declared.error.kind.ErrorKind.{ErrorKind}
use Rattle.clap.specs.declared.error.kind.ErrorKind.TheVariants.{DisplayHelp, DisplayVersion, OutOfMemory}
use Rattle.clap.specs.declared.parser.matches.Found.{Found}
use Rattle.msr_options.specs.Choice.{Choice, record_size}
use Rattle.msr_arguments.specs.declared.words.LineFault.{LineFault}
use Rattle.msr_arguments.specs.declared.words.LineFault.TheVariants.{SameFile, OneStandardInput, NotBelow, Overlap, TouchedOriginals}
use Rattle.msr_options.specs.declared.days.DayOptions.{DayOptions}
use Rattle.msr_options.specs.declared.names.Names.{Names}
use Rattle.msr_options.specs.declared.names.Names.TheVariants.{Any, Own}
use Rattle.msr_base.specs.declared.kinds.Kinds.{Kinds}
use Rattle.msr_base.specs.declared.kinds.Kinds.TheVariants.{All, WithoutInt24}
use Rattle.msr_options.specs.declared.known.Known.{Known}
use Rattle.msr_options.specs.declared.known.Known.TheVariants.{Nothing, File}
use Rattle.msr_options.specs.declared.task.Archiving.{Archiving}
use Rattle.msr_options.specs.declared.task.Checking.{Checking}
use Rattle.msr_options.specs.declared.task.Folders.{Folders}
use Rattle.msr_options.specs.declared.task.ListForm.{ListForm}
use Rattle.msr_options.specs.declared.task.ListForm.TheVariants.{Words, Json}
use Rattle.msr_options.specs.declared.task.NoTask.{NoTask}
use Rattle.msr_options.specs.declared.task.NoTask.TheVariants.{Ending, NotALength, Memory}
use Rattle.msr_options.specs.declared.task.Replacing.{Replacing}
use Rattle.msr_options.specs.declared.task.Task.{Task}
use Rattle.msr_options.specs.declared.task.Task.TheVariants.{Repack, List as Listing, Check, Compare, Archive, Trial, Verify, Replace, Feed}
use Rattle.msr_options.specs.declared.task.Trying.{Trying}
use Rattle.msr_options.specs.declared.task.Verifying.{Verifying}
use Rattle.msr_options.specs.declared.telling.Telling.{Telling}

-- the number of 32 bits that a text is in decimal digits, with or without a plus before them; `None` if there is no
-- text, or it is no such number
abbrev pub IsNumberOf : (text : Option (List ℕ)) → (number : Option ℕ) → Type 0
IsNumberOf None number = number ≡ None
IsNumberOf (Some text) number = ParsesUnsigned 32 10 text (ok_or number text)

-- whether a flag is set, by its text; it is assumed that clap gives it no other
abbrev pub IsFlagOf : (text : Option (List ℕ)) → (flag : Bool) → Type 0
IsFlagOf None flag = flag ≡ false
IsFlagOf (Some text) flag = (text ≡ codes "true" → flag ≡ true) × (text ≡ codes "false" → flag ≡ false)

-- the kinds of records that are written, by the text of the flag that leaves 24-bit integers out
abbrev pub IsKindsOf : (text : Option (List ℕ)) → (kinds : Kinds) → Type 0
IsKindsOf None kinds = kinds ≡ All
IsKindsOf (Some text) kinds = (text ≡ codes "true" → kinds ≡ WithoutInt24) × (text ≡ codes "false" → kinds ≡ All)

-- the form of lines, by the text of the flag that asks for JSON
abbrev pub IsFormOf : (text : Option (List ℕ)) → (form : ListForm) → Type 0
IsFormOf None form = form ≡ Words
IsFormOf (Some text) form = (text ≡ codes "true" → form ≡ Json) × (text ≡ codes "false" → form ≡ Words)

-- the names that segments have to have, by the text of the flag that asks for those of their paths
abbrev pub IsNamesOf : (text : Option (List ℕ)) → (names : Names) → Type 0
IsNamesOf None names = names ≡ Any
IsNamesOf (Some text) names = (text ≡ codes "true" → names ≡ Own) × (text ≡ codes "false" → names ≡ Any)

-- the values of an argument that may be given several times
abbrev pub texts_under : Found → (name : List ℕ) → List (List ℕ)
texts_under found name = unwrap_or (option_map raw_values (matched_of found name)) []

-- a folder's path without the slash at its end with which a shell completes it
abbrev pub without_slash : List ℕ → List ℕ
without_slash [] = []
without_slash (byte ∷ []) = cond (byte == 47) [] (byte ∷ [])
without_slash (byte ∷ next ∷ path) = byte ∷ without_slash (next ∷ path)

-- the tolerance that was found
abbrev pub IsToleranceIn : Found → (tolerance : ℕ) → Type 0
IsToleranceIn found tolerance = IsNumberOf (one_text found (codes "tolerance")) (Some tolerance)

-- a length by its text: the number of bytes in decimal digits, with or without a plus before them; 512 without a text
abbrev pub IsLengthOf : (text : Option (List ℕ)) → (bytes : ℕ) → Type 0
IsLengthOf None bytes = bytes ≡ 512
IsLengthOf (Some text) bytes = IsNumberOf (Some text) (Some bytes)

-- the options are those that were found, with the length of that text
pub record AsksOptions (found : Found) (text : Option (List ℕ)) (options : Choice) : Type 0 where
  pub tolerance : IsToleranceIn found options.tolerance
  pub length_is : IsLengthOf text (record_size options)
  pub strict : IsFlagOf (one_text found (codes "strict")) options.strict
  pub kinds : IsKindsOf (one_text found (codes "no-int24")) options.kinds

-- each folder is the one of its name
pub record AsksFolders (found : Found) (folders : Folders) : Type 0 where
  pub root : first_value found (codes "ROOT") ≡ Some folders.root.now
  pub out : first_value found (codes "OUT") ≡ Some folders.out.now
  pub reports : first_value found (codes "REPORTS") ≡ Some folders.reports.now

-- the folders of an archive that were found, each without a slash at its end
abbrev pub AsksBelow : Found → (below : List (List ℕ)) → Type 0
AsksBelow found below = below ≡ map without_slash (texts_under found (codes "below"))

-- the length that was found
abbrev pub length_in : Found → Option (List ℕ)
length_in found = first_value found (codes "length")

-- the flags for days are those that were found
pub record AsksFlags (found : Found) (days : DayOptions) : Type 0 where
  pub resume : IsFlagOf (one_text found (codes "resume")) days.resume
  pub check : IsFlagOf (one_text found (codes "check")) days.check
  pub only_smaller : IsFlagOf (one_text found (codes "only-smaller")) days.only_smaller
  pub keep_old : IsFlagOf (one_text found (codes "keep-old")) days.keep_old
  pub names : IsNamesOf (one_text found (codes "names")) days.names
  pub bytes : IsFlagOf (one_text found (codes "bytes")) days.bytes

-- lines are to be told as was found
pub record AsksTelling (found : Found) (telling : Telling) : Type 0 where
  pub quiet : IsFlagOf (one_text found (codes "quiet")) telling.quiet
  pub form : IsFormOf (one_text found (codes "json")) telling.form

-- days are to be repacked and told as was found; if each is to have the length of its first record, that of the options is the
-- one without a text
pub record AsksDays (found : Found) (days : DayOptions) : Type 0 where
  pub flags : AsksFlags found days
  pub older_than : IsNumberOf (one_text found (codes "older-than")) (Some days.older_than)
  pub telling : AsksTelling found days.telling
  pub same_length : IsTrue days.same_length ↔ (length_in found ≡ Some (codes "same"))
  pub own : IsTrue days.same_length → AsksOptions found None days.options
  pub one : ¬ (IsTrue days.same_length) → AsksOptions found (length_in found) days.options

-- the file of that name is to be read
abbrev pub IsFileOf : (name : List ℕ) → Known → Type 0
IsFileOf name (File file) = file.now ≡ name
IsFileOf name _ = ⊥

-- what is known is what a file tells, if one was found
abbrev pub IsKnownOf : (name : Option (List ℕ)) → Known → Type 0
IsKnownOf None known = known ≡ Nothing
IsKnownOf (Some name) known = IsFileOf name known

abbrev pub AsksKnown : Found → Known → Type 0
AsksKnown found known = IsKnownOf (first_value found (codes "known")) known

-- an archive is to be repacked as was found
pub record AsksArchive (found : Found) (asked : Archiving) : Type 0 where
  pub folders : AsksFolders found asked.folders
  pub below : AsksBelow found (map (λ folder. folder.now) asked.below.items)
  pub days : AsksDays found asked.days
  pub known : AsksKnown found asked.known

-- the days of an archive are to be tried as was found
pub record AsksTrial (found : Found) (asked : Trying) : Type 0 where
  pub root : first_value found (codes "ROOT") ≡ Some asked.root.now
  pub below : AsksBelow found (map (λ folder. folder.now) asked.below.items)
  pub days : AsksDays found asked.days

-- the repack of an archive is to be verified as was found
pub record AsksVerify (found : Found) (asked : Verifying) : Type 0 where
  pub folders : AsksFolders found asked.folders
  pub below : AsksBelow found (map (λ folder. folder.now) asked.below.items)
  pub names : IsFlagOf (one_text found (codes "names")) asked.names
  pub telling : AsksTelling found asked.telling
  pub known : AsksKnown found asked.known

-- the flags for originals are those that were found
pub record AsksPlaces (found : Found) (asked : Replacing) : Type 0 where
  pub undo : IsFlagOf (one_text found (codes "undo")) asked.undo
  pub only_smaller : IsFlagOf (one_text found (codes "only-smaller")) asked.only_smaller
  pub touch : IsFlagOf (one_text found (codes "touch")) asked.touch
  pub int24 : IsFlagOf (one_text found (codes "int24")) asked.int24

-- originals are to change places with their records as was found
pub record AsksReplace (found : Found) (asked : Replacing) : Type 0 where
  pub folders : AsksFolders found asked.folders
  pub aside : first_value found (codes "ASIDE") ≡ Some asked.aside.now
  pub below : AsksBelow found (map (λ folder. folder.now) asked.below.items)
  pub older_than : IsNumberOf (one_text found (codes "older-than")) (Some asked.older_than)
  pub flags : AsksPlaces found asked

-- the names of a check are those of its words
pub record AsksCheck (found : Found) (checking : Checking) : Type 0 where
  pub packed : first_value found (codes "PACKED") ≡ Some checking.packed.now
  pub report : first_value found (codes "REPORT") ≡ Some checking.report.now

-- the options and the names of a task are those that were found
abbrev pub AsksTask : Found → Task → Type 0
AsksTask found (Repack asked) = AsksOptions found (length_in found) asked.options ×
    (first_value found (codes "IN") ≡ Some asked.input.now)
    × (first_value found (codes "OUT") ≡ option_map (λ name. name.now) asked.output)
AsksTask found (Listing asked) = AsksOptions found (length_in found) asked.options
    × IsFormOf (one_text found (codes "json")) asked.form × (first_value found (codes "IN") ≡ Some asked.input.now)
AsksTask found (Check asked) = AsksCheck found asked
AsksTask found (Compare asked) = AsksOptions found (length_in found) asked.options
    × (first_value found (codes "ONE") ≡ Some asked.one.now) × (first_value found (codes "OTHER") ≡ Some asked.other.now)
AsksTask found (Archive asked) = AsksArchive found asked
AsksTask found (Trial asked) = AsksTrial found asked
AsksTask found (Verify asked) = AsksVerify found asked
AsksTask found (Replace asked) = AsksReplace found asked
AsksTask found (Feed asked) =
    AsksOptions found (length_in found) asked.options × (first_value found (codes "REPORT") ≡ Some asked.report.now)

-- a bad command line: the text to end with, and status 2, unless memory is refused
abbrev pub IsWrong : (text : List ℕ) → NoTask → Type 0
IsWrong text (Ending ending) = (string_bytes ending.text ≡ text) × (ending.status ≡ 2)
IsWrong text NotALength = ⊥
IsWrong text Memory = ⊤

-- a bad command line, whatever its text
abbrev pub IsBadLine : NoTask → Type 0
IsBadLine (Ending ending) = ending.status ≡ 2
IsBadLine NotALength = ⊤
IsBadLine Memory = ⊤

-- clap was asked for help or for the version
abbrev pub IsShown : ErrorKind → Type 0
IsShown kind = (kind ≡ DisplayHelp) ⊎ (kind ≡ DisplayVersion)

-- what clap says of a line that it does not let through ends with this status, unless memory is refused
abbrev pub EndsWith : ErrorKind → (status : ℕ) → NoTask → Type 0
EndsWith kind status (Ending ending) = (kind ≢ OutOfMemory) × (ending.status ≡ status)
EndsWith kind status NotALength = ⊥
EndsWith kind status Memory = ⊤

-- it ends with status 0 for help and the version, and else with 2, unless memory is refused
abbrev pub EndsFor : ErrorKind → NoTask → Type 0
EndsFor kind (Ending ending) =
    (kind ≢ OutOfMemory) × (((ending.status ≡ 0) × IsShown kind) ⊎ ((ending.status ≡ 2) × ¬ (IsShown kind)))
EndsFor kind NotALength = ⊥
EndsFor kind Memory = ⊤

-- it ends with status 0 only if the words ask for that, and else with 2, unless memory is refused
abbrev pub IsToldByClap : (asked : Type 0) → NoTask → Type 0
IsToldByClap asked (Ending ending) = ((ending.status ≡ 0) × asked) ⊎ (ending.status ≡ 2)
IsToldByClap asked NotALength = ⊥
IsToldByClap asked Memory = ⊤

-- in place of a task there is a text with status 0 only if the words ask for that, and else with 2; or there is none
abbrev pub IsToldIf : (asked : Type 0) → NoTask → Type 0
IsToldIf asked (Ending ending) = ((ending.status ≡ 0) × asked) ⊎ (ending.status ≡ 2)
IsToldIf asked NotALength = ⊤
IsToldIf asked Memory = ⊤

-- what is said of a line that asks for what is not done
abbrev pub line_fault_text : LineFault → Option (List ℕ)
line_fault_text SameFile = Some (codes "msrepack: the output is the input\n")
line_fault_text OneStandardInput = Some (codes "msrepack: only one input can be standard input\n")
line_fault_text NotBelow = Some (codes "msrepack: not a folder of an archive\n")
line_fault_text Overlap = Some (codes "msrepack: the folders overlap\n")
line_fault_text TouchedOriginals = Some (codes "msrepack: --undo takes no --touch\n")
line_fault_text _ = None
