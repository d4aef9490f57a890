-- The lines of a walk, in words and in JSON.
use Rattle.std.specs.Prelude.{◌≡◌, ◌⊎◌, ◌||◌, ℕ, ⊤, not, Bool, true, false, List, [], ◌++◌, codes, unwrap_or}
use Rattle.std.specs.Fmt.{decimal}
use Rattle.msr_input.specs.declared.fault.ReadFault.TheVariants as stop
use Rattle.msr_folders.specs.Faults.{fault_json, read_fault_text}
use Rattle.msr_folders.specs.Members.{IsReasonMember, skip_text}
use Rattle.msr_folders.specs.Paths.{shown_path, text_json}
use Rattle.msr_folders.specs.Names.{found_json, found_words}
use Rattle.msr_options.specs.Known.{text_known}
use Rattle.msr_options.specs.declared.known.Known.{Known as Asked}
use Rattle.msr_options.specs.declared.task.ListForm.{ListForm}
use Rattle.msr_options.specs.declared.task.ListForm.TheVariants.{Words, Json}
use Rattle.msr_options.specs.declared.task.Verifying.{Verifying}
use Rattle.msr_options.specs.declared.telling.Telling.{Telling}
use Rattle.msr_verify.specs.Entries.{JudgedEntry, is_unverified}
use Rattle.msr_verify.specs.declared.judging.VerifyFault.{VerifyFault}
use Rattle.msr_verify.specs.declared.judging.VerifyFault.TheVariants as fault
use Rattle.msr_verify.specs.declared.judgement.Judgement.{Judgement}
use Rattle.msr_verify.specs.declared.judgement.Judgement.TheVariants.{Verified, InPlace, Missing, NotShown, Differs, Misplaced, Refused, Skipped, Orphan, Known, KnownMissing}
use Rattle.msr_verify.specs.declared.judgement.Refusal.{Refusal}
use Rattle.msr_verify.specs.declared.judgement.Refusal.TheVariants.{FileUnopened, RecordsUnopened, ReportUnopened, SameFile, Listing, RecordsListing, Day}

-- which of a day's files is at fault, and its fault
abbrev pub verify_fault_text : VerifyFault → List ℕ
verify_fault_text (fault.File why) = codes "file: " ++ read_fault_text why
verify_fault_text (fault.Records why) = codes "records: " ++ read_fault_text why
verify_fault_text (fault.ReportLine line) = codes "report: line " ++ decimal line
verify_fault_text fault.ReportRead = codes "report: read fault"
verify_fault_text fault.ReportMemory = codes "report: out of memory"

abbrev pub refusal_text : Refusal → List ℕ
refusal_text FileUnopened = codes "file: cannot open"
refusal_text RecordsUnopened = codes "records: cannot open"
refusal_text ReportUnopened = codes "report: cannot open"
refusal_text SameFile = codes "records: the file itself"
refusal_text Listing = codes "listing"
refusal_text RecordsListing = codes "records: listing"
refusal_text (Day why) = verify_fault_text why

-- the first word of a line
abbrev pub what_text : Judgement → List ℕ
what_text Verified = codes "verified"
what_text InPlace = codes "inplace"
what_text Missing = codes "missing"
what_text NotShown = codes "notshown"
what_text Differs = codes "differs"
what_text (Misplaced found) = codes "misplaced"
what_text (Refused refusal) = codes "refused"
what_text (Skipped why) = codes "skipped"
what_text Orphan = codes "orphan"
what_text (Known refusal) = codes "known"
what_text KnownMissing = codes "known"

-- how a line begins that tells that the entry with this path was refused
abbrev pub refused_before : (path : List ℕ) → List ℕ
refused_before path = codes "refused " ++ (shown_path path ++ codes ": ")

-- why a missing day was refused, by the first line that is known and tells it
abbrev pub text_missing : Asked → (path : List ℕ) → List ℕ
text_missing asked path = unwrap_or (text_known asked (refused_before path)) []

-- what stands after the path
abbrev pub why_text : Asked → (path : List ℕ) → Judgement → List ℕ
why_text asked path (Misplaced found) = found_words found
why_text asked path (Refused refusal) = codes ": " ++ refusal_text refusal
why_text asked path (Known refusal) = codes ": " ++ refusal_text refusal
why_text asked path KnownMissing = codes ": " ++ text_missing asked path
why_text asked path (Skipped why) = codes ": " ++ skip_text why
why_text asked path _ = []

abbrev pub words_line : Asked → (path : List ℕ) → Judgement → List ℕ
words_line asked path judgement =
    what_text judgement ++ (codes " " ++ (shown_path path ++ (why_text asked path judgement ++ codes "\n")))

-- the member that tells whose fault it is
abbrev pub day_side_json : VerifyFault → List ℕ
day_side_json (fault.File why) = codes ",\"side\":\"file\""
day_side_json (fault.Records why) = codes ",\"side\":\"records\""
day_side_json _ = codes ",\"side\":\"report\""

abbrev pub side_json : Refusal → List ℕ
side_json FileUnopened = codes ",\"side\":\"file\""
side_json RecordsUnopened = codes ",\"side\":\"records\""
side_json ReportUnopened = codes ",\"side\":\"report\""
side_json SameFile = codes ",\"side\":\"records\""
side_json Listing = []
side_json RecordsListing = codes ",\"side\":\"records\""
side_json (Day why) = day_side_json why

-- those that tell where a file is at fault, and what is there
abbrev pub place_json : Refusal → List ℕ
place_json (Day (fault.File (stop.Input found))) = fault_json found
place_json (Day (fault.Records (stop.Input found))) = fault_json found
place_json (Day (fault.ReportLine line)) = codes ",\"line\":" ++ decimal line
place_json _ = []

abbrev pub refusal_json : Refusal → List ℕ
refusal_json refusal = side_json refusal
    ++ (place_json refusal ++ (codes ",\"text\":\"" ++ (text_json (refusal_text refusal) ++ codes "\"")))

abbrev pub why_json : Asked → (path : List ℕ) → Judgement → List ℕ
why_json asked path (Misplaced found) = found_json found
why_json asked path (Refused refusal) = refusal_json refusal
why_json asked path (Known refusal) = refusal_json refusal
why_json asked path KnownMissing = codes ",\"text\":\"" ++ (text_json (text_missing asked path) ++ codes "\"")
why_json asked path (Skipped why) = codes ",\"text\":\"" ++ (text_json (skip_text why) ++ codes "\"")
why_json asked path _ = []

-- a call of the system has failed
abbrev pub IsRefusalOfSystem : Refusal → Type 0
IsRefusalOfSystem FileUnopened = ⊤
IsRefusalOfSystem RecordsUnopened = ⊤
IsRefusalOfSystem ReportUnopened = ⊤
IsRefusalOfSystem Listing = ⊤
IsRefusalOfSystem RecordsListing = ⊤
IsRefusalOfSystem _ = ⊥

abbrev pub IsOfSystem : Judgement → Type 0
IsOfSystem (Refused refusal) = IsRefusalOfSystem refusal
IsOfSystem (Known refusal) = IsRefusalOfSystem refusal
IsOfSystem _ = ⊥

-- there is none, or a call of the system has failed
abbrev pub IsReasonJson : Judgement → List ℕ → Type 0
IsReasonJson judgement text = (text ≡ []) ⊎ (IsOfSystem judgement × IsReasonMember text)

-- The line in JSON.
pub record IsJudgementJson (asked : Asked) (path : List ℕ) (judgement : Judgement) (line : List ℕ) : Type 0 where
  pub reason : List ℕ
  pub is_reason : IsReasonJson judgement reason
  pub is : line ≡ codes "{\"what\":\"" ++ (what_text judgement ++ (codes "\",\"path\":\"" ++ (text_json path
      ++ (codes "\"" ++ (why_json asked path judgement ++ (reason ++ codes "}\n"))))))

abbrev pub IsJudgementLine : ListForm → Asked → (path : List ℕ) → Judgement → List ℕ → Type 0
IsJudgementLine Words asked path judgement line = line ≡ words_line asked path judgement
IsJudgementLine Json asked path judgement line = IsJudgementJson asked path judgement line

-- whether the line is printed: if only what is to be looked at is asked for, that of a day that is verified or in place, or
-- of what is skipped or known, is left out
abbrev pub is_told : Telling → Judgement → Bool
is_told telling judgement = not telling.quiet || is_unverified judgement

-- What is printed of an entry: its line, or nothing if that is left out.
pub record IsToldLine (asked : Verifying) (entry : JudgedEntry) (line : List ℕ) : Type 0 where
  pub told : is_told asked.telling entry.judgement ≡ true → IsJudgementLine asked.telling.form asked.known entry.path entry.judgement line
  pub left_out : is_told asked.telling entry.judgement ≡ false → line ≡ []
