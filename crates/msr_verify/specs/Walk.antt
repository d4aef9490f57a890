-- What a walk prints, and how it ends.
use Rattle.std.specs.Prelude.{ℕ, ◌+◌, Bool, true, false, List, [], ◌++◌, codes, Result, Ok, Err}
use Rattle.std.specs.Fmt.{decimal}
use Rattle.msr_devices.specs.Device.{Device, Takes}
use Rattle.msr_devices.specs.declared.fault.DeviceFault.{DeviceFault}
use Rattle.msr_folders.specs.Visits.{IsWalk, IsWalkInPart, StopsTelling, TellsMore, TellsThese}
use Rattle.msr_folders.specs.Found.{Finds}
use Rattle.msr_folders.specs.declared.found.WalkFound.{WalkFound}
use Rattle.msr_options.specs.Known.{knows_any}
use Rattle.msr_options.specs.declared.known.Known.{Known}
use Rattle.msr_options.specs.declared.task.ListForm.{ListForm}
use Rattle.msr_options.specs.declared.task.ListForm.TheVariants.{Words, Json}
use Rattle.msr_options.specs.declared.task.Verifying.{Verifying}
use Rattle.msr_tool.specs.declared.fault.ToolFault.{ToolFault}
use Rattle.msr_tool.specs.declared.fault.ToolFault.TheVariants.{Input, Report, Read, Write, Memory}
use Rattle.msr_verify.specs.Entries.{IsVerifyTally, JudgedEntry, is_judged_known, is_unverified, is_verified, judged_count, verify_tally_of}
use Rattle.msr_verify.specs.Known.{IsJudgedEntry}
use Rattle.msr_tree.specs.Calls.{Goes}
use Rattle.msr_tree.specs.Steps.{Step}
use Rattle.msr_verify.specs.Files.{IsArchiveVerified, names_asked}
use Rattle.msr_verify.specs.Lines.{IsToldLine}
use Rattle.msr_verify.specs.declared.tally.VerifyTally.{VerifyTally}

-- the counts at the end of the last line
abbrev pub others_told : VerifyTally → List ℕ
others_told tally =
    codes " missing " ++ (decimal tally.missing ++ (codes " notshown "
    ++ (decimal tally.not_shown ++ (codes " differs " ++ (decimal tally.differ
    ++ (codes " orphan " ++ decimal tally.orphans))))))

-- how many are known, if that is asked for
abbrev pub known_told : (told : Bool) → VerifyTally → List ℕ
known_told false tally = []
known_told true tally = codes " known " ++ decimal tally.known

-- the last line in words
abbrev pub judged_line : Known → VerifyTally → List ℕ
judged_line asked tally =
    codes "files " ++ (decimal tally.verified ++ (codes " skipped "
    ++ (decimal tally.skipped ++ (codes " refused " ++ (decimal tally.refused
    ++ (known_told (knows_any asked) tally ++ (others_told tally ++ codes "\n")))))))

abbrev pub known_json : (told : Bool) → VerifyTally → List ℕ
known_json false tally = []
known_json true tally = codes ",\"known\":" ++ decimal tally.known

-- the last members of the last line in JSON
abbrev pub others_json : (told : Bool) → VerifyTally → List ℕ
others_json told tally =
    known_json told tally ++ (codes ",\"missing\":" ++ (decimal tally.missing ++ (codes ",\"notshown\":"
    ++ (decimal tally.not_shown ++ (codes ",\"differs\":" ++ (decimal tally.differ
    ++ (codes ",\"orphan\":" ++ decimal tally.orphans)))))))

-- the last line in JSON
abbrev pub judged_json : Known → VerifyTally → List ℕ
judged_json asked tally =
    codes "{\"what\":\"files\",\"files\":" ++ (decimal tally.verified ++ (codes ",\"skipped\":"
    ++ (decimal tally.skipped ++ (codes ",\"refused\":" ++ (decimal tally.refused
    ++ (others_json (knows_any asked) tally ++ codes "}\n"))))))

abbrev pub judged_told : ListForm → Known → VerifyTally → List ℕ
judged_told Words asked tally = judged_line asked tally
judged_told Json asked tally = judged_json asked tally

abbrev pub judged_end : Verifying → VerifyTally → List ℕ
judged_end asked tally = judged_told asked.telling.form asked.known tally

-- the line after those of the entries
abbrev pub judged_summary : Verifying → List JudgedEntry → List ℕ
judged_summary asked entries = judged_end asked (verify_tally_of entries)

-- some more entries were told: their lines were printed, and they are counted
abbrev pub TellsJudged : Verifying → Device → Device → VerifyTally → VerifyTally → Type 0
TellsJudged asked out0 out tally0 tally = TellsMore (IsJudgedEntry asked) (IsToldLine asked) IsVerifyTally out0 out tally0 tally

-- these entries were told
abbrev pub TellsEntries : Verifying → List JudgedEntry → Device → Device → VerifyTally → VerifyTally → Type 0
TellsEntries asked = TellsThese (IsJudgedEntry asked) (IsToldLine asked) IsVerifyTally

-- The archive was told, and then its records.
pub record TellsArchive (archive : Verifying) (before after : List Step → Type 0) (out0 out : Device) (tally0 tally : VerifyTally) : Type 0 where
  pub entries : List JudgedEntry
  pub orphans : List JudgedEntry
  pub these : TellsEntries archive (entries ++ orphans) out0 out tally0 tally
  pub goes : Goes before after (IsArchiveVerified archive.known (names_asked archive.names) archive.folders.root.now archive.folders.out.now archive.folders.reports.now archive.below.items entries orphans)

-- that was printed when the walk stopped
abbrev pub StopsTellingJudged : Verifying → Device → Device → DeviceFault → Type 0
StopsTellingJudged asked out0 out fault = StopsTelling (IsJudgedEntry asked) (IsToldLine asked) out0 out fault

-- a walk that came to its end tells whether one of its entries is neither verified, skipped nor known, and if none is, whether
-- one is verified or known
abbrev pub TellsVerified : List JudgedEntry → WalkFound → Type 0
TellsVerified entries found = Finds (judged_count is_unverified entries) (judged_count is_verified entries + judged_count is_judged_known entries) found

-- the whole text was printed, or a prefix of it when the walk stopped, which no input and no source can make it do
abbrev pub VerifyingEnds : Verifying → (printed : List ℕ) → Result WalkFound ToolFault → Type 0
VerifyingEnds asked printed (Ok found) = (entries : List JudgedEntry)
    × IsWalk (IsJudgedEntry asked) (IsToldLine asked) (judged_summary asked) printed entries × TellsVerified entries found
VerifyingEnds asked printed (Err (Input found)) = ⊥
VerifyingEnds asked printed (Err (Report line)) = ⊥
VerifyingEnds asked printed (Err Read) = ⊥
VerifyingEnds asked printed (Err Write) = IsWalkInPart (IsJudgedEntry asked) (IsToldLine asked) (judged_summary asked) printed
VerifyingEnds asked printed (Err Memory) = IsWalkInPart (IsJudgedEntry asked) (IsToldLine asked) (judged_summary asked) printed

-- What verifying an archive printed, and how it ended.
pub record Verifies (asked : Verifying) (out0 out : Device) (result : Result WalkFound ToolFault) : Type 0 where
  pub printed : List ℕ
  pub prints : Takes out0 out printed
  pub ends : VerifyingEnds asked printed result

-- The whole text was printed: a line for each entry of the archive, in order, then for each day of the records that it does
-- not have, but for the lines that are left out, and then the counts.
pub record VerifiesTree (archive : Verifying) (before after : List Step → Type 0) (out0 out : Device) (found : WalkFound) : Type 0 where
  pub entries : List JudgedEntry
  pub orphans : List JudgedEntry
  pub printed : List ℕ
  pub prints : Takes out0 out printed
  pub text : IsWalk (IsJudgedEntry archive) (IsToldLine archive) (judged_summary archive) printed (entries ++ orphans)
  pub tells : TellsVerified (entries ++ orphans) found
  pub goes : Goes before after (IsArchiveVerified archive.known (names_asked archive.names) archive.folders.root.now archive.folders.out.now archive.folders.reports.now archive.below.items entries orphans)
