-- That no day is told otherwise whose files show what they have to.
use Rattle.std.specs.Prelude.{◌≡◌, ◌<◌, ◌⊎◌, List, Some, Ok}
use Rattle.msr_input.specs.declared.fault.ReadFault.TheVariants as stop
use Rattle.msr_options.specs.declared.names.Names.{Names}
use Rattle.msr_tree.specs.Steps.{Step, failures}
use Rattle.msr_verify.specs.Files.{AnswerThere, DayPlaces, IsNamedThere, TellsSegments}
use Rattle.msr_verify.specs.declared.judging.Finding.TheVariants as finding
use Rattle.msr_verify.specs.declared.judging.VerifyFault.TheVariants.{File, Records, ReportRead, ReportMemory}
use Rattle.msr_verify.specs.declared.judgement.Judgement.{Judgement}
use Rattle.msr_verify.specs.declared.judgement.Judgement.TheVariants.{Misplaced, Verified, Refused}
use Rattle.msr_verify.specs.declared.judgement.Refusal.TheVariants.{Day}

-- a file of the day could not be read to its end, or memory was refused
abbrev pub IsCutShort : Judgement → Type 0
IsCutShort (Refused (Day (File stop.Read))) = Unit {0}
IsCutShort (Refused (Day (File stop.Memory))) = Unit {0}
IsCutShort (Refused (Day (Records stop.Read))) = Unit {0}
IsCutShort (Refused (Day (Records stop.Memory))) = Unit {0}
IsCutShort (Refused (Day ReportRead)) = Unit {0}
IsCutShort (Refused (Day ReportMemory)) = Unit {0}
IsCutShort judgement = ⊥

-- its segments do not belong to it, by the one of this name
abbrev pub IsAstray : Names → DayPlaces → Judgement → List Step → Type 0
IsAstray names places (Misplaced found) past = TellsSegments names places.report (Some found) past
IsAstray names places judgement past = ⊥

-- A day is told as verified only if its files show it; and if they do, it is told as nothing else, unless it is asked for
-- that its segments belong to it, and they do not, a call failed or its files could not be read to their end.
abbrev pub VerifiedIsExact : Type 0
VerifiedIsExact =
    (names : Names) (places : DayPlaces) (judgement : Judgement) (old new : List Step) → IsNamedThere names places judgement old new
    → AnswerThere places old (Ok finding.Verified)
    → (judgement ≡ Verified) ⊎ IsAstray names places judgement old ⊎ (failures old < failures new) ⊎ IsCutShort judgement
