use Rattle.std.proofs.Common.{Bool, true, false, [], Result, Ok, Err}
use Rattle.msr_input.specs.declared.fault.ReadFault.TheVariants as stop
use Rattle.msr_verify.specs.Day.{IsUnfinished, VerifiesAlone}
use Rattle.msr_verify.specs.Entries.{HasDayAnswer, IsJudgementOfDay, judgement_alone}
use Rattle.msr_verify.specs.Opening.{places_at}
use Rattle.msr_verify.specs.declared.judging.VerifyFault.{VerifyFault}
use Rattle.msr_verify.specs.declared.judging.VerifyFault.TheVariants.{File, Records, ReportLine, ReportRead, ReportMemory}
use Rattle.msr_devices.specs.Device.{Device}
use Rattle.msr_verify.proofs.OpeningLemmas.{opened_alone, stopped_alone, unopened_alone}
use Rattle.msr_verify.proofs.day.judge_alone.Goals as goal

-- of a file that was not read to its end nothing is said
cut_says : (fault : VerifyFault) → IsUnfinished fault → HasDayAnswer (Err fault)
cut_says (File stop.Read) cut = record { file = []; records = []; text = []; answers = tt }
cut_says (File stop.Memory) cut = record { file = []; records = []; text = []; answers = tt }
cut_says ReportRead cut = record { file = []; records = []; text = []; answers = tt }
cut_says ReportMemory cut = record { file = []; records = []; text = []; answers = tt }
cut_says (File (stop.Input found)) cut = absurd cut
cut_says (Records why) cut = absurd cut
cut_says (ReportLine line) cut = absurd cut

told : (file report : Device) (answer : Result Bool VerifyFault) → VerifiesAlone file report answer → IsJudgementOfDay (judgement_alone answer)
told file report (Ok true) found = record { file = found.own; text = found.text; shown = found.answers }
told file report (Ok false) found = tt
told file report (Err fault) found = cut_says fault found.answers

pub returns-in-Ok-clause-told : goal.returns-in-Ok-clause-told
returns-in-Ok-clause-told g c = rw c.judgement_alone.ensures (told _ _ c.verify_alone.result c.verify_alone.ensures)

pub returns-in-Ok-clause-goes : goal.returns-in-Ok-clause-goes
returns-in-Ok-clause-goes g c =
    rw c.judgement_alone.ensures (opened_alone (places_at c.args.places) (λ reader. g.T.Reader.Source.device reader) c.in-Ok.day c.verify_alone.result _ _
    c.in-Ok.ensures.goes c.verify_alone.ensures)

pub returns-in-Err-Refused-clause-goes : goal.returns-in-Err-Refused-clause-goes
returns-in-Err-Refused-clause-goes g c = unopened_alone (places_at c.args.places) (λ reader. g.T.Reader.Source.device reader) c.in-Err-Refused.field-0-0 _ _ (rw c.in-Err-Refused.field-0-is at c.in-Err-Refused.ensures.goes)

pub returns-in-Err-Memory-clause-goes : goal.returns-in-Err-Memory-clause-goes
returns-in-Err-Memory-clause-goes g c = stopped_alone (places_at c.args.places) (λ reader. g.T.Reader.Source.device reader) _ _ _ (rw c.in-Err-Memory.field-0-is at c.in-Err-Memory.ensures.goes)
