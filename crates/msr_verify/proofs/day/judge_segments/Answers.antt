use Rattle.std.proofs.Common.{List, ℕ, [], Err}
use Rattle.msr_report_reader.specs.Reading.{ReadsReport}
use Rattle.msr_report_reader.specs.declared.fault.ReportFault.{ReportFault}
use Rattle.msr_report_reader.specs.declared.fault.ReportFault.TheVariants as report_stop
use Rattle.msr_verify.specs.Day.{verify_fault_of_report}
use Rattle.msr_verify.specs.Entries.{HasDayAnswer}
use Rattle.msr_verify.proofs.NamedLemmas.{astray_told, segments_belong, segments_cut, segments_misplaced}
use Rattle.msr_verify.proofs.day.judge_segments.Goals as goal

-- some text has a report's fault
cut_told : (text : List ℕ) (why : ReportFault) → ReadsReport text (Err why) → HasDayAnswer (Err (verify_fault_of_report why))
cut_told text (report_stop.Line line) reads = record { file = []; records = []; text = text; answers = reads }
cut_told text report_stop.Read reads = record { file = []; records = []; text = text; answers = tt }
cut_told text report_stop.Memory reads = record { file = []; records = []; text = text; answers = tt }

pub returns-in-Some-clause-told : goal.returns-in-Some-clause-told
returns-in-Some-clause-told g c =
    let read = c.in-Ok-read_report.ensures.answer in
    λ is. astray_told c.args.names c.in-Ok-read_report.report read.0 c.in-Some.found read.2 c.in-Some.ensures

pub returns-in-Some-clause-goes : goal.returns-in-Some-clause-goes
returns-in-Some-clause-goes g c =
    let read = c.in-Ok-read_report.ensures.answer in
    λ asks. segments_misplaced c.args.names c.args.report.now c.args.judgement (λ reader. g.T.Reader.Source.device reader) c.in-Ok.source read.0 c.in-Ok-read_report.report c.in-Some.found _ _
    read.1 read.2 c.in-Some.ensures c.in-Ok.ensures.goes

pub returns-in-Ok-read_report-clause-goes : goal.returns-in-Ok-read_report-clause-goes
returns-in-Ok-read_report-clause-goes g c =
    let read = c.in-Ok-read_report.ensures.answer in
    λ asks. segments_belong c.args.names c.args.report.now c.args.judgement (λ reader. g.T.Reader.Source.device reader) c.in-Ok.source read.0 c.in-Ok-read_report.report _ _
    asks read.1 read.2 c.in-None.ensures c.in-Ok.ensures.goes

pub returns-in-Ok-read_report-clause-told : goal.returns-in-Ok-read_report-clause-told
returns-in-Ok-read_report-clause-told g c = λ is. is

pub returns-clause-told : goal.returns-clause-told
returns-clause-told g c =
    let read = c.in-Err.ensures.answer in
    λ is. rw c.report_fault.ensures (cut_told read.0 c.in-Err.fault read.2)

pub returns-clause-goes : goal.returns-clause-goes
returns-clause-goes g c =
    let read = c.in-Err.ensures.answer in
    λ asks. rw c.report_fault.ensures (segments_cut c.args.names c.args.report.now c.args.judgement (λ reader. g.T.Reader.Source.device reader) c.in-Ok.source read.0 c.in-Err.fault _ _
    read.1 read.2 c.in-Ok.ensures.goes)
