-- What was repacked is shown by each report that its report's text is that of.
use Rattle.std.proofs.Common.{◌≡◌, ◌∙◌, refl, sym, ap, ◌≢◌, ℕ, List, [], ◌∷◌, map, length, Result, Ok, Err}
use Rattle.msr_base.specs.Lengths.{bytes_of}
use Rattle.msr_base.specs.declared.forms.Form.{Form}
use Rattle.msr_words.specs.Fit.{records_of}
use Rattle.msr_segments.specs.Segments.{Part}
use Rattle.msr_report.specs.declared.report.SegmentLine.{SegmentLine}
use Rattle.msr_report.specs.declared.report.Report.{Report}
use Rattle.msr_report.specs.Proper.{IsProper}
use Rattle.msr_report.specs.Text.{IsReportText}
use Rattle.msr_report_reader.specs.Reading.{IsReadFrom}
use Rattle.msr_report_reader.specs.Content.{Content, ContentLine, IsContent, content_line, content_of}
use Rattle.msr_report_reader.specs.Laws.{NoLineAtFault, OneReport}
use Rattle.msr_input.specs.Input.{ReadableHasNoFault}
use Rattle.msr_verdict.specs.Packed.{IsShownBy, AreShownBy, ShowsLeast, ShownIsReadable, form_by, settings_by}
use Rattle.msr_verdict.specs.declared.verdict.Verdict.{Verdict}
use Rattle.msr_verdict.specs.declared.verdict.Verdict.TheVariants.{Least, NotShown}
use Rattle.msr_tool.specs.Checking.{CheckAnswers}
use Rattle.msr_tool.specs.declared.fault.ToolFault.{ToolFault}
use Rattle.msr_tool.specs.Shown.{RepackedIsLeast, RepackedIsShown}
use Rattle.msr_tool.specs.declared.fault.ToolFault.TheVariants as fault

same_shown : (a b : Form) → records_of a ≡ records_of b → (part : Part) (line other : SegmentLine)
    → content_line line ≡ content_line other → IsShownBy a part line → IsShownBy b part other
same_shown a b forms part line other same is =
    let separators : line.separators.items ≡ other.separators.items = ap (λ (l : ContentLine). l.separators) same in
    record {
      key = sym (ap (λ (l : ContentLine). l.key) same) ∙ is.key;
      start = sym (ap (λ (l : ContentLine). l.start) same) ∙ is.start;
      samples = sym (ap (λ (l : ContentLine). l.samples) same) ∙ is.samples;
      records = sym (ap (λ (l : ContentLine). l.records) same) ∙ is.records;
      packing = rw (← forms) is.packing;
      separating = rw (← forms, ← separators) is.separating;
      as_many = is.as_many ∙ ap length separators;
    }

-- lines that say the same show the same
same_lines : (a b : Form) → records_of a ≡ records_of b → (parts : List Part) (lines others : List SegmentLine)
    → map content_line lines ≡ map content_line others → AreShownBy a parts lines → AreShownBy b parts others
same_lines a b forms [] [] [] same are = tt
same_lines a b forms [] [] (other ∷ others) same are = absurd (cc)
same_lines a b forms [] (line ∷ lines) others same are = absurd are
same_lines a b forms (part ∷ parts) [] others same are = absurd are
same_lines a b forms (part ∷ parts) (line ∷ lines) [] same are = absurd (cc)
same_lines a b forms (part ∷ parts) (line ∷ lines) (other ∷ others) same are =
    let first : content_line line ≡ content_line other = cc in
    let rest : map content_line lines ≡ map content_line others = cc in
    (same_shown a b forms part line other first are.0, same_lines a b forms parts lines others rest are.1)

-- and so do reports that say the same
pub shows_same : (report other : Report) (input : List ℕ) → content_of report ≡ content_of other → ShowsLeast report input
    → ShowsLeast other input
shows_same report other input same shows =
    let tolerance : report.tolerance ≡ other.tolerance = ap (λ (said : Content). said.tolerance) same in
    let bytes : bytes_of report.length ≡ bytes_of other.length = ap (λ (said : Content). said.bytes) same in
    let kinds : report.kinds ≡ other.kinds = ap (λ (said : Content). said.kinds) same in
    let same_records : records_of (form_by report) ≡ records_of (form_by other) = rw (bytes, kinds) refl in
    let lines : map content_line report.segments.items ≡ map content_line other.segments.items =
    ap (λ (said : Content). said.segments) same in
    record {
      records = shows.records;
      parts = shows.parts;
      are_read = rw (← tolerance) shows.are_read;
      division = rw (← tolerance) shows.division;
      full = rw (← bytes) shows.full;
      shown = same_lines (form_by report) (form_by other) same_records shows.parts
          report.segments.items other.segments.items lines shows.shown;
    }

-- what is answered of records that a report shows to be the fewest
module _ (one : OneReport) (none : NoLineAtFault) (readable : ShownIsReadable) (has_none : ReadableHasNoFault)
    (report : Report) (written text : List ℕ) (proper : IsProper report) (is_content : IsContent (content_of report))
    (is_text : IsReportText report text) (shows : ShowsLeast report written) where
  shows_read : (other : Report) → IsReadFrom other text → ShowsLeast other written
  shows_read other read = shows_same report other written
      (one report other text is_content read.is_content is_text read.is_text) shows

  answers_least : (answer : Result Verdict ToolFault) → CheckAnswers written text answer
      → answer ≢ Err fault.Read → answer ≢ Err fault.Memory → answer ≡ Ok Least
  answers_least (Ok Least) a not_read not_memory = refl
  answers_least (Ok NotShown) a not_read not_memory = absurd (a.answers.none (shows_read a.report a.read))
  answers_least (Err (fault.Input found)) a not_read not_memory =
      let again = readable a.report written (shows_read a.report a.read) in
      absurd (has_none (settings_by a.report) written again.0 a.answers.records again.1 found again.2 a.answers.first)
  answers_least (Err (fault.Report line)) a not_read not_memory =
      absurd (none report text line (record { proper = proper; is_content = is_content; is_text = is_text }) a)
  answers_least (Err fault.Read) a not_read not_memory = absurd (not_read refl)
  answers_least (Err fault.Write) a not_read not_memory = absurd a
  answers_least (Err fault.Memory) a not_read not_memory = absurd (not_memory refl)

pub repacked_least : RepackedIsShown → ShownIsReadable → OneReport → NoLineAtFault → ReadableHasNoFault
    → RepackedIsLeast
repacked_least shown readable one none has_none choice input written text report records segments answer r
    are_readable before is_text =
    answers_least one none readable has_none report written text r.is_report.proper r.is_report.is_content is_text
    (shown choice input written report records segments r are_readable before) answer
