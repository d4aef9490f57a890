-- A report has one text, and a proper one has some text.
use Rattle.std.proofs.Common.{◌≡◌, ℕ, ℤ, List, [], ◌∷◌, ◌++◌, ◌∙◌, ap, sym, All, length, refl}
use Rattle.std.proofs.lemmas.List.Elements.{All-head, All-tail}
use Rattle.msr_time.specs.Instant.{IsInstant}
use Rattle.msr_time.specs.declared.btime.BTime.{BTime}
use Rattle.msr_time.proofs.Existing.{has_split}
use Rattle.msr_time.proofs.TimeLemmas.{split_one}
use Rattle.msr_rows.specs.declared.row.Key.{Key}
use Rattle.msr_report.specs.Proper.{IsProper, IsProperLine, records_in}
use Rattle.msr_report.specs.Text.{IsTimeText, split_text, segment_words, segment_line, separators_line, IsListLine, IsSegmentText, AreSegmentTexts, first_lines, end_line, IsReportText}
use Rattle.msr_report.specs.declared.report.SegmentLine.{SegmentLine}
use Rattle.msr_report.specs.declared.report.Report.{Report}

same_split_text : (a b : BTime) (m k : ℕ) → a ≡ b → m ≡ k → split_text a m ≡ split_text b k
same_split_text a b m k e f = rw (e, f) refl

pub one_time_text : (t : ℤ) (text other : List ℕ) → IsTimeText t text → IsTimeText t other → text ≡ other
one_time_text t text other h k =
    let same = split_one t h.time k.time h.micros k.micros h.split k.split in
    h.is ∙ same_split_text h.time k.time h.micros k.micros same.0 same.1 ∙ sym k.is

pub one_list_line : (key : Key) (start : ℤ) (samples : ℕ) (text other : List ℕ) → IsListLine key start samples text
    → IsListLine key start samples other → text ≡ other
one_list_line key start samples text other h k =
    h.is ∙ ap (λ (s : List ℕ). segment_words key s samples (10 ∷ []))
    (one_time_text start h.start_text k.start_text h.time k.time) ∙ sym k.is

pub one_segment_text : (line : SegmentLine) (text other : List ℕ) → IsSegmentText line text
    → IsSegmentText line other → text ≡ other
one_segment_text line text other h k =
    h.is ∙ ap (λ (s : List ℕ). segment_line line s ++ separators_line line.separators.items)
    (one_time_text line.start h.start_text k.start_text h.time k.time) ∙ sym k.is

two_parts : (a b c d : List ℕ) → a ≡ c → b ≡ d → a ++ b ≡ c ++ d
two_parts a b c d e f = rw (e, f) refl

pub one_segments_text : (lines : List SegmentLine) (text other : List ℕ) → AreSegmentTexts lines text
    → AreSegmentTexts lines other → text ≡ other
one_segments_text [] text other h k = h ∙ sym k
one_segments_text (line ∷ lines) text other h k =
    h.1.1.2 ∙ two_parts h.0 h.1.0 k.0 k.1.0 (one_segment_text line h.0 k.0 h.1.1.0 k.1.1.0)
    (one_segments_text lines h.1.0 k.1.0 h.1.1.1 k.1.1.1) ∙ sym k.1.1.2

pub one_report_text : (report : Report) (text other : List ℕ) → IsReportText report text
    → IsReportText report other → text ≡ other
one_report_text report text other h k =
    h.is ∙ ap (λ (t : List ℕ). first_lines report
    ++ (t ++ end_line (length report.segments.items) (records_in report.segments.items)))
    (one_segments_text report.segments.items h.segments k.segments h.are k.are) ∙ sym k.is

pub has_time_text : (t : ℤ) → IsInstant t → (text : List ℕ) × IsTimeText t text
has_time_text t h =
    let found = has_split t h in (
      split_text found.time found.micros,
      record { time = found.time; micros = found.micros; split = found.split; is = refl },
    )

pub has_segment_text : (line : SegmentLine) → IsProperLine line → (text : List ℕ) × IsSegmentText line text
has_segment_text line h =
    let start = has_time_text line.start h.start in (
      segment_line line start.0 ++ separators_line line.separators.items,
      record
          { start_text = start.0; time = start.1; is = refl },
    )

pub has_segments_text : (lines : List SegmentLine) → All IsProperLine lines
    → (text : List ℕ) × AreSegmentTexts lines text
has_segments_text [] h = ([], refl)
has_segments_text (line ∷ lines) h =
    let first = has_segment_text line (All-head IsProperLine line lines h) in
    let more = has_segments_text lines (All-tail IsProperLine line lines h) in
    (first.0 ++ more.0, (first.0, (more.0, (first.1, more.1, refl))))

pub has_report_text : (report : Report) → IsProper report → (text : List ℕ) × IsReportText report text
has_report_text report h =
    let segments = has_segments_text report.segments.items h.lines in (
      first_lines report ++ (segments.0 ++ end_line (length report.segments.items)
          (records_in report.segments.items)),
      record { segments = segments.0; are = segments.1; is = refl },
    )
