-- Some segments were read, and the rest of the text may go on.
use Rattle.std.proofs.Common.{◌≡◌, ◌∙◌, ap, sym, refl, arith, ℕ, zero, suc, ◌+◌, ◌*◌, ◌<◌, ◌≤◌, ◌^◌, List, [], ◌∷◌, ◌++◌, append_assoc, length, All, map, length-append}
use Rattle.std.proofs.lemmas.List.{append-nil}
use Rattle.msr_base.specs.Lengths.{bytes_of}
use Rattle.msr_base.specs.declared.kinds.Kinds.{Kinds}
use Rattle.msr_report.specs.Proper.{IsProperLine, records_in}
use Rattle.msr_report.specs.Text.{separators_line, end_line, first_lines, AreSegmentTexts}
use Rattle.msr_base.specs.declared.counts.Counts.{Counts}
use Rattle.msr_report.specs.declared.report.SegmentLine.{SegmentLine}
use Rattle.msr_report.specs.declared.report.Report.{Report}
use Rattle.msr_report_reader.specs.Content.{ContentLine, IsFirst, IsContentLine, IsContentLineText, AreContentLineTexts, IsOpening, content_records, content_line, first_then, lines_before}
use Rattle.msr_report_reader.specs.Reading.{IsReadFrom}
use Rattle.msr_report_reader.proofs.Rest.{AtLine}
use Rattle.msr_report_reader.proofs.Segments.{first_line_then, Tail}
use Rattle.msr_report_reader.proofs.LineFeeds.{same_cons}

-- the lines of these segments stand after those before the segments
pub record Going (text : List ℕ) (bytes tolerance : ℕ) (kinds : Kinds) (counts : Counts) (segments : List SegmentLine)
    (rest : List ℕ) : Type 0 where
  pub lines : List ℕ
  pub are : AreContentLineTexts (map content_line segments) lines
  pub each : All IsContentLine (map content_line segments)
  pub is_first : IsFirst bytes tolerance counts
  pub shown : text ≡ first_then bytes tolerance kinds counts (lines ++ rest)
  pub at : AtLine (Tail (length segments) (records_in segments)) text rest (lines_before kinds + 2 * length segments)

pub texts_more : (lines : List ContentLine) (text : List ℕ) (line : ContentLine) (more : List ℕ)
    → AreContentLineTexts lines text → IsContentLineText line more
    → AreContentLineTexts (lines ++ line ∷ []) (text ++ more)
texts_more [] text line more are is = (more, ([], (is, refl, rw are (sym (append-nil more)))))
texts_more (l ∷ lines) text line more are is =
    let first : List ℕ = are.0 in
    let behind : List ℕ = are.1.0 in (
      first,
      (
        behind ++ more,
        (
          are.1.1.0,
          texts_more lines behind line more are.1.1.1 is,
          ap (λ (t : List ℕ). t ++ more) are.1.1.2 ∙ append_assoc first behind more,
        ),
      ),
    )

pub map_more : (segments : List SegmentLine) (segment : SegmentLine)
    → map content_line (segments ++ segment ∷ []) ≡ map content_line segments ++ content_line segment ∷ []
map_more [] segment = refl
map_more (s ∷ segments) segment = ap (λ (l : List ContentLine). content_line s ∷ l) (map_more segments segment)

pub all_more : (lines : List ContentLine) (line : ContentLine) → All IsContentLine lines → IsContentLine line
    → All IsContentLine (lines ++ line ∷ [])
all_more [] line all is zero d within = is
all_more [] line all is (suc k) d within = absurd (omega arith)
all_more (l ∷ lines) line all is zero d within = all 0 l (omega arith)
all_more (l ∷ lines) line all is (suc k) d within =
    all_more lines line (λ j e w. all (suc j) e (omega arith)) is k d (omega arith)

-- the same in a report's own words
texts_of : (segments : List SegmentLine) (text : List ℕ) → AreContentLineTexts (map content_line segments) text
    → AreSegmentTexts segments text
texts_of [] text are = are
texts_of (s ∷ segments) text are = (
  are.0,
  (
    are.1.0,
    (
      record {
        start_text = are.1.1.0.word;
        time = are.1.1.0.time;
        is = are.1.1.0.is
            ∙ sym (first_line_then s.key are.1.1.0.word s.samples s.records (separators_line s.separators.items));
      },
      texts_of segments are.1.0 are.1.1.1,
      are.1.1.2,
    ),
  ),
)

pub records_same : (segments : List SegmentLine) → content_records (map content_line segments) ≡ records_in segments
records_same [] = refl
records_same (s ∷ segments) = ap (λ n. s.records + n) (records_same segments)

proper_lines : (segments : List SegmentLine) → All IsContentLine (map content_line segments) → All IsProperLine segments
proper_lines [] all k d within = absurd (omega arith)
proper_lines (s ∷ segments) all zero d within =
    let is : IsContentLine (content_line s) = all 0 (content_line s) (omega arith) in
    record { quality = is.key.quality; start = is.start }
proper_lines (s ∷ segments) all (suc k) d within =
    proper_lines segments (λ j e w. all (suc j) e (omega arith)) k d (omega arith)

pub first_same : (report : Report) (more : List ℕ)
    → first_lines report ++ more ≡ first_then (bytes_of report.length) report.tolerance report.kinds report.counts more
first_same report more = simp append_assoc

pub found_report : (report : Report) (text rest : List ℕ)
    → Going text (bytes_of report.length) report.tolerance report.kinds report.counts report.segments.items rest
    → records_in report.segments.items < 2 ^ 64 → rest
    ≡ end_line (length report.segments.items) (records_in report.segments.items)
    → IsReadFrom report text
found_report report text rest going fits is = record {
  proper = record {
    least = going.is_first.least;
    most = going.is_first.most;
    lines = proper_lines report.segments.items going.each;
    records = fits;
  };
  is_content = record { first = going.is_first; segments = going.each };
  is_text = record {
    segments = going.lines;
    are = texts_of report.segments.items going.lines going.are;
    is = going.shown ∙ ap (λ (t : List ℕ). first_then (bytes_of report.length) report.tolerance report.kinds
        report.counts (going.lines ++ t)) is
        ∙ sym (first_same report (going.lines ++ end_line (length report.segments.items)
        (records_in report.segments.items)));
  };
}

two_heads : (a b : ℕ) (xs ys : List ℕ) → a ≡ 115 → b ≡ 101 → a ∷ xs ≡ b ∷ ys → ⊥
two_heads a b xs ys is_a is_b e = let same : a ≡ b = (same_cons a b xs ys e).0 in omega arith

pub opening_not_end : (line : ContentLine) (more rest x : List ℕ) (count total : ℕ)
    → IsOpening line.key line.start line.samples line.records more rest → rest ≡ end_line count total ++ x → ⊥
opening_not_end line more rest x count total opening is = two_heads 115 101 _ _ refl refl (sym opening.is ∙ is)

pub first_long : (bytes tolerance : ℕ) (kinds : Kinds) (counts : Counts) (more : List ℕ)
    → 18 + length more ≤ length (first_then bytes tolerance kinds counts more)
first_long bytes tolerance kinds counts more = simp length-append (omega arith)

pub length-lines : (segments : List SegmentLine) → length (map content_line segments) ≡ length segments
length-lines [] = refl
length-lines (s ∷ segments) = ap suc (length-lines segments)
