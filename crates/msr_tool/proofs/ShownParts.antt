-- The parts of the rows of an output are its segments, in their runs.
use Rattle.std.proofs.Common.{◌≡◌, ℕ, ◌+◌, ◌-◌, List, [], ◌∷◌, ◌++◌, ◌∙◌, length, map, arith, refl, sym, ap, length-append}
use Rattle.std.specs.List.{flat_map}
use Rattle.std.specs.Prelude.{All}
use Rattle.std.proofs.lemmas.List.Elements.{All-head, All-tail}
use Rattle.msr_base.specs.declared.forms.Form.{Form}
use Rattle.msr_base.specs.Lengths.{bytes_of}
use Rattle.msr_words.proofs.Runs.{same_run}
use Rattle.msr_words.specs.declared.kinds.Run.{Run}
use Rattle.msr_words.specs.Packing.{Joins}
use Rattle.msr_rows.specs.declared.row.Row.{Row}
use Rattle.msr_segments.specs.declared.joiner.Segment.{Segment}
use Rattle.msr_segments.specs.Segments.{Part, rows_of, segment_of}
use Rattle.msr_report.specs.declared.report.SegmentLine.{SegmentLine}
use Rattle.msr_record.specs.Output.{Packed, IsPacked, AreWritten, next_number, number_after, cuts_at, cuts_of, segment_of_packed}
use Rattle.msr_record.specs.Writing.{IsLineOf}
use Rattle.msr_record.proofs.CutRows.{IsFitting, written_split}
use Rattle.msr_record.proofs.Existing.{all_left, all_right}
use Rattle.msr_verdict.specs.Packed.{runs_of_rows, IsShownAs, IsShownBy, AreShownBy}
use Rattle.msr_verdict.specs.Agreements.{samples_of_rows}
use Rattle.msr_verdict.proofs.Runs.{segment_samples}
use Rattle.msr_tool.specs.Answer.{AreLinesOf}
use Rattle.msr_tool.proofs.ShownRows.{IsSound, range_length}

some_samples : (row : Row) (rows : List Row) → IsSound row → 0 ≡ length (samples_of_rows (row ∷ rows)) → ⊥
some_samples row rows is e = omega (arith, e, is.some, length-append row.samples (samples_of_rows rows))

-- prefixes of the same rows with as many samples are the same prefix, since each row has some
same_prefix : (xs ys u v : List Row) → xs ++ u ≡ ys ++ v → All IsSound xs → All IsSound ys
    → length (samples_of_rows xs) ≡ length (samples_of_rows ys) → (xs ≡ ys) × (u ≡ v)
same_prefix [] [] u v e first second size = (refl, e)
same_prefix [] (y ∷ ys) u v e first second size = absurd (some_samples y ys (All-head IsSound y ys second) size)
same_prefix (x ∷ xs) [] u v e first second size =
    absurd (some_samples x xs (All-head IsSound x xs first) (sym size))
same_prefix (x ∷ xs) (y ∷ ys) u v e first second size =
    let h : x ≡ y = cc in
    let t : xs ++ u ≡ ys ++ v = cc in
    let count : length x.samples ≡ length y.samples = ap (λ (r : Row). length r.samples) h in
    let rest : length (samples_of_rows xs) ≡ length (samples_of_rows ys) =
    omega (arith, size, count, length-append x.samples (samples_of_rows xs), length-append y.samples (samples_of_rows ys)) in
    let same = same_prefix xs ys u v t (All-tail IsSound x xs first) (All-tail IsSound y ys second) rest in
    (rw (h, same.0) refl, same.1)

-- The rows of a segment's records are its runs, and have all its samples.
record AreRuns (a : ℕ) (runs : List Run) (end : ℕ) (rows : List Row) : Type 0 where
  same : runs_of_rows a rows ≡ runs
  size : a + length (samples_of_rows rows) ≡ end

are_runs : (form : Form) (n : ℕ) (segment : Segment) (runs : List Run) (a : ℕ) (rows : List Row) (bytes : List ℕ)
    → All (IsFitting form segment.samples) runs → Joins a runs (length segment.samples)
    → AreWritten (bytes_of form.length) n (cuts_at segment runs) rows bytes
    → AreRuns a runs (length segment.samples) rows
are_runs form n segment [] a rows bytes fitting joined are =
    rw are.0 (record { same = refl; size = omega (arith, joined) })
are_runs form n segment (run ∷ runs) a rows bytes fitting joined are =
    let w = are.2 in
    let is_row = w.is_record.of_run in
    let fits = All-head (IsFitting form segment.samples) run runs fitting in
    let count : length w.row.samples ≡ run.end - run.start = ap length is_row.samples
    ∙ range_length segment.samples run.start run.end fits.1 in
    let start : run.start ≡ a = joined.0 in
    let end : a + length w.row.samples ≡ run.end = omega (arith, count, start, fits.0) in
    let rest = are_runs form (next_number n) segment runs run.end are.0 are.1
    (All-tail (IsFitting form segment.samples) run runs fitting) joined.1 are.3 in
    let first : Run = record { start = a; end = a + length w.row.samples; kind = w.row.kind } in
    let is_first : first ≡ run = same_run first run (sym start) end is_row.kind in
    rw w.all_rows (record {
      same = rw (is_first, end, rest.same) refl;
      size = omega (arith, end, rest.size, length-append w.row.samples (samples_of_rows are.0));
    })

-- the line of a packed segment shows it
is_shown : (form : Form) (packed : Packed) (line : SegmentLine) → IsPacked form packed → IsLineOf packed line
    → IsShownAs form packed.segment packed.runs line
is_shown form packed line is its = record {
  key = its.key;
  start = its.start;
  samples = its.samples;
  records = its.records;
  packing = is.packing;
  separating = rw its.separators is.separating;
  as_many = rw its.separators is.as_many;
}

-- the parts of the rows are shown by the lines of the segments
pub are_shown : (form : Form) (n : ℕ) (packed : List Packed) (lines : List SegmentLine) (parts : List Part)
    (rows : List Row) (bytes : List ℕ) → All (IsPacked form) packed → AreLinesOf packed lines
    → map segment_of_packed packed ≡ map segment_of parts → rows ≡ flat_map rows_of parts → All IsSound rows
    → AreWritten (bytes_of form.length) n (flat_map cuts_of packed) rows bytes → AreShownBy form parts lines
are_shown form n [] [] [] rows bytes packings lines_are each whole sound are = tt
are_shown form n [] [] (p ∷ ps) rows bytes packings lines_are each whole sound are = absurd cc
are_shown form n [] (line ∷ lines) parts rows bytes packings lines_are each whole sound are = absurd cc
are_shown form n (one ∷ packed) [] parts rows bytes packings lines_are each whole sound are = absurd lines_are
are_shown form n (one ∷ packed) (line ∷ lines) [] rows bytes packings lines_are each whole sound are = absurd cc
are_shown form n (one ∷ packed) (line ∷ lines) (p ∷ ps) rows bytes packings lines_are each whole sound are =
    let head : one.segment ≡ segment_of p = cc in
    let tail : map segment_of_packed packed ≡ map segment_of ps = cc in
    let is = All-head (IsPacked form) one packed packings in
    let split = written_split (bytes_of form.length) n (cuts_of one) (flat_map cuts_of packed) rows bytes are in
    let runs = are_runs form n one.segment one.runs 0 split.first_rows split.first_bytes is.packing.each_fits
    is.packing.joined split.first in
    let two : split.first_rows ++ split.other_rows ≡ rows_of p ++ flat_map rows_of ps = sym split.whole ∙ whole in
    let sound_first = rw split.whole at sound in
    let total : length (samples_of_rows (rows_of p)) ≡ length one.segment.samples = ap length (sym (segment_samples p))
    ∙ ap (λ (s : Segment). length s.samples) (sym head) in
    let same = same_prefix split.first_rows (rows_of p) split.other_rows (flat_map rows_of ps) two
    (all_left IsSound split.first_rows split.other_rows sound_first)
    (all_left IsSound (rows_of p) (flat_map rows_of ps) (rw whole at sound)) (omega (arith, total, runs.size)) in
    let its_runs : one.runs ≡ runs_of_rows 0 (rows_of p) = sym runs.same ∙ ap (runs_of_rows 0) same.0 in
    let shown : IsShownBy form p line = rw (← its_runs, ← head) (is_shown form one line is lines_are.0) in (
      shown,
      are_shown form (number_after n (cuts_of one)) packed lines ps split.other_rows split.other_bytes
          (All-tail (IsPacked form) one packed packings) lines_are.1 tail same.1
          (all_right IsSound split.first_rows split.other_rows sound_first) split.others,
    )
