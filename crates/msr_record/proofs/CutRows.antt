-- The rows of an output are its segments, cut.
use Rattle.std.proofs.Common.{◌≡◌, ℕ, ◌+◌, ◌-◌, ◌≤◌, List, [], ◌∷◌, ◌++◌, ◌∙◌, length, take, map, arith, refl, sym, ap, subst, append_assoc, append-nil, length-take, ℤ}
use Rattle.std.specs.List.{flat_map}
use Rattle.std.specs.Prelude.{All, slice_range}
use Rattle.std.proofs.Math.Seq.{take-add}
use Rattle.std.proofs.lemmas.List.{take_all}
use Rattle.std.proofs.lemmas.List.Elements.{All-head, All-tail}
use Rattle.msr_time.specs.SampleRate.{IsRoundedNominal}
use Rattle.msr_words.specs.declared.kinds.Run.{Run}
use Rattle.msr_base.specs.declared.forms.Form.{Form}
use Rattle.msr_base.specs.Lengths.{bytes_of}
use Rattle.msr_words.specs.Fit.{FitsIn, IsRun, records_of}
use Rattle.msr_words.specs.Packing.{Joins}
use Rattle.msr_rows.specs.declared.row.Key.{Key}
use Rattle.msr_rows.specs.declared.row.Row.{Row}
use Rattle.msr_segments.specs.declared.joiner.Segment.{Segment}
use Rattle.msr_segments.specs.Segments.{AreSegments, row_segment, with_row}
use Rattle.msr_segments.specs.Cuts.{AreCuts, GoesOnAtNominal}
use Rattle.msr_segments.proofs.DivisionLaws.{cuts_none, cuts_begin, cuts_go_on, cuts_keep}
use Rattle.msr_record.specs.Output.{Packed, IsPacked, Cut, AreWritten, IsOutput, next_number, number_after, cuts_at, cuts_of, segment_of_packed}
use Rattle.msr_record.proofs.Times.{nominal_first}

-- the records of some cuts and of those after them
pub record Split (size n : ℕ) (xs ys : List Cut) (rows : List Row) : Type 0 where
  pub first_rows : List Row
  pub other_rows : List Row
  pub first_bytes : List ℕ
  pub other_bytes : List ℕ
  pub whole : rows ≡ first_rows ++ other_rows
  pub first : AreWritten size n xs first_rows first_bytes
  pub others : AreWritten size (number_after n xs) ys other_rows other_bytes

pub written_split : (size n : ℕ) (xs ys : List Cut) (rows : List Row) (bytes : List ℕ)
    → AreWritten size n (xs ++ ys) rows bytes → Split size n xs ys rows
written_split size n [] ys rows bytes are = record {
  first_rows = [];
  other_rows = rows;
  first_bytes = [];
  other_bytes = bytes;
  whole = refl;
  first = (refl, refl);
  others = are;
}
written_split size n (x ∷ xs) ys rows bytes are =
    let w = are.2 in
    let rest = written_split size (next_number n) xs ys are.0 are.1 are.3 in
    record {
      first_rows = w.row ∷ rest.first_rows;
      other_rows = rest.other_rows;
      first_bytes = w.first ++ rest.first_bytes;
      other_bytes = rest.other_bytes;
      whole = w.all_rows ∙ ap (λ (l : List Row). w.row ∷ l) rest.whole;
      first = (
        rest.first_rows,
        rest.first_bytes,
        record
            { row = w.row; first = w.first; is_record = w.is_record; all_rows = refl; all_bytes = refl },
        rest.first,
      );
      others = rest.others;
    }

-- the first samples of a segment, as a segment
abbrev first_samples : Segment → ℕ → Segment
first_samples segment n = record { key = segment.key; start = segment.start; samples = take n segment.samples }

take_range : (a b : ℕ) (xs : List ℤ) → a ≤ b → take a xs ++ slice_range xs a b ≡ take b xs
take_range a b xs within = let e : a + (b - a) ≡ b = omega arith in rw e at (sym (take-add a (b - a) xs))

abbrev pub IsFitting : Form → List ℤ → Run → Type 0
IsFitting form samples run = IsRun (FitsIn run.kind (records_of form)) samples run.start run.end

same_segment : (a b : Segment) → a.key ≡ b.key → a.start ≡ b.start → a.samples ≡ b.samples → a ≡ b
same_segment a b key start samples =
    ap (λ (k : Key). record { key = k; start = a.start; samples = a.samples }) key
    ∙ ap (λ (t : ℤ). record { key = b.key; start = t; samples = a.samples }) start
    ∙ ap (λ (s : List ℤ). record { key = b.key; start = b.start; samples = s }) samples

-- the rows of further runs go on
go_on : (form : Form) (n : ℕ) (segment : Segment) (segments : List Segment) (runs : List Run) (a : ℕ)
    (before rows : List Row) (bytes : List ℕ) → AreCuts (segments ++ first_samples segment a ∷ []) before
    → All (IsFitting form segment.samples) runs → Joins a runs (length segment.samples)
    → AreWritten (bytes_of form.length) n (cuts_at segment runs) rows bytes
    → AreCuts (segments ++ first_samples segment (length segment.samples) ∷ []) (before ++ rows)
go_on form n segment segments [] a before rows bytes cuts fitting joined are =
    rw (are.0, append-nil before)
    (subst (λ (m : ℕ). AreCuts (segments ++ first_samples segment m ∷ []) before) joined cuts)
go_on form n segment segments (run ∷ runs) a before rows bytes cuts fitting joined are =
    let w = are.2 in
    let is_row = w.is_record.of_run in
    let fits = All-head (IsFitting form segment.samples) run runs fitting in
    let start : run.start ≡ a = joined.0 in
    let ordered : a ≤ run.end = omega (arith, start, fits.0) in
    let size_is : length (take a segment.samples) ≡ a = omega (arith, length-take a segment.samples, ordered, fits.1) in
    let time : IsRoundedNominal segment.key.rate segment.start (length (take a segment.samples)) w.row.start =
    rw (size_is, ← start) is_row.start in
    let goes_on : GoesOnAtNominal (first_samples segment a) w.row = record { key = is_row.key; time = time } in
    let samples : take a segment.samples ++ w.row.samples ≡ take run.end segment.samples =
    rw (is_row.samples, start) (take_range a run.end segment.samples ordered) in
    let longer : with_row (first_samples segment a) w.row ≡ first_samples segment run.end =
    ap (λ (s : List ℤ). record { key = segment.key; start = segment.start; samples = s }) samples in
    let next : AreCuts (segments ++ first_samples segment run.end ∷ []) (before ++ w.row ∷ []) =
    subst (λ (s : Segment). AreCuts (segments ++ s ∷ []) (before ++ w.row ∷ [])) longer
    (cuts_go_on segments (first_samples segment a) before w.row cuts goes_on) in
    let all = go_on form (next_number n) segment segments runs run.end (before ++ w.row ∷ []) are.0 are.1 next
    (All-tail (IsFitting form segment.samples) run runs fitting) joined.1 are.3 in
    rw (w.all_rows, ← append_assoc before (w.row ∷ []) are.0) all

-- the rows of a segment's runs are the segment, cut
one_cut : (form : Form) (n : ℕ) (segment : Segment) (segments : List Segment) (runs : List Run) (before rows : List Row)
    (bytes : List ℕ) → 1 ≤ length segment.samples → All (IsFitting form segment.samples) runs
    → Joins 0 runs (length segment.samples)
    → AreCuts segments before
    → AreWritten (bytes_of form.length) n (cuts_at segment runs) rows bytes
    → AreCuts (segments ++ segment ∷ []) (before ++ rows)
one_cut form n segment segments [] before rows bytes some fitting joined cuts are =
    absurd (let e : 0 ≡ length segment.samples = joined in omega arith)
one_cut form n segment segments (run ∷ runs) before rows bytes some fitting joined cuts are =
    let w = are.2 in
    let is_row = w.is_record.of_run in
    let start : run.start ≡ 0 = joined.0 in
    let time : w.row.start ≡ segment.start = nominal_first segment.key.rate segment.start w.row.start
    (rw start at is_row.start) in
    let samples : w.row.samples ≡ take run.end segment.samples = is_row.samples
    ∙ (let e : run.end - 0 ≡ run.end = omega arith in rw (start, e) refl) in
    let first : row_segment w.row ≡ first_samples segment run.end =
    same_segment (row_segment w.row) (first_samples segment run.end) is_row.key time samples in
    let begun : AreCuts (segments ++ first_samples segment run.end ∷ []) (before ++ w.row ∷ []) =
    subst (λ (s : Segment). AreCuts (segments ++ s ∷ []) (before ++ w.row ∷ [])) first
    (cuts_begin segments before w.row cuts) in
    let all = go_on form (next_number n) segment segments runs run.end (before ++ w.row ∷ []) are.0 are.1 begun
    (All-tail (IsFitting form segment.samples) run runs fitting) joined.1 are.3 in
    let same : first_samples segment (length segment.samples) ≡ segment =
    ap (λ (s : List ℤ). record { key = segment.key; start = segment.start; samples = s })
    (take_all (length segment.samples) segment.samples (omega arith)) in
    rw (w.all_rows, ← append_assoc before (w.row ∷ []) are.0)
    (subst (λ (s : Segment). AreCuts (segments ++ s ∷ []) ((before ++ w.row ∷ []) ++ are.0)) same all)

abbrev HasSamples : Packed → Type 0
HasSamples packed = 1 ≤ length packed.segment.samples

-- the rows of all segments' records are the segments, cut
all_cut : (form : Form) (n : ℕ) (segments : List Segment) (packed : List Packed) (before rows : List Row)
    (bytes : List ℕ) → All HasSamples packed → All (IsPacked form) packed → AreCuts segments before
    → AreWritten (bytes_of form.length) n (flat_map cuts_of packed) rows bytes
    → AreCuts (segments ++ map segment_of_packed packed) (before ++ rows)
all_cut form n segments [] before rows bytes some packings cuts are =
    rw (are.0, append-nil before, append-nil segments) cuts
all_cut form n segments (one ∷ packed) before rows bytes some packings cuts are =
    let split = written_split (bytes_of form.length) n (cuts_of one) (flat_map cuts_of packed) rows bytes are in
    let packing = (All-head (IsPacked form) one packed packings).packing in
    let first = one_cut form n one.segment segments one.runs before split.first_rows split.first_bytes
    (All-head HasSamples one packed some) packing.each_fits packing.joined cuts split.first in
    let all = all_cut form (number_after n (cuts_of one)) (segments ++ one.segment ∷ []) packed
    (before ++ split.first_rows) split.other_rows split.other_bytes (All-tail HasSamples one packed some)
    (All-tail (IsPacked form) one packed packings) first split.others in
    rw (
      split.whole,
      ← append_assoc before split.first_rows split.other_rows,
      ← append_assoc segments
          (one.segment ∷ []) (map segment_of_packed packed),
    ) all

pub output_keeps : (form : Form) (tolerance : ℕ) (rows written : List Row) (packed : List Packed) (bytes : List ℕ)
    → 1 ≤ tolerance → AreSegments tolerance rows (map segment_of_packed packed) → All HasSamples packed
    → IsOutput form packed written bytes
    → AreSegments tolerance written (map segment_of_packed packed)
output_keeps form tolerance rows written packed bytes least segments some output =
    cuts_keep tolerance rows written (map segment_of_packed packed) least segments
    (all_cut form 1 [] packed [] written bytes some output.packings cuts_none output.records)
