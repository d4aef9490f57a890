-- Segments have one output.
use Rattle.std.proofs.Common.{◌≡◌, ℕ, List, [], ◌∷◌, ◌++◌, ◌∙◌, map, refl, sym, ap, subst}
use Rattle.std.specs.List.{flat_map}
use Rattle.std.specs.Prelude.{All}
use Rattle.std.proofs.lemmas.List.Elements.{All-head, All-tail}
use Rattle.msr_time.proofs.NominalLemmas.{nominal_one}
use Rattle.msr_base.specs.declared.forms.Form.{Form}
use Rattle.msr_base.specs.Lengths.{bytes_of}
use Rattle.msr_words.specs.Fit.{records_of}
use Rattle.msr_words.specs.declared.kinds.Run.{Run}
use Rattle.msr_words.specs.Packing.{IsCanonical}
use Rattle.msr_packer.proofs.Canonical.{one_packing}
use Rattle.msr_rows.specs.declared.row.Row.{Row}
use Rattle.msr_record.specs.Written.{IsWrittenRecord}
use Rattle.msr_rows.proofs.OneAnswer.{rows_equal}
use Rattle.msr_record.proofs.OneWritten.{written_once}
use Rattle.msr_segments.specs.declared.joiner.Segment.{Segment}
use Rattle.msr_record.specs.Output.{Packed, IsPacked, Cut, IsRowOfRun, AreWritten, IsOutput, next_number, cuts_of, segment_of_packed}
use Rattle.msr_packer.specs.HeldSamples.{before_place}

one_row : (segment : Segment) (run : Run) (a b : Row) → IsRowOfRun segment run a → IsRowOfRun segment run b → a ≡ b
one_row segment run a b first second =
    rows_equal a b (first.key ∙ sym second.key)
    (nominal_one segment.key.rate segment.start run.start a.start b.start first.start second.start)
    (first.kind ∙ sym second.kind) (first.samples ∙ sym second.samples)

one_written : (size n : ℕ) (cuts : List Cut) (rows more : List Row) (bytes text : List ℕ)
    → AreWritten size n cuts rows bytes → AreWritten size n cuts more text → (rows ≡ more) × (bytes ≡ text)
one_written size n [] rows more bytes text first second = (first.0 ∙ sym second.0, first.1 ∙ sym second.1)
one_written size n (cut ∷ cuts) rows more bytes text first second =
    let w = first.2 in
    let v = second.2 in
    let row : w.row ≡ v.row = one_row cut.segment cut.run w.row v.row w.is_record.of_run v.is_record.of_run in
    let before = before_place cut.segment.samples cut.run.start in
    let other : IsWrittenRecord v.first cut.segment.key w.row.start n before w.row.samples cut.run.kind size =
    subst (λ (r : Row). IsWrittenRecord v.first cut.segment.key r.start n before r.samples cut.run.kind size)
    (sym row) v.is_record.written in
    let same : w.first ≡ v.first =
    written_once w.first v.first cut.segment.key w.row.start n before w.row.samples cut.run.kind size
    w.is_record.written other in
    let rest = one_written size (next_number n) cuts first.0 second.0 first.1 second.1 first.3 second.3 in (
      w.all_rows ∙ ap (λ (r : Row). r ∷ first.0) row ∙ ap (λ (l : List Row). v.row ∷ l) rest.0 ∙ sym v.all_rows,
      w.all_bytes ∙ ap (λ (l : List ℕ). l ++ first.1) same ∙ ap (λ (l : List ℕ). v.first ++ l) rest.1
          ∙ sym v.all_bytes,
    )

same_packed : (a b : Packed) → a.segment ≡ b.segment → a.runs ≡ b.runs → a.separators ≡ b.separators → a ≡ b
same_packed a b segment runs separators =
    ap (λ (s : Segment). record { segment = s; runs = a.runs; separators = a.separators }) segment
    ∙ ap (λ (r : List Run). record { segment = b.segment; runs = r; separators = a.separators }) runs
    ∙ ap (λ (s : List ℕ). record { segment = b.segment; runs = b.runs; separators = s }) separators

one_packed : (form : Form) (a b : Packed) → a.segment ≡ b.segment → IsPacked form a → IsPacked form b → a ≡ b
one_packed form a b segment first second =
    let canonical : IsCanonical (records_of form) b.segment.samples a.runs a.separators =
    subst (λ (s : Segment). IsCanonical (records_of form) s.samples a.runs a.separators) segment first.canonical in
    let both = one_packing (records_of form) b.segment.samples a.runs b.runs a.separators b.separators canonical
    second.canonical in
    same_packed a b segment both.0 both.1

all_packed : (form : Form) (packed others : List Packed) → map segment_of_packed packed ≡ map segment_of_packed others
    → All (IsPacked form) packed → All (IsPacked form) others → packed ≡ others
all_packed form [] [] e first second = refl
all_packed form [] (b ∷ others) e first second = absurd cc
all_packed form (a ∷ packed) [] e first second = absurd cc
all_packed form (a ∷ packed) (b ∷ others) e first second =
    let head : a.segment ≡ b.segment = cc in
    let tail : map segment_of_packed packed ≡ map segment_of_packed others = cc in
    let one : a ≡ b = one_packed form a b head (All-head (IsPacked form) a packed first)
    (All-head (IsPacked form) b others second) in
    let rest : packed ≡ others = all_packed form packed others tail (All-tail (IsPacked form) a packed first)
    (All-tail (IsPacked form) b others second) in
    cc

pub output_once : (form : Form) (packed others : List Packed) (rows more : List Row) (bytes text : List ℕ)
    → map segment_of_packed packed ≡ map segment_of_packed others → IsOutput form packed rows bytes
    → IsOutput form others more text →
    (packed ≡ others) × (rows ≡ more) × (bytes ≡ text)
output_once form packed others rows more bytes text e first second =
    let same : packed ≡ others = all_packed form packed others e first.packings second.packings in
    let records : AreWritten (bytes_of form.length) 1 (flat_map cuts_of packed) more text =
    subst (λ (p : List Packed). AreWritten (bytes_of form.length) 1 (flat_map cuts_of p) more text)
    (sym same) second.records in
    let both = one_written (bytes_of form.length) 1 (flat_map cuts_of packed) rows more bytes text
    first.records records in
    (same, both.0, both.1)
