-- The runs that rows are, one row more.
use Rattle.std.proofs.Common.{◌≡◌, ℕ, suc, ◌+◌, List, [], ◌∷◌, ◌++◌, length, refl, sym, ap, ◌∙◌, arith, length-append, ℤ, Option, Some, None}
use Rattle.std.proofs.lemmas.List.{append-nil}
use Rattle.std.proofs.lemmas.Grind.{flat_map-append}
use Rattle.msr_words.specs.declared.kinds.Run.{Run}
use Rattle.msr_rows.specs.declared.row.Row.{Row}
use Rattle.msr_segments.specs.Segments.{Part, rows_of, segment_of}
use Rattle.msr_verdict.specs.Packed.{runs_of_rows}
use Rattle.msr_check.specs.Judged.{next_run}
use Rattle.msr_verdict.specs.Agreements.{open_rows, samples_of_rows}
use Rattle.msr_verdict.proofs.Parts.{part_with}

pub segment_samples : (part : Part) → (segment_of part).samples ≡ samples_of_rows (rows_of part)
unfolding segment_of
segment_samples part = refl

-- the run that a row is, after `at` samples
abbrev pub run_behind : ℕ → Row → Run
run_behind at row = record { start = at; end = at + length row.samples; kind = row.kind }

pub runs_snoc : (at : ℕ) (rows : List Row) (row : Row)
    → runs_of_rows at (rows ++ row ∷ []) ≡ runs_of_rows at rows ++ run_behind (at + length (samples_of_rows rows)) row ∷ []
runs_snoc at [] row =
    let none : at ≡ at + length (samples_of_rows []) = omega arith in
    ap (λ n. run_behind n row ∷ []) none
runs_snoc at (one ∷ rows) row =
    let far : (at + length one.samples) + length (samples_of_rows rows) ≡ at + length (samples_of_rows (one ∷ rows)) =
    omega (arith, length-append one.samples (samples_of_rows rows)) in
    ap (λ (runs : List Run). run_behind at one ∷ runs) (runs_snoc (at + length one.samples) rows row)
    ∙ ap (λ n. run_behind at one ∷ (runs_of_rows (at + length one.samples) rows ++ run_behind n row ∷ [])) far

-- as many runs as rows
pub runs_length : (at : ℕ) (rows : List Row) → length (runs_of_rows at rows) ≡ length rows
runs_length at [] = refl
runs_length at (one ∷ rows) = ap (λ n. suc n) (runs_length (at + length one.samples) rows)

grown_rows : (last : Option Part) (row : Row) → rows_of (part_with last row) ≡ open_rows last ++ row ∷ []
grown_rows None row = refl
grown_rows (Some part) row = refl

-- it has the row's samples after its own
pub samples_grown : (last : Option Part) (row : Row)
    → samples_of_rows (open_rows last) ++ row.samples ≡ samples_of_rows (rows_of (part_with last row))
samples_grown last row =
    sym (ap (λ (rows : List Row). samples_of_rows rows) (grown_rows last row)
    ∙ flat_map-append (λ (r : Row). r.samples) (open_rows last) (row ∷ [])
    ∙ ap (λ (xs : List ℤ). samples_of_rows (open_rows last) ++ xs) (append-nil row.samples))

-- and its run after its runs
pub runs_grown : (last : Option Part) (row : Row)
    → runs_of_rows 0 (open_rows last) ++ next_run (samples_of_rows (open_rows last)) row.samples row.kind ∷ []
    ≡ runs_of_rows 0 (rows_of (part_with last row))
runs_grown last row =
    let rows = open_rows last in
    let total = 0 + length (samples_of_rows rows) in
    let start : length (samples_of_rows rows) ≡ total = omega arith in
    let end : length (samples_of_rows rows ++ row.samples) ≡ total + length row.samples =
    omega (arith, length-append (samples_of_rows rows) row.samples) in
    ap (λ n. runs_of_rows 0 rows ++ (record {
      start = n;
      end = length (samples_of_rows rows ++ row.samples);
      kind = row.kind;
    }) ∷ []) start
    ∙ ap (λ n. runs_of_rows 0 rows ++ (record { start = total; end = n; kind = row.kind }) ∷ []) end
    ∙ sym (runs_snoc 0 rows row)
    ∙ ap (λ (rs : List Row). runs_of_rows 0 rs) (sym (grown_rows last row))
