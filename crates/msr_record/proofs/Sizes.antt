-- How many bytes an output has.
use Rattle.std.proofs.Common.{◌≡◌, ℕ, ◌+◌, ◌*◌, List, [], ◌∷◌, ◌++◌, ◌∙◌, length, arith, ap, length-append}
use Rattle.std.specs.List.{flat_map}
use Rattle.std.proofs.lemmas.List.{length-map}
use Rattle.msr_base.specs.declared.forms.Form.{Form}
use Rattle.msr_base.specs.Lengths.{bytes_of}
use Rattle.msr_words.specs.declared.kinds.Run.{Run}
use Rattle.msr_rows.specs.declared.row.Row.{Row}
use Rattle.msr_record.specs.Output.{Packed, Cut, AreWritten, IsOutput, next_number, cuts_of, count_of_runs}

written_size : (size n : ℕ) (cuts : List Cut) (rows : List Row) (bytes : List ℕ)
    → AreWritten size n cuts rows bytes → length bytes ≡ size * length cuts
written_size size n [] rows bytes are = let e : length bytes ≡ 0 = ap length are.1 in omega (arith, e)
written_size size n (cut ∷ cuts) rows bytes are =
    let w = are.2 in
    let rest = written_size size (next_number n) cuts are.0 are.1 are.3 in
    let whole : length bytes ≡ length w.first + length are.1 = ap length w.all_bytes ∙ length-append w.first are.1 in
    omega (arith, whole, w.is_record.size_is, rest)

count_cuts : (packed : List Packed) → length (flat_map cuts_of packed) ≡ count_of_runs packed
count_cuts [] = omega arith
count_cuts (one ∷ packed) =
    let whole : length (cuts_of one ++ flat_map cuts_of packed)
    ≡ length (cuts_of one) + length (flat_map cuts_of packed) =
    length-append (cuts_of one) (flat_map cuts_of packed) in
    let first : length (cuts_of one) ≡ length one.runs =
    length-map one.runs (λ (run : Run). record { segment = one.segment; run = run }) in
    omega (arith, whole, first, count_cuts packed)

pub output_size : (form : Form) (packed : List Packed) (rows : List Row) (bytes : List ℕ)
    → IsOutput form packed rows bytes → length bytes ≡ bytes_of form.length * count_of_runs packed
output_size form packed rows bytes output =
    written_size (bytes_of form.length) 1 (flat_map cuts_of packed) rows bytes output.records
    ∙ ap (λ (n : ℕ). bytes_of form.length * n) (count_cuts packed)
