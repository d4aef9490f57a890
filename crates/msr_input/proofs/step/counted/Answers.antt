use Rattle.std.proofs.Common.{◌≡◌, ◌∷◌, ◌++◌, [], length, arith, ap, refl, ◌∙◌, length-append, sym, Bool, true, false, Option, Some, None}
use Rattle.std.specs.Prelude.{is_some, not, if◌then◌else◌, option_map}
use Rattle.std.specs.Int.{from_bool}
use Rattle.msr_rows.specs.declared.row.Row.{Row}
use Rattle.msr_base.specs.declared.counts.Counts.{Counts}
use Rattle.msr_input.specs.Input.{empty_count, mismatch_count}
use Rattle.msr_input.specs.Outlines.{row_outline}
use Rattle.msr_input.specs.declared.outline.Outline.{Outline}
use Rattle.msr_input.proofs.Records.{one_most, empty_most, mismatch_most, empty_snoc, mismatch_snoc}
use Rattle.msr_input.proofs.step.counted.Goals as goal

some_outlined : (row : Option Row) → is_some (option_map row_outline row) ≡ is_some row
some_outlined None = refl
some_outlined (Some row) = refl

one_unless : (b : Bool) → from_bool b ≡ (if not b then 0 else 1)
one_unless true = refl
one_unless false = refl

one_if_not : (b : Bool) → from_bool (not b) ≡ (if b then 0 else 1)
one_if_not true = refl
one_if_not false = refl

pub returns : goal.returns
returns c = λ found outline records counts few.
    let read : c.saturating_add.result ≡ length (records ++ found ∷ []) =
    grind (
      arith,
      c.saturating_add.ensures,
      ap (λ (k : Counts). k.read) counts,
      length-append records (found ∷ []),
      few,
    ) in
    let one : c.from-empty.result ≡ (if is_some found.row then 0 else 1) = c.from-empty.ensures
    ∙ one_unless c.is_none.result
    ∙ ap (λ (b : Bool). if b then 0 else 1) (sym c.is_none.ensures ∙ ap (λ (o : Outline). is_some o.row) outline
    ∙ some_outlined found.row) in
    let was = ap (λ (k : Counts). k.empty) counts in
    let most = one_most (is_some found.row) in
    let empty : c.saturating_add-2.result ≡ empty_count (records ++ found ∷ []) =
    grind (arith, c.saturating_add-2.ensures, was, empty_snoc records found, empty_most records, one, most, few) in
    let mismatched : c.saturating_add-3.result ≡ mismatch_count (records ++ found ∷ []) =
    grind (
      arith,
      c.saturating_add-3.ensures,
      ap
          (λ (k : Counts). k.mismatched) counts,
      mismatch_snoc records found,
      mismatch_most records,
      c.from-mismatched.ensures ∙ one_if_not c.args.outline.now.reverse_agrees
          ∙ ap (λ (o : Outline). if o.reverse_agrees then 0 else 1) outline,
      one_most found.reverse_agrees,
      few,
    ) in
    rw (read, empty, mismatched) refl
