-- One record more at the end of a list of records, and what two lists of one input have in common.
use Rattle.std.proofs.Common.{◌≡◌, ℕ, ◌+◌, ◌≤◌, ◌⊎◌, inl, inr, Bool, true, false, List, [], ◌∷◌, ◌++◌, length, drop, refl, sym, ap, subst, ◌∙◌, arith, append_assoc}
use Rattle.std.specs.Prelude.{is_some, if◌then◌else◌}
use Rattle.std.specs.Option.{option_to_list}
use Rattle.std.proofs.lemmas.List.{append-nil}
use Rattle.msr_rows.specs.Records.{IsRecordOf}
use Rattle.msr_rows.specs.declared.row.Record.{Record}
use Rattle.msr_rows.specs.declared.row.Row.{Row}
use Rattle.msr_rows.proofs.UnseenBytes.{record_fits}
use Rattle.msr_rows.proofs.OneAnswer.{one_record}
use Rattle.msr_input.specs.Input.{Agrees, AllAgree, BeginsWith, bytes_of_records, rows_of_records, empty_count, mismatch_count}

pub begins_snoc : (records : List Record) (found : Record) (input rest : List ℕ) → BeginsWith records input rest
    → IsRecordOf rest found → BeginsWith (records ++ found ∷ []) input (drop found.length rest)
begins_snoc [] found input rest e is =
    (subst (λ (bytes : List ℕ). IsRecordOf bytes found) (sym e) is, ap (λ (bytes : List ℕ). drop found.length bytes) e)
begins_snoc (x ∷ xs) found input rest b is = (b.0, begins_snoc xs found (drop x.length input) rest b.1 is)

pub bytes_snoc : (records : List Record) (found : Record)
    → bytes_of_records (records ++ found ∷ []) ≡ bytes_of_records records + found.length
bytes_snoc [] found = omega arith
bytes_snoc (x ∷ xs) found = omega (arith, bytes_snoc xs found)

pub rows_snoc : (records : List Record) (found : Record)
    → rows_of_records (records ++ found ∷ []) ≡ rows_of_records records ++ option_to_list found.row
rows_snoc [] found = append-nil (option_to_list found.row)
rows_snoc (x ∷ xs) found =
    ap (λ (rows : List Row). option_to_list x.row ++ rows) (rows_snoc xs found)
    ∙ sym (append_assoc (option_to_list x.row) (rows_of_records xs) (option_to_list found.row))

pub empty_snoc : (records : List Record) (found : Record)
    → empty_count (records ++ found ∷ []) ≡ empty_count records + (if is_some found.row then 0 else 1)
empty_snoc [] found = omega arith
empty_snoc (x ∷ xs) found = omega (arith, empty_snoc xs found)

pub mismatch_snoc : (records : List Record) (found : Record)
    → mismatch_count (records ++ found ∷ []) ≡ mismatch_count records + (if found.reverse_agrees then 0 else 1)
mismatch_snoc [] found = omega arith
mismatch_snoc (x ∷ xs) found = omega (arith, mismatch_snoc xs found)

pub mismatch_append : (records others : List Record)
    → mismatch_count (records ++ others) ≡ mismatch_count records + mismatch_count others
mismatch_append [] others = omega arith
mismatch_append (x ∷ xs) others = omega (arith, mismatch_append xs others)

-- if all agree, each does, and so with one more that does
abbrev one_mismatch : Bool → ℕ
one_mismatch agrees = if agrees then 0 else 1

agrees_so : (b : Bool) → one_mismatch b ≡ 0 → b ≡ true
agrees_so true e = refl
agrees_so false e = absurd (omega (arith, e))

pub agree_one : (strict : Bool) (before after : List Record) (found : Record)
    → AllAgree strict (before ++ found ∷ after) → Agrees strict found
agree_one strict before after found all t =
    agrees_so found.reverse_agrees (omega (arith, all t, mismatch_append before (found ∷ after)))

pub agree_more : (strict : Bool) (records : List Record) (found : Record) → AllAgree strict records
    → Agrees strict found → AllAgree strict (records ++ found ∷ [])
agree_more strict records found all agrees t =
    omega (arith, mismatch_snoc records found, all t, ap one_mismatch (agrees t))

pub one_most : (b : Bool) → (if b then 0 else 1) ≤ 1
one_most true = omega arith
one_most false = omega arith

pub empty_most : (records : List Record) → empty_count records ≤ length records
empty_most [] = omega arith
empty_most (x ∷ xs) = omega (arith, empty_most xs, one_most (is_some x.row))

pub mismatch_most : (records : List Record) → mismatch_count records ≤ length records
mismatch_most [] = omega arith
mismatch_most (x ∷ xs) = omega (arith, mismatch_most xs, one_most x.reverse_agrees)

-- each record has some bytes
pub few_records : (records : List Record) (input rest : List ℕ) → BeginsWith records input rest
    → length records ≤ bytes_of_records records
few_records [] input rest b = omega arith
few_records (x ∷ xs) input rest b = omega (
  arith,
  (record_fits input x b.0).0,
  few_records xs (drop x.length input) rest b.1,
)

-- the one of two lists of an input's records goes on where the other stops
pub record GoesOn (records others : List Record) (from to : List ℕ) : Type 0 where
  pub more : List Record
  pub whole : others ≡ records ++ more
  pub begins : BeginsWith more from to

goes_on_cons : (x : Record) (records others : List Record) (from to : List ℕ) → GoesOn records others from to
    → GoesOn (x ∷ records) (x ∷ others) from to
goes_on_cons x records others from to g = record {
  more = g.more;
  whole = ap (λ (xs : List Record). x ∷ xs) g.whole;
  begins = g.begins;
}

pub compare_begins : (records others : List Record) (input r s : List ℕ) → BeginsWith records input r
    → BeginsWith others input s → GoesOn records others r s ⊎ GoesOn others records s r
compare_begins [] others input r s b c =
    inl (record { more = others; whole = refl; begins = subst (λ (bytes : List ℕ). BeginsWith others bytes s) b c })
compare_begins (x ∷ xs) [] input r s b c =
    inr (record { more = x ∷ xs; whole = refl; begins = subst (λ (bytes : List ℕ). BeginsWith (x ∷ xs) bytes r) c b })
compare_begins (x ∷ xs) (y ∷ ys) input r s b c =
    let same : y ≡ x = one_record input y x c.0 b.0 in
    let c1 = subst (λ (found : Record). BeginsWith ys (drop found.length input) s) same c.1 in
    elim (compare_begins xs ys (drop x.length input) r s b.1 c1) [
      | inl g ↦ inl (subst (λ (found : Record). GoesOn (x ∷ xs) (found ∷ ys) r s) (sym same)
          (goes_on_cons x xs ys r s g))
      | inr g ↦ inr (subst (λ (found : Record). GoesOn (found ∷ ys) (x ∷ xs) s r) (sym same)
          (goes_on_cons x ys xs s r g))
    ]

-- no record begins in no bytes
pub nothing_begins : (found : Record) → IsRecordOf [] found → ⊥
nothing_begins found is = let fits = record_fits [] found is in omega (arith, fits.0, fits.1)
