-- Refusals for a reverse constant that does not agree, beside those of a record by itself.
use Rattle.std.proofs.Common.{◌≡◌, ◌≢◌, ℕ, inl, inr, Bool, true, false, List, refl, sym, subst, ◌∙◌}
use Rattle.msr_rows.specs.Records.{IsRecordOf, IsRefused, HasReverse, IsRefusedBeforeTime}
use Rattle.msr_rows.specs.declared.row.Record.{Record}
use Rattle.msr_rows.specs.declared.fault.FaultKind.{FaultKind}
use Rattle.msr_rows.specs.declared.fault.FaultKind.TheVariants.{ReverseMismatch, TimeRange}
use Rattle.msr_rows.proofs.FirstBytes.{SameRecord, refused_same, reverse_same, turned}
use Rattle.msr_rows.proofs.OneAnswer.{not_refused, one_fault, reverse_not_refused, reverse_of_record, reverse_one}
use Rattle.msr_input.specs.Input.{Agrees, IsRefusedAlone, Mismatches}

-- every fault but that of the time comes before the reverse constant
pub alone_before : (strict : Bool) (bytes : List ℕ) (kind : FaultKind) → IsRefused bytes kind → kind ≢ TimeRange
    → IsRefusedAlone strict bytes kind
alone_before strict bytes kind refused before =
    inr (
      (λ m. reverse_not_refused bytes false m.reverse
          (record { fault = kind; refused = refused; before = before })),
      refused,
    )

-- reading that is not strict does not look at it
pub alone_lenient : (bytes : List ℕ) (kind : FaultKind) → IsRefused bytes kind → IsRefusedAlone false bytes kind
alone_lenient bytes kind refused = inr ((λ m. let e = m.is_strict in cc), refused)

-- strict reading does, and refuses a record that does not agree
pub alone_mismatched : (strict : Bool) (bytes : List ℕ) (found : Record) → IsRecordOf bytes found → strict ≡ true
    → found.reverse_agrees ≡ false → IsRefusedAlone strict bytes ReverseMismatch
alone_mismatched strict bytes found is is_strict differs =
    inl (
      record {
        is_strict = is_strict;
        reverse =
            subst (λ (agrees : Bool). HasReverse bytes agrees) differs (reverse_of_record bytes found is);
      },
      refl,
    )

-- but none if nothing is said of it, or that it agrees
pub alone_agreed : (strict : Bool) (bytes : List ℕ) (kind : FaultKind) (agrees : Bool) → HasReverse bytes agrees
    → agrees ≢ false → IsRefused bytes kind → IsRefusedAlone strict bytes kind
alone_agreed strict bytes kind agrees has other refused =
    inr ((λ m. other (reverse_one bytes agrees false has m.reverse)), refused)

pub alone_unsaid : (strict : Bool) (bytes : List ℕ) (kind : FaultKind) → IsRefusedBeforeTime bytes
    → IsRefused bytes kind → IsRefusedAlone strict bytes kind
alone_unsaid strict bytes kind before refused = inr ((λ m. reverse_not_refused bytes false m.reverse before), refused)

-- a record whose reverse constant agrees if reading is strict
pub not_mismatched : (strict : Bool) (bytes : List ℕ) (found : Record) → IsRecordOf bytes found
    → Agrees strict found → Mismatches strict bytes → ⊥
not_mismatched strict bytes found is agrees m =
    let one = reverse_one bytes false found.reverse_agrees m.reverse (reverse_of_record bytes found is) in
    let yes = agrees m.is_strict in
    cc

pub not_alone : (strict : Bool) (bytes : List ℕ) (found : Record) (kind : FaultKind) → IsRecordOf bytes found
    → Agrees strict found → IsRefusedAlone strict bytes kind → ⊥
not_alone strict bytes found kind is agrees (inl m) = not_mismatched strict bytes found is agrees m.0
not_alone strict bytes found kind is agrees (inr r) = not_refused bytes found kind is r.1

-- a record has one fault by itself
pub one_alone : (strict : Bool) (bytes : List ℕ) (kind other : FaultKind) → IsRefusedAlone strict bytes kind
    → IsRefusedAlone strict bytes other → kind ≡ other
one_alone strict bytes kind other (inl m) (inl n) = m.1 ∙ sym n.1
one_alone strict bytes kind other (inl m) (inr r) = absurd (r.0 m.0)
one_alone strict bytes kind other (inr r) (inl m) = absurd (r.0 m.0)
one_alone strict bytes kind other (inr r) (inr s) = one_fault bytes kind other r.1 s.1

-- bytes that begin with the same record have the same fault
mismatches_same : (strict : Bool) (xs ys : List ℕ) → SameRecord xs ys → Mismatches strict xs → Mismatches strict ys
mismatches_same strict xs ys s m = record { is_strict = m.is_strict; reverse = reverse_same xs ys false s m.reverse }

pub alone_same : (strict : Bool) (xs ys : List ℕ) (kind : FaultKind) → SameRecord xs ys
    → IsRefusedAlone strict xs kind → IsRefusedAlone strict ys kind
alone_same strict xs ys kind s (inl m) = inl (mismatches_same strict xs ys s m.0, m.1)
alone_same strict xs ys kind s (inr r) =
    inr ((λ m. r.0 (mismatches_same strict ys xs (turned xs ys s) m)), refused_same xs ys kind s r.1)
