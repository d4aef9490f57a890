-- The tests of the fields that samples need, in turn.
use Rattle.std.proofs.Common.{◌≡◌, ◌≢◌, ℕ, ◌↔◌, true, false, not, ℤ, pos, refl, sym, arith, Option, Some, None}
use Rattle.std.specs.Ordering.{int_eq}
use Rattle.std.proofs.lemmas.Bool.{and_from, and_parts}
use Rattle.std.proofs.lemmas.Bool.Decides.{Decides-int_eq}
use Rattle.msr_header.specs.declared.header.Header.{Header}
use Rattle.msr_rows.specs.Records.{kind_of_code}
use Rattle.msr_rows.specs.Records.{has_rate, has_area, field_faults}
use Rattle.msr_base.specs.Faults.{first_fault}
use Rattle.msr_base.specs.Kinds.{code_of}
use Rattle.msr_base.specs.declared.kinds.Kind.{Kind}
use Rattle.msr_base.specs.declared.kinds.Kind.TheVariants.{Int16, Int24, Int32, Steim1, Steim2}
use Rattle.msr_rows.specs.declared.fault.FaultKind.TheVariants.{NoRate, OtherEncoding, BadDataOffset}

-- the test of a number against 0
pub not_zero : (z : ℤ) → z ≢ pos 0 → not (int_eq z (pos 0)) ≡ true
not_zero z h = grind (arith, Decides-int_eq z (pos 0))

pub has_rate_true : (h : Header) → (h.factor ≢ pos 0) × (h.multiplier ≢ pos 0) → has_rate h ≡ true
has_rate_true h p = and_from _ _ (not_zero _ p.0) (not_zero _ p.1)

zero_of : (z : ℤ) → not (int_eq z (pos 0)) ≡ true → z ≢ pos 0
zero_of z e = grind (arith, Decides-int_eq z (pos 0))

pub has_rate_parts : (h : Header) → has_rate h ≡ true → (h.factor ≢ pos 0) × (h.multiplier ≢ pos 0)
has_rate_parts h e = let p = and_parts _ _ e in (zero_of _ p.0, zero_of _ p.1)

pub has_rate_false : (h : Header) → ((h.factor ≢ pos 0) × (h.multiplier ≢ pos 0) → ⊥) → has_rate h ≡ false
has_rate_false h refuted = elim (has_rate h) as
    (λ b. (b ≡ true → (h.factor ≢ pos 0) × (h.multiplier ≢ pos 0)) → b ≡ false) [
      | true ↦ λ parts. absurd (refuted (parts refl))
      | false ↦ λ parts. refl
    ] (has_rate_parts h)

pub no_rate : (h : Header) → has_rate h ≡ false → first_fault (field_faults h) ≡ Some NoRate
unfolding field_faults
no_rate h e = rw e refl

pub other_encoding : (h : Header) → has_rate h ≡ true → kind_of_code h.encoding ≡ None
    → first_fault (field_faults h) ≡ Some (OtherEncoding h.encoding)
unfolding field_faults
other_encoding h r k = rw (r, k) refl

pub bad_data_offset : (h : Header) (kind : Kind) → has_rate h ≡ true → kind_of_code h.encoding ≡ Some kind
    → has_area h ≡ false → first_fault (field_faults h) ≡ Some BadDataOffset
unfolding field_faults
bad_data_offset h kind r k a = rw (r, k, a) refl

pub fields_pass : (h : Header) (kind : Kind) → has_rate h ≡ true → kind_of_code h.encoding ≡ Some kind
    → has_area h ≡ true → first_fault (field_faults h) ≡ None
unfolding field_faults
fields_pass h kind r k a = rw (r, k, a) refl

-- the kind of an encoding is the one that has it
pub kind_is_of_code : (code : ℕ) (found : Option Kind)
    → ((kind : Kind) → (found ≡ Some kind ↔ code_of kind ≡ code)) → found ≡ kind_of_code code
kind_is_of_code code (Some Int16) h = let e = (h Int16).0 refl in rw (← e) refl
kind_is_of_code code (Some Int24) h = let e = (h Int24).0 refl in rw (← e) refl
kind_is_of_code code (Some Int32) h = let e = (h Int32).0 refl in rw (← e) refl
kind_is_of_code code (Some Steim1) h = let e = (h Steim1).0 refl in rw (← e) refl
kind_is_of_code code (Some Steim2) h = let e = (h Steim2).0 refl in rw (← e) refl
kind_is_of_code code None h =
    let a : code ≢ 1 = λ e. (let s : ◌≡◌ {A = Option Kind} None (Some Int16) = (h Int16).1 (sym e) in cc) in
    let f : code ≢ 2 = λ e. (let s : ◌≡◌ {A = Option Kind} None (Some Int24) = (h Int24).1 (sym e) in cc) in
    let b : code ≢ 3 = λ e. (let s : ◌≡◌ {A = Option Kind} None (Some Int32) = (h Int32).1 (sym e) in cc) in
    let c : code ≢ 10 = λ e. (let s : ◌≡◌ {A = Option Kind} None (Some Steim1) = (h Steim1).1 (sym e) in cc) in
    let d : code ≢ 11 = λ e. (let s : ◌≡◌ {A = Option Kind} None (Some Steim2) = (h Steim2).1 (sym e) in cc) in
    grind (arith, a, b, c, d, f)
