-- How the answers of the parts make a row or a refusal.
use Rattle.std.proofs.Common.{◌≡◌, ◌≢◌, ℕ, ◌≤◌, ◌^◌, Bool, true, false, ℤ, List, [], ◌∷◌, length, refl, sym, ap, ◌∙◌, arith, Some, None, Ok}
use Rattle.std.specs.Prelude.{◌&&◌, nat_le, is_some, IsTrue, ◌↔◌}
use Rattle.std.proofs.lemmas.Bool.{both_ways, leb-true}
use Rattle.std.proofs.Math.Pow.{pow_mono}
use Rattle.msr_time.specs.SampleRate.{SampleRate}
use Rattle.msr_header.specs.Reading.{header_of}
use Rattle.msr_header.specs.declared.header.Header.{Header}
use Rattle.msr_rows.specs.Records.{kind_of_code}
use Rattle.msr_rows.specs.Correction.{key_of, start_of}
use Rattle.msr_base.specs.Storage.{storage_of}
use Rattle.msr_rows.specs.Area.{Carries, ReverseAgreesIfAny}
use Rattle.msr_rows.specs.Records.{has_rate, has_area, field_faults, data_area, HasSamples, HasArea, IsOutOfTime, AgreesAtEnd, IsInTime, IsRefused}
use Rattle.msr_base.specs.Faults.{first_fault, unless}
use Rattle.msr_base.specs.declared.kinds.Kind.{Kind}
use Rattle.msr_rows.specs.declared.row.Key.{Key}
use Rattle.msr_rows.specs.declared.row.Row.{Row}
use Rattle.msr_rows.proofs.HeaderFacts.{one_header}
use Rattle.msr_rows.specs.declared.fault.FaultKind.{FaultKind}
use Rattle.msr_rows.specs.declared.fault.FaultKind.TheVariants.{NoRate, OtherEncoding, BadDataOffset, TimeRange}

pub has_area_from : (bytes : List ℕ) (h : Header) (kind : Kind) → header_of bytes ≡ Ok h → (h.samples ≡ 0 → ⊥)
    → first_fault (field_faults h) ≡ None → kind_of_code h.encoding ≡ Some kind → HasArea bytes h kind
has_area_from bytes h kind read some fields code =
    record { has_samples = record { read = read; some = omega (arith, some) }; fields = fields; kind_is = code }

-- the test of the reverse constant, for the record that the bytes begin with
pub agrees_from : (bytes : List ℕ) (h : Header) (row : Row) (b : Bool) → header_of bytes ≡ Ok h
    → (IsTrue b ↔ ReverseAgreesIfAny (storage_of row.kind) h.data_order (data_area h bytes) row.samples)
    → (IsTrue b ↔ AgreesAtEnd bytes row)
agrees_from bytes h row b read test = (
  λ t. record { header = h; read = read; reverse = test.0 t },
  λ a. test.1 (let same = one_header bytes a.header h a.read read in rw same at a.reverse),
)

same_rate : (f f' m m' : ℤ) → f ≡ f' → m ≡ m'
    → ◌≡◌ {A = SampleRate} (record { factor = f; multiplier = m }) (record { factor = f'; multiplier = m' })
same_rate f f' m m' e d = rw (e, d) refl

-- the rate that was read is that of the key
pub key_rate : (h : Header) (rate : SampleRate) (key : Key) → rate.factor ≡ h.factor
    → rate.multiplier ≡ h.multiplier → key ≡ key_of h → key.rate ≡ rate
key_rate h rate key f m k = ap (λ (k : Key). k.rate) k ∙ sym (same_rate _ _ _ _ f m)

-- the faults that fields can have
abbrev IsFieldFault : FaultKind → Type 0
IsFieldFault NoRate = Unit {0}
IsFieldFault (OtherEncoding code) = Unit {0}
IsFieldFault BadDataOffset = Unit {0}
IsFieldFault _ = ⊥

field_fault : (a b c : Bool) (code : ℕ) (fault : FaultKind)
    → first_fault (unless a NoRate ∷ unless b (OtherEncoding code) ∷ unless c BadDataOffset ∷ []) ≡ Some fault
    → IsFieldFault fault
field_fault false b c code fault e = let same : NoRate ≡ fault = cc in rw (← same) tt
field_fault true false c code fault e = let same : OtherEncoding code ≡ fault = cc in rw (← same) tt
field_fault true true false code fault e = let same : BadDataOffset ≡ fault = cc in rw (← same) tt
field_fault true true true code fault e = cc

is_field_fault : (h : Header) (fault : FaultKind) → first_fault (field_faults h) ≡ Some fault → IsFieldFault fault
unfolding field_faults
is_field_fault h fault e = field_fault (has_rate h) (is_some (kind_of_code h.encoding)) (has_area h) h.encoding fault e

pub not_of_time : (h : Header) (fault : FaultKind) → first_fault (field_faults h) ≡ Some fault → fault ≢ TimeRange
not_of_time h fault e same = rw same at (is_field_fault h fault e)

pub fields_refused : (bytes : List ℕ) (h : Header) (fault : FaultKind) → HasSamples bytes h
    → first_fault (field_faults h) ≡ Some fault → IsRefused bytes fault
fields_refused bytes h NoRate s e = record { header = h; has_samples = s; first = e }
fields_refused bytes h (OtherEncoding code) s e = record { header = h; has_samples = s; first = e }
fields_refused bytes h BadDataOffset s e = record { header = h; has_samples = s; first = e }
fields_refused bytes h _ s e = absurd (is_field_fault h _ e)

-- the test of the time, for the row
pub in_time_of : (h : Header) (rate : SampleRate) (key : Key) (start : ℤ) (count : ℕ) (b : Bool)
    → rate.factor ≡ h.factor → rate.multiplier ≡ h.multiplier → key ≡ key_of h → count ≡ h.samples
    → (IsTrue b ↔ IsInTime rate start h.samples) → b ≡ true → IsInTime key.rate start count
in_time_of h rate key start count b f m k e test true_is = rw (key_rate h rate key f m k, e) (test.0 true_is)

pub out_of_time : (h : Header) (rate : SampleRate) (key : Key) (start : ℤ) (count : ℕ) (b : Bool)
    → rate.factor ≡ h.factor → rate.multiplier ≡ h.multiplier → key ≡ key_of h → count ≡ h.samples
    → (IsTrue b ↔ IsInTime rate start h.samples) → b ≡ false → IsInTime key.rate start count → ⊥
out_of_time h rate key start count b f m k e test false_is = λ t.
    let back = rw (key_rate h rate key f m k, e) at t in
    both_ways b false_is (test.1 back)

-- a record has at most 2 ^ 20 bytes
pub pow_most : {e : ℕ} → e ≤ 20 → 2 ^ e ≤ 1048576
pow_most {e} h = pow_mono h

second_true : (a b : Bool) → (a && b) ≡ true → b ≡ true
second_true true b e = e
second_true false b e = cc

-- if the fields have no fault, the data area begins within the record
pub begins_within : (h : Header) → has_area h ≡ true → h.data_at ≤ 2 ^ h.exponent
begins_within h e = leb-true h.data_at (2 ^ h.exponent)
    (second_true (nat_le h.chain_end h.data_at) (nat_le h.data_at (2 ^ h.exponent)) e)

-- a record whose area carries its samples, and whose time is not in range
pub out_of_range : (bytes : List ℕ) (h : Header) (kind : Kind) (samples : List ℤ) → HasArea bytes h kind
    → length samples ≡ h.samples → Carries (storage_of kind) h.data_order (data_area h bytes) samples
    → (IsInTime (key_of h).rate (start_of h) h.samples → ⊥) → IsOutOfTime bytes
out_of_range bytes h kind samples area count carried out = record {
  the_row = record { key = key_of h; start = start_of h; kind = kind; samples = samples };
  is_row = record { header = h; has_area = area; key_is = refl; start_is = refl; count = count; carried = carried };
  out = λ t. out (rw count at t);
}
