-- The record that bytes begin with: its row of samples, or why it is refused.
use Rattle.std.specs.Prelude.{◌≡◌, ◌≢◌, ◌↔◌, ℕ, ◌-◌, ◌^◌, ◌≤◌, ◌==◌, if◌then◌else◌, Bool, not, ◌&&◌, nat_le, ℤ, pos, List, [], ◌∷◌, length, take, slice_range, Option, Some, None, Ok, Err, is_some, IsTrue, IfNone, IfSome}
use Rattle.std.specs.Ordering.{int_eq}
use Rattle.msr_time.specs.Instant.{IsInstant, IsTime}
use Rattle.msr_time.specs.SampleRate.{SampleRate, IsRoundedNominal}
use Rattle.msr_base.specs.Faults.{first_fault, unless}
use Rattle.msr_header.specs.Reading.{header_of}
use Rattle.msr_header.specs.declared.header.Header.{Header}
use Rattle.msr_rows.specs.Correction.{key_of, start_of}
use Rattle.msr_rows.specs.Area.{Carries, AreaHasFault, ReverseAgreesIfAny}
use Rattle.msr_base.specs.declared.kinds.Kind.{Kind}
use Rattle.msr_base.specs.declared.kinds.Kind.TheVariants.{Int16, Int24, Int32, Steim1, Steim2}
use Rattle.msr_base.specs.Storage.{storage_of}
use Rattle.msr_rows.specs.declared.reading.Opened.{Opened}
use Rattle.msr_rows.specs.declared.row.Row.{Row}
use Rattle.msr_rows.specs.declared.row.Record.{Record}
use Rattle.msr_rows.specs.declared.fault.FaultKind.{FaultKind}
use Rattle.msr_rows.specs.declared.fault.FaultKind.TheVariants.{Header as HeaderRefused, NoRate, OtherEncoding, BadDataOffset, DataShort, BadCode, TimeRange, ReverseMismatch, Memory}

-- the kind of an encoding: 1, 2 and 3 are integers of 16, 24 and 32 bits, 10 and 11 the two Steim compressions
-- (SEED 2.4, blockette 1000, encoding format)
abbrev pub kind_of_code : ℕ → Option Kind
kind_of_code code =
    if code == 1 then Some Int16 else if code == 2 then Some Int24 else if code == 3 then Some Int32
    else if code == 10 then Some Steim1 else if code == 11 then Some Steim2 else None

-- neither part of the sample rate is 0
abbrev pub has_rate : Header → Bool
has_rate h = not (int_eq h.factor (pos 0)) && not (int_eq h.multiplier (pos 0))

-- the data area begins after the blockettes and within the record
abbrev pub has_area : Header → Bool
has_area h = nat_le h.chain_end h.data_at && nat_le h.data_at (2 ^ h.exponent)

-- the faults of the fields that samples need, in their order, each if its test fails
unfoldable pub field_faults : Header → List (Option FaultKind)
field_faults h =
    unless (has_rate h) NoRate
    ∷ unless (is_some (kind_of_code h.encoding)) (OtherEncoding h.encoding)
    ∷ unless (has_area h) BadDataOffset
    ∷ []

-- the data area: from the beginning of data to the record's end
abbrev pub data_area : Header → List ℕ → List ℕ
data_area h bytes = slice_range bytes h.data_at (2 ^ h.exponent)

-- the bytes that a reader looks at: as many as the longest record that is read has
unfoldable pub first_bytes : List ℕ → List ℕ
first_bytes bytes = take 1_048_576 bytes

-- the bytes begin with a record of this header that has samples
pub record HasSamples (bytes : List ℕ) (header : Header) : Type 0 where
  pub read : header_of bytes ≡ Ok header
  pub some : 1 ≤ header.samples

-- the bytes begin with a record of this header that has samples, and the fields that these need have no fault
pub record HasArea (bytes : List ℕ) (header : Header) (kind : Kind) : Type 0 where
  pub has_samples : HasSamples bytes header
  pub fields : first_fault (field_faults header) ≡ None
  pub kind_is : kind_of_code header.encoding ≡ Some kind

-- memory is taken for samples: no field that they need has a fault
pub record TakesMemory (bytes : List ℕ) : Type 0 where
  pub header : Header
  pub kind : Kind
  pub has_area : HasArea bytes header kind

-- The row of a record: key, instant, kind and samples are those of its fields and of its data area.
pub record IsRowOf (bytes : List ℕ) (row : Row) : Type 0 where
  pub header : Header
  pub has_area : HasArea bytes header row.kind
  pub key_is : row.key ≡ key_of header
  pub start_is : row.start ≡ start_of header
  pub count : length row.samples ≡ header.samples
  pub carried : Carries (storage_of row.kind) header.data_order (data_area header bytes) row.samples

-- the instant of the row's first sample, and the rounded one of its last, counted from the first, are of
-- the supported years
pub record IsInTime (rate : SampleRate) (start : ℤ) (count : ℕ) : Type 0 where
  pub last : ℤ
  pub nominal : IsRoundedNominal rate start (count - 1) last
  pub first_in : IsInstant start
  pub last_in : IsInstant last

abbrev pub RowIsInTime : Row → Type 0
RowIsInTime row = IsInTime row.key.rate row.start (length row.samples)

-- the fields that samples need have this first fault
pub record FieldsAreRefused (bytes : List ℕ) (fault : FaultKind) : Type 0 where
  pub header : Header
  pub has_samples : HasSamples bytes header
  pub first : first_fault (field_faults header) ≡ Some fault

-- the fields that samples need have no fault, and the data area has this one
pub record AreaIsRefused (bytes : List ℕ) (fault : FaultKind) : Type 0 where
  pub header : Header
  pub kind : Kind
  pub has_area : HasArea bytes header kind
  pub first : AreaHasFault (storage_of kind) header.data_order (data_area header bytes) header.samples fault

-- the record has a row, and its first or last sample is not of the supported years
pub record IsOutOfTime (bytes : List ℕ) : Type 0 where
  pub the_row : Row
  pub is_row : IsRowOf bytes the_row
  pub out : RowIsInTime the_row → ⊥

-- The record that the bytes begin with is refused so, by itself. Each needs that those before it do not
-- apply: first the header's, then those of the fields that samples need, then those of the data area, then
-- the time's. A reverse constant that does not agree refuses no record by itself, and running out of memory is
-- no fault of the bytes.
abbrev pub IsRefused : List ℕ → FaultKind → Type 0
IsRefused bytes (HeaderRefused fault) = header_of bytes ≡ Err fault
IsRefused bytes NoRate = FieldsAreRefused bytes NoRate
IsRefused bytes (OtherEncoding code) = FieldsAreRefused bytes (OtherEncoding code)
IsRefused bytes BadDataOffset = FieldsAreRefused bytes BadDataOffset
IsRefused bytes DataShort = AreaIsRefused bytes DataShort
IsRefused bytes (BadCode word) = AreaIsRefused bytes (BadCode word)
IsRefused bytes TimeRange = IsOutOfTime bytes
IsRefused bytes ReverseMismatch = ⊥
IsRefused bytes Memory = ⊥

-- the last sample is the reverse constant of the record that the bytes begin with, if it has one
pub record AgreesAtEnd (bytes : List ℕ) (row : Row) : Type 0 where
  pub header : Header
  pub read : header_of bytes ≡ Ok header
  pub reverse : ReverseAgreesIfAny (storage_of row.kind) header.data_order (data_area header bytes) row.samples

-- the bytes begin with a record without a fault: its length, its row, and whether the reverse constant agrees
pub record IsRecordOf (bytes : List ℕ) (found : Record) : Type 0 where
  pub header : Header
  pub read : header_of bytes ≡ Ok header
  pub length_is : found.length ≡ 2 ^ header.exponent
  pub empty : IfNone found.row (header.samples ≡ 0)
  pub row : IfSome found.row (IsRowOf bytes)
  pub in_time : IfSome found.row RowIsInTime
  pub agrees : IfSome found.row (λ row. IsTrue found.reverse_agrees ↔ AgreesAtEnd bytes row)
  pub no_reverse : IfNone found.row (IsTrue found.reverse_agrees)

-- No fault but that of its time refuses the record that the bytes begin with, and this says whether its reverse
-- constant agrees; a record without samples has none, and agrees.
pub record HasReverse (bytes : List ℕ) (agrees : Bool) : Type 0 where
  pub header : Header
  pub read : header_of bytes ≡ Ok header
  pub row : Option Row
  pub empty : IfNone row ((header.samples ≡ 0) × IsTrue agrees)
  pub is_row : IfSome row (IsRowOf bytes)
  pub agrees_at_end : IfSome row (λ row. IsTrue agrees ↔ AgreesAtEnd bytes row)

-- a fault refuses it that comes before that of its time
pub record IsRefusedBeforeTime (bytes : List ℕ) : Type 0 where
  pub fault : FaultKind
  pub refused : IsRefused bytes fault
  pub before : fault ≢ TimeRange

-- the rate and the kind are those of the record of this header, which has samples
pub record AreRateAndKind (bytes : List ℕ) (header : Header) (fields : SampleRate × Kind) : Type 0 where
  pub has_area : HasArea bytes header fields.1
  pub begins : header.data_at ≤ 2 ^ header.exponent
  pub factor : fields.0.factor ≡ header.factor
  pub multiplier : fields.0.multiplier ≡ header.multiplier

-- the bytes begin with a record of this header, whose fields have no fault
pub record IsOpened (bytes : List ℕ) (opened : Opened) : Type 0 where
  pub read : header_of bytes ≡ Ok opened.header
  pub length_is : opened.length ≡ 2 ^ opened.header.exponent
  pub time : IsTime opened.header.time
  pub within : opened.length ≤ length bytes
  pub small : opened.length ≤ 1_048_576
  pub empty : IfNone opened.fields (opened.header.samples ≡ 0)
  pub fields_are : IfSome opened.fields (AreRateAndKind bytes opened.header)
