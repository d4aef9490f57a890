-- Which bytes decide what a record is read as: its own, and so the first 2^20.
use Rattle.std.proofs.Common.{◌≡◌, ◌≢◌, ℕ, ◌+◌, ◌-◌, ◌^◌, ◌≤◌, inl, inr, Bool, List, length, take, drop, refl, sym, ap, ◌∙◌, arith, Option, Some, None, Ok, Err, Result, IfErr}
use Rattle.std.specs.Prelude.{◌↔◌, IsTrue, IfNone, IfSome, slice_range}
use Rattle.std.proofs.lemmas.Bool.{cases_lt}
use Rattle.std.proofs.lemmas.List.{drop-take, take-take}
use Rattle.msr_header.specs.Reading.{header_of}
use Rattle.msr_header.specs.declared.header.Header.{Header}
use Rattle.msr_rows.specs.Records.{data_area, first_bytes, HasSamples, HasArea, IsRowOf, AgreesAtEnd, FieldsAreRefused, AreaIsRefused, IsRefused, IsRecordOf, HasReverse}
use Rattle.msr_base.specs.declared.kinds.Kind.{Kind}
use Rattle.msr_rows.specs.declared.row.Row.{Row}
use Rattle.msr_rows.specs.declared.row.Record.{Record}
use Rattle.msr_rows.specs.declared.fault.FaultKind.{FaultKind}
use Rattle.msr_rows.specs.declared.fault.FaultKind.TheVariants.{Header as HeaderRefused, NoRate, OtherEncoding, BadDataOffset, DataShort, BadCode, TimeRange, ReverseMismatch, Memory}
use Rattle.msr_header.proofs.FoundLemmas.{header_sound}
use Rattle.msr_header.proofs.ShownLemmas.{header_decided}
use Rattle.msr_rows.proofs.HeaderFacts.{one_header}
use Rattle.msr_rows.proofs.RowLemmas.{pow_most}

-- a part of the first bytes
part_of_first : (xs : List ℕ) (n a b : ℕ) → b ≤ n → slice_range (take n xs) a b ≡ slice_range xs a b
part_of_first xs n a b h = elim (cases_lt b a) as (λ s. slice_range (take n xs) a b ≡ slice_range xs a b) [
  | inl lt ↦ (let none : b - a ≡ 0 = omega (arith, lt) in rw none refl)
  | inr le ↦ (
      let whole : n ≡ a + (n - a) = omega (arith, le, h) in
      let behind : drop a (take n xs) ≡ take (n - a) (drop a xs) = ap (λ (m : ℕ). drop a (take m xs)) whole
      ∙ drop-take a (n - a) xs in
      ap (λ (l : List ℕ). take (b - a) l) behind ∙ take-take (b - a) (n - a) (drop a xs) (omega (arith, h)))
]

-- two inputs of one header with one data area are read as one
pub record SameRecord (xs ys : List ℕ) : Type 0 where
  pub header : header_of ys ≡ header_of xs
  pub area : (h : Header) → header_of xs ≡ Ok h → data_area h ys ≡ data_area h xs

pub first_same : (bytes : List ℕ) → header_of (take 1_048_576 bytes) ≡ header_of bytes
    → SameRecord bytes (first_bytes bytes)
unfolding first_bytes
first_same bytes e = record {
  header = e;
  area = λ h read. part_of_first bytes 1_048_576 h.data_at (2 ^ h.exponent) (pow_most (header_sound bytes h read).high);
}

-- a record's own bytes decide what it is read as, whatever stands after them
pub own_same : (xs ys : List ℕ) (h : Header) → header_of xs ≡ Ok h
    → take (2 ^ h.exponent) ys ≡ take (2 ^ h.exponent) xs → SameRecord xs ys
own_same xs ys h read e =
    let n = 2 ^ h.exponent in record {
      header = header_decided n xs ys h read (omega arith) (sym e) ∙ sym read;
      area = λ g other.
          let same = one_header xs h g read other in
          rw (← same) (sym (part_of_first ys n h.data_at n (omega arith))
          ∙ ap (λ (l : List ℕ). slice_range l h.data_at n) e ∙ part_of_first xs n h.data_at n (omega arith));
    }

samples_same : (xs ys : List ℕ) (h : Header) → SameRecord xs ys → HasSamples xs h → HasSamples ys h
samples_same xs ys h s p = record { read = s.header ∙ p.read; some = p.some }

area_same : (xs ys : List ℕ) (h : Header) (kind : Kind) → SameRecord xs ys → HasArea xs h kind → HasArea ys h kind
area_same xs ys h kind s p = record {
  has_samples = samples_same xs ys h s p.has_samples;
  fields = p.fields;
  kind_is = p.kind_is;
}

pub row_same : (xs ys : List ℕ) (row : Row) → SameRecord xs ys → IsRowOf xs row → IsRowOf ys row
row_same xs ys row s p = record {
  header = p.header;
  has_area = area_same xs ys p.header row.kind s p.has_area;
  key_is = p.key_is;
  start_is = p.start_is;
  count = p.count;
  carried = rw (s.area p.header p.has_area.has_samples.read) p.carried;
}

fields_same : (xs ys : List ℕ) (fault : FaultKind) → SameRecord xs ys → FieldsAreRefused xs fault
    → FieldsAreRefused ys fault
fields_same xs ys fault s p = record {
  header = p.header;
  has_samples = samples_same xs ys p.header s p.has_samples;
  first = p.first;
}

fault_same : (xs ys : List ℕ) (fault : FaultKind) → SameRecord xs ys → AreaIsRefused xs fault → AreaIsRefused ys fault
fault_same xs ys fault s p = record {
  header = p.header;
  kind = p.kind;
  has_area = area_same xs ys p.header p.kind s p.has_area;
  first = rw (s.area p.header p.has_area.has_samples.read) p.first;
}

pub refused_same : (xs ys : List ℕ) (fault : FaultKind) → SameRecord xs ys → IsRefused xs fault → IsRefused ys fault
refused_same xs ys (HeaderRefused reason) s p = s.header ∙ p
refused_same xs ys NoRate s p = fields_same xs ys NoRate s p
refused_same xs ys (OtherEncoding code) s p = fields_same xs ys (OtherEncoding code) s p
refused_same xs ys BadDataOffset s p = fields_same xs ys BadDataOffset s p
refused_same xs ys DataShort s p = fault_same xs ys DataShort s p
refused_same xs ys (BadCode word) s p = fault_same xs ys (BadCode word) s p
refused_same xs ys TimeRange s p = record {
  the_row = p.the_row;
  is_row = row_same xs ys p.the_row s p.is_row;
  out = p.out;
}
refused_same xs ys ReverseMismatch s p = p
refused_same xs ys Memory s p = p

-- the other way
pub turned : (xs ys : List ℕ) → SameRecord xs ys → SameRecord ys xs
turned xs ys s = record { header = sym s.header; area = λ h read. sym (s.area h (sym s.header ∙ read)) }

agrees_same : (xs ys : List ℕ) (row : Row) → SameRecord xs ys → AgreesAtEnd xs row → AgreesAtEnd ys row
agrees_same xs ys row s p = record {
  header = p.header;
  read = s.header ∙ p.read;
  reverse = rw (s.area p.header p.read) p.reverse;
}

same_parts : (xs ys : List ℕ) (length : ℕ) (row : Option Row) (agrees : Bool) → SameRecord xs ys
    → IsRecordOf xs (record { length = length; row = row; reverse_agrees = agrees })
    → IsRecordOf ys (record { length = length; row = row; reverse_agrees = agrees })
same_parts xs ys length None agrees s p = record {
  header = p.header;
  read = s.header ∙ p.read;
  length_is = p.length_is;
  empty = p.empty;
  row = tt;
  in_time = tt;
  agrees = tt;
  no_reverse = p.no_reverse;
}
same_parts xs ys length (Some row) agrees s p = record {
  header = p.header;
  read = s.header ∙ p.read;
  length_is = p.length_is;
  empty = tt;
  row = row_same xs ys row s p.row;
  in_time = p.in_time;
  agrees = (λ t. agrees_same xs ys row s (p.agrees.0 t), λ a. p.agrees.1 (agrees_same ys xs row (turned xs ys s) a));
  no_reverse = tt;
}

pub record_same : (xs ys : List ℕ) (found : Record) → SameRecord xs ys → IsRecordOf xs found → IsRecordOf ys found
record_same xs ys found s p = same_parts xs ys found.length found.row found.reverse_agrees s p

-- and what they say of the reverse constant
reverse_parts : (xs ys : List ℕ) (h : Header) (row : Option Row) (agrees : Bool) → SameRecord xs ys
    → header_of xs ≡ Ok h → IfNone row ((h.samples ≡ 0) × IsTrue agrees) → IfSome row (IsRowOf xs)
    → IfSome row (λ row. IsTrue agrees ↔ AgreesAtEnd xs row) → HasReverse ys agrees
reverse_parts xs ys h None agrees s read empty is_row at_end =
    record { header = h; read = s.header ∙ read; row = None; empty = empty; is_row = tt; agrees_at_end = tt }
reverse_parts xs ys h (Some row) agrees s read empty is_row at_end = record {
  header = h;
  read = s.header ∙ read;
  row = Some row;
  empty = tt;
  is_row = row_same xs ys row s is_row;
  agrees_at_end = (λ t. agrees_same xs ys row s (at_end.0 t), λ a. at_end.1 (agrees_same ys xs row (turned xs ys s) a));
}

pub reverse_same : (xs ys : List ℕ) (agrees : Bool) → SameRecord xs ys → HasReverse xs agrees → HasReverse ys agrees
reverse_same xs ys agrees s p = reverse_parts xs ys p.header p.row agrees s p.read p.empty p.is_row p.agrees_at_end

pub refusal_same : {T : Type 0} → (r : Result T FaultKind) (xs ys : List ℕ) → SameRecord xs ys
    → IfErr r (λ fault. fault ≢ Memory → IsRefused xs fault) → IfErr r (λ fault. fault ≢ Memory → IsRefused ys fault)
refusal_same (Ok x) xs ys s h = h
refusal_same (Err fault) xs ys s h = λ other. refused_same xs ys fault s (h other)

-- the bytes of a record decide its record, its row and a refusal after the header
pub own_record : (bytes others : List ℕ) (found : Record) → IsRecordOf bytes found
    → take found.length others ≡ take found.length bytes → IsRecordOf others found
own_record bytes others found p e =
    record_same bytes others found (own_same bytes others p.header p.read (rw p.length_is at e)) p

pub own_row : (bytes others : List ℕ) (row : Row) → (p : IsRowOf bytes row)
    → take (2 ^ p.header.exponent) others ≡ take (2 ^ p.header.exponent) bytes → IsRowOf others row
own_row bytes others row p e = row_same bytes others row
    (own_same bytes others p.header p.has_area.has_samples.read e) p

pub own_refusal : (bytes others : List ℕ) (h : Header) (fault : FaultKind) → header_of bytes ≡ Ok h
    → take (2 ^ h.exponent) others ≡ take (2 ^ h.exponent) bytes → IsRefused bytes fault → IsRefused others fault
own_refusal bytes others h fault read e p = refused_same bytes others fault (own_same bytes others h read e) p
