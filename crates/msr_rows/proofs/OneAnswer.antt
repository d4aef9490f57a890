-- Bytes begin with a record of one row, or are refused with one fault, and never both.
use Rattle.std.proofs.Common.{◌≡◌, ◌≢◌, ℕ, ◌*◌, ◌^◌, ◌<◌, Bool, true, false, ℤ, List, length, refl, sym, ap, ◌∙◌, arith, Option, Some, None, Ok, Err}
use Rattle.std.specs.Prelude.{◌↔◌, IsTrue, IfNone, IfSome}
use Rattle.msr_header.specs.Reading.{header_of}
use Rattle.msr_header.specs.declared.header.Header.{Header}
use Rattle.msr_base.specs.declared.order.Order.{Order}
use Rattle.msr_header.specs.declared.fault.HeaderFault.{HeaderFault}
use Rattle.msr_base.specs.Storage.{size_of, storage_of}
use Rattle.msr_plain.specs.Plain.{CarriesPlain}
use Rattle.msr_base.specs.declared.storage.Width.{Width}
use Rattle.msr_steim.specs.Area.{CarriesSteim, EndsBefore, IsUndefinedBefore}
use Rattle.msr_base.specs.declared.storage.Version.{Version}
use Rattle.msr_plain.proofs.CarriedLemmas.{carries_one as integers_one}
use Rattle.msr_steim.proofs.OneOutcome.{carries_one, not_short, not_undefined, one_undefined, short_or_undefined}
use Rattle.msr_rows.specs.Records.{kind_of_code, HasReverse, IsRefusedBeforeTime}
use Rattle.msr_rows.specs.Correction.{key_of, start_of}
use Rattle.msr_rows.specs.Area.{Carries, AreaHasFault}
use Rattle.msr_rows.specs.Records.{data_area, HasSamples, HasArea, IsRowOf, RowIsInTime, FieldsAreRefused, AreaIsRefused, IsOutOfTime, IsRefused, IsRecordOf, AgreesAtEnd}
use Rattle.msr_base.specs.declared.kinds.Kind.{Kind}
use Rattle.msr_base.specs.declared.storage.Storage.{Storage}
use Rattle.msr_base.specs.declared.storage.Storage.TheVariants.{Integers, Frames}
use Rattle.msr_rows.specs.declared.row.Key.{Key}
use Rattle.msr_rows.specs.declared.row.Row.{Row}
use Rattle.msr_rows.specs.declared.row.Record.{Record}
use Rattle.msr_rows.specs.declared.fault.FaultKind.{FaultKind}
use Rattle.msr_rows.specs.declared.fault.FaultKind.TheVariants.{Header as HeaderRefused, NoRate, OtherEncoding, BadDataOffset, DataShort, BadCode, TimeRange, ReverseMismatch, Memory}
use Rattle.msr_rows.proofs.HeaderFacts.{one_header, not_both}

samples_one : (storage : Storage) (order : Order) (area : List ℕ) (xs ys : List ℤ) → Carries storage order area xs
    → Carries storage order area ys → length xs ≡ length ys → xs ≡ ys
samples_one (Integers width) = integers_one width
samples_one (Frames version) = carries_one version

-- the faults of an area, in two cases
data FrameFault (version : Version) (order : Order) (area : List ℕ) (count : ℕ) (fault : FaultKind) : Type 0 where
  short : fault ≡ DataShort → EndsBefore version order area count → FrameFault version order area count fault
  undefined : (word : ℕ) → fault ≡ BadCode word → IsUndefinedBefore version order area count word
      → FrameFault version order area count fault

frame_fault : (version : Version) (order : Order) (area : List ℕ) (count : ℕ) (fault : FaultKind)
    → AreaHasFault (Frames version) order area count fault → FrameFault version order area count fault
frame_fault version order area count DataShort h = short refl h
frame_fault version order area count (BadCode word) h = undefined word refl h
frame_fault version order area count _ h = absurd h

integer_fault : (width : Width) (order : Order) (area : List ℕ) (count : ℕ) (fault : FaultKind)
    → AreaHasFault (Integers width) order area count fault → (fault ≡ DataShort) × (length area < size_of width * count)
integer_fault width order area count DataShort h = (refl, h)
integer_fault width order area count _ h = absurd h

integers_not : (width : Width) (order : Order) (area : List ℕ) (xs : List ℤ) (fault : FaultKind)
    → CarriesPlain width order area xs → AreaHasFault (Integers width) order area (length xs) fault → ⊥
integers_not width order area xs fault p f =
    let short = (integer_fault width order area (length xs) fault f).1 in
    omega (arith, p.room, short)

frames_not : (version : Version) (order : Order) (area : List ℕ) (xs : List ℤ) (fault : FaultKind)
    → CarriesSteim version order area xs → FrameFault version order area (length xs) fault → ⊥
frames_not version order area xs fault p (short e h) = not_short version order area xs p h
frames_not version order area xs fault p (undefined word e h) = not_undefined version order area xs word p h

-- an area that carries the samples has no fault
area_not : (storage : Storage) (order : Order) (area : List ℕ) (xs : List ℤ) (fault : FaultKind)
    → Carries storage order area xs → AreaHasFault storage order area (length xs) fault → ⊥
area_not (Integers width) order area xs fault p f = integers_not width order area xs fault p f
area_not (Frames version) order area xs fault p f = frames_not version order area xs fault p
    (frame_fault version order area (length xs) fault f)

frames_one : (version : Version) (order : Order) (area : List ℕ) (count : ℕ) (f g : FaultKind)
    → FrameFault version order area count f → FrameFault version order area count g → f ≡ g
frames_one version order area count f g (short e h) (short d k) = e ∙ sym d
frames_one version order area count f g (short e h) (undefined word d k) =
    absurd (short_or_undefined version order area count word h k)
frames_one version order area count f g (undefined word e h) (short d k) =
    absurd (short_or_undefined version order area count word k h)
frames_one version order area count f g (undefined word e h) (undefined word' d k) = e
    ∙ ap (λ (w : ℕ). BadCode w) (one_undefined version order area count word word' h k) ∙ sym d

-- an area has one fault
area_one : (storage : Storage) (order : Order) (area : List ℕ) (count : ℕ) (f g : FaultKind)
    → AreaHasFault storage order area count f → AreaHasFault storage order area count g → f ≡ g
area_one (Integers width) order area count f g p q = (integer_fault width order area count f p).0
    ∙ sym (integer_fault width order area count g q).0
area_one (Frames version) order area count f g p q = frames_one version order area count f g
    (frame_fault version order area count f p) (frame_fault version order area count g q)

pub some_same : {X : Type 0} (o : Option X) (x y : X) → o ≡ Some x → o ≡ Some y → x ≡ y
some_same o x y p q = cc

-- the header and the kind of a record are one
kind_one : (bytes : List ℕ) (g h : Header) (kind kind' : Kind) → HasArea bytes g kind → HasArea bytes h kind'
    → (g ≡ h) × (kind ≡ kind')
kind_one bytes g h kind kind' p q =
    let same = one_header bytes g h p.has_samples.read q.has_samples.read in
    let code = rw same at p.kind_is in
    (same, some_same (kind_of_code h.encoding) kind kind' code q.kind_is)

-- a list that the area of the other header and kind carries
carried_by : (bytes : List ℕ) (g h : Header) (kind kind' : Kind) (xs : List ℤ) → g ≡ h → kind ≡ kind'
    → Carries (storage_of kind) g.data_order (data_area g bytes) xs
    → Carries (storage_of kind') h.data_order (data_area h bytes) xs
carried_by bytes g h kind kind' xs e d p = rw (← e, ← d) p

faulty_by : (bytes : List ℕ) (g h : Header) (kind kind' : Kind) (n : ℕ) (fault : FaultKind) → g ≡ h → kind ≡ kind'
    → g.samples ≡ n → AreaHasFault (storage_of kind) g.data_order (data_area g bytes) g.samples fault
    → AreaHasFault (storage_of kind') h.data_order (data_area h bytes) n fault
faulty_by bytes g h kind kind' n fault e d c p =
    let q = rw c at p in
    rw (← e, ← d) q

-- rows are equal when their fields are
pub rows_equal : (row other : Row) → row.key ≡ other.key → row.start ≡ other.start → row.kind ≡ other.kind
    → row.samples ≡ other.samples → row ≡ other
rows_equal row other k s d x =
    same_row row.key other.key row.start other.start row.kind other.kind row.samples other.samples k s d x
  where
    same_row : (key key' : Key) (start start' : ℤ) (kind kind' : Kind) (samples samples' : List ℤ) → key ≡ key'
        → start ≡ start' → kind ≡ kind' → samples ≡ samples'
        → ◌≡◌ {A = Row} (record { key = key; start = start; kind = kind; samples = samples })
        (record { key = key'; start = start'; kind = kind'; samples = samples' })
    same_row key key' start start' kind kind' samples samples' k s d x = rw (k, s, d, x) refl

pub one_row : (bytes : List ℕ) (row other : Row) → IsRowOf bytes row → IsRowOf bytes other → row ≡ other
one_row bytes row other p q =
    let same = kind_one bytes p.header q.header row.kind other.kind p.has_area q.has_area in
    let count = p.count ∙ ap (λ (h : Header). h.samples) same.0 ∙ sym q.count in
    rows_equal row other (p.key_is ∙ ap (λ (h : Header). key_of h) same.0 ∙ sym q.key_is)
    (p.start_is ∙ ap (λ (h : Header). start_of h) same.0 ∙ sym q.start_is) same.1
    (samples_one (storage_of other.kind) q.header.data_order (data_area q.header bytes) row.samples other.samples
    (carried_by bytes p.header q.header row.kind other.kind row.samples same.0 same.1 p.carried) q.carried count)

-- by which stage a record is refused
data Stage (bytes : List ℕ) (fault : FaultKind) : Type 0 where
  by_header : (reason : HeaderFault) → fault ≡ HeaderRefused reason → header_of bytes ≡ Err reason → Stage bytes fault
  by_fields : FieldsAreRefused bytes fault → Stage bytes fault
  by_area : AreaIsRefused bytes fault → Stage bytes fault
  by_time : fault ≡ TimeRange → IsOutOfTime bytes → Stage bytes fault

stage : (bytes : List ℕ) (fault : FaultKind) → IsRefused bytes fault → Stage bytes fault
stage bytes (HeaderRefused reason) h = by_header reason refl h
stage bytes NoRate h = by_fields h
stage bytes (OtherEncoding code) h = by_fields h
stage bytes BadDataOffset h = by_fields h
stage bytes DataShort h = by_area h
stage bytes (BadCode word) h = by_area h
stage bytes TimeRange h = by_time refl h
stage bytes ReverseMismatch h = absurd h
stage bytes Memory h = absurd h

none_not_some : {X : Type 0} (o : Option X) (x : X) → o ≡ None → o ≡ Some x → ⊥
none_not_some o x p q = cc

-- fields without a fault are not refused
fields_not : (bytes : List ℕ) (h : Header) (kind : Kind) (fault : FaultKind) → HasArea bytes h kind
    → FieldsAreRefused bytes fault → ⊥
fields_not bytes h kind fault p q =
    let first = rw (one_header bytes q.header h q.has_samples.read p.has_samples.read) at q.first in
    none_not_some _ fault p.fields first

-- nor is the area that carries a row
row_not : (bytes : List ℕ) (row : Row) (fault : FaultKind) → IsRowOf bytes row → AreaIsRefused bytes fault → ⊥
row_not bytes row fault p q =
    let same = kind_one bytes q.header p.header q.kind row.kind q.has_area p.has_area in
    area_not (storage_of row.kind) p.header.data_order (data_area p.header bytes) row.samples fault p.carried
    (faulty_by bytes q.header p.header q.kind row.kind (length row.samples) fault same.0 same.1
    (ap (λ (h : Header). h.samples) same.0 ∙ sym p.count) q.first)

area_fault_one : (bytes : List ℕ) (f g : FaultKind) → AreaIsRefused bytes f → AreaIsRefused bytes g → f ≡ g
area_fault_one bytes f g p q =
    let same = kind_one bytes p.header q.header p.kind q.kind p.has_area q.has_area in
    area_one (storage_of q.kind) q.header.data_order (data_area q.header bytes) q.header.samples f g
    (faulty_by bytes p.header q.header p.kind q.kind q.header.samples f same.0 same.1
    (ap (λ (h : Header). h.samples) same.0) p.first) q.first

fields_fault_one : (bytes : List ℕ) (f g : FaultKind) → FieldsAreRefused bytes f → FieldsAreRefused bytes g → f ≡ g
fields_fault_one bytes f g p q =
    let first = rw (one_header bytes p.header q.header p.has_samples.read q.has_samples.read) at p.first in
    some_same _ f g first q.first

stages_one : (bytes : List ℕ) (f g : FaultKind) → Stage bytes f → Stage bytes g → f ≡ g
stages_one bytes f g (by_header r e h) (by_header r' d k) = cc
stages_one bytes f g (by_header r e h) (by_fields q) = absurd (not_both bytes q.header r q.has_samples.read h)
stages_one bytes f g (by_header r e h) (by_area q) = absurd (not_both bytes q.header r q.has_area.has_samples.read h)
stages_one bytes f g (by_header r e h) (by_time d q) =
    absurd (not_both bytes q.is_row.header r q.is_row.has_area.has_samples.read h)
stages_one bytes f g (by_fields p) (by_header r d k) = absurd (not_both bytes p.header r p.has_samples.read k)
stages_one bytes f g (by_fields p) (by_fields q) = fields_fault_one bytes f g p q
stages_one bytes f g (by_fields p) (by_area q) = absurd (fields_not bytes q.header q.kind f q.has_area p)
stages_one bytes f g (by_fields p) (by_time d q) =
    absurd (fields_not bytes q.is_row.header q.the_row.kind f q.is_row.has_area p)
stages_one bytes f g (by_area p) (by_header r d k) = absurd (not_both bytes p.header r p.has_area.has_samples.read k)
stages_one bytes f g (by_area p) (by_fields q) = absurd (fields_not bytes p.header p.kind g p.has_area q)
stages_one bytes f g (by_area p) (by_area q) = area_fault_one bytes f g p q
stages_one bytes f g (by_area p) (by_time d q) = absurd (row_not bytes q.the_row f q.is_row p)
stages_one bytes f g (by_time e p) (by_header r d k) =
    absurd (not_both bytes p.is_row.header r p.is_row.has_area.has_samples.read k)
stages_one bytes f g (by_time e p) (by_fields q) =
    absurd (fields_not bytes p.is_row.header p.the_row.kind g p.is_row.has_area q)
stages_one bytes f g (by_time e p) (by_area q) = absurd (row_not bytes p.the_row g p.is_row q)
stages_one bytes f g (by_time e p) (by_time d q) = e ∙ sym d

pub one_fault : (bytes : List ℕ) (f g : FaultKind) → IsRefused bytes f → IsRefused bytes g → f ≡ g
one_fault bytes f g p q = stages_one bytes f g (stage bytes f p) (stage bytes g q)

no_samples : (bytes : List ℕ) (g h : Header) → header_of bytes ≡ Ok g → g.samples ≡ 0 → HasSamples bytes h → ⊥
no_samples bytes g h read none p =
    let count = ap (λ (h : Header). h.samples) (one_header bytes g h read p.read) in
    omega (arith, count, none, p.some)

-- a record without samples is not refused after its header
empty_not : (bytes : List ℕ) (h : Header) (fault : FaultKind) → header_of bytes ≡ Ok h → h.samples ≡ 0
    → Stage bytes fault → ⊥
empty_not bytes h fault read none (by_header r e k) = not_both bytes h r read k
empty_not bytes h fault read none (by_fields q) = no_samples bytes h q.header read none q.has_samples
empty_not bytes h fault read none (by_area q) = no_samples bytes h q.header read none q.has_area.has_samples
empty_not bytes h fault read none (by_time e q) =
    no_samples bytes h q.is_row.header read none q.is_row.has_area.has_samples

-- a record with a row is refused for its time alone
only_time : (bytes : List ℕ) (row : Row) (fault : FaultKind) → IsRowOf bytes row → Stage bytes fault
    → (fault ≡ TimeRange) × IsOutOfTime bytes
only_time bytes row fault p (by_header r e k) = absurd (not_both bytes p.header r p.has_area.has_samples.read k)
only_time bytes row fault p (by_fields q) = absurd (fields_not bytes p.header row.kind fault p.has_area q)
only_time bytes row fault p (by_area q) = absurd (row_not bytes row fault p q)
only_time bytes row fault p (by_time e q) = (e, q)

-- a record with a row that is in time is not refused
row_passes : (bytes : List ℕ) (row : Row) (fault : FaultKind) → IsRowOf bytes row → RowIsInTime row
    → Stage bytes fault → ⊥
row_passes bytes row fault p t s =
    let late = (only_time bytes row fault p s).1 in
    late.out (rw (one_row bytes row late.the_row p late.is_row) at t)

passes : (bytes : List ℕ) (length : ℕ) (row : Option Row) (agrees : Bool) (fault : FaultKind)
    → IsRecordOf bytes (record { length = length; row = row; reverse_agrees = agrees }) → Stage bytes fault → ⊥
passes bytes length None agrees fault p s = empty_not bytes p.header fault p.read p.empty s
passes bytes length (Some row) agrees fault p s = row_passes bytes row fault p.row p.in_time s

pub not_refused : (bytes : List ℕ) (found : Record) (fault : FaultKind) → IsRecordOf bytes found
    → IsRefused bytes fault → ⊥
not_refused bytes found fault p q = passes bytes found.length found.row found.reverse_agrees fault p
    (stage bytes fault q)

-- two answers to one question are one
bool_one : (a b : Bool) → (a ≡ true → b ≡ true) → (b ≡ true → a ≡ true) → a ≡ b
bool_one true b f g = sym (f refl)
bool_one false true f g = g refl
bool_one false false f g = refl

records_equal : (n m : ℕ) (o p : Option Row) (a b : Bool) → n ≡ m → o ≡ p → a ≡ b
    → ◌≡◌ {A = Record} (record { length = n; row = o; reverse_agrees = a })
    (record { length = m; row = p; reverse_agrees = b })
records_equal n m o p a b e f g = rw (e, f, g) refl

lengths_one : (bytes : List ℕ) (g h : Header) (n m : ℕ) → header_of bytes ≡ Ok g → header_of bytes ≡ Ok h
    → n ≡ 2 ^ g.exponent → m ≡ 2 ^ h.exponent → n ≡ m
lengths_one bytes g h n m p q e f = e ∙ ap (λ (h : Header). 2 ^ h.exponent) (one_header bytes g h p q) ∙ sym f

one_record_by : (bytes : List ℕ) (n m : ℕ) (o u : Option Row) (a b : Bool)
    → IsRecordOf bytes (record { length = n; row = o; reverse_agrees = a })
    → IsRecordOf bytes (record { length = m; row = u; reverse_agrees = b }) → (o ≡ u) × (a ≡ b)
one_record_by bytes n m None None a b p q = (refl, p.no_reverse ∙ sym q.no_reverse)
one_record_by bytes n m None (Some row) a b p q =
    absurd (no_samples bytes p.header q.row.header p.read p.empty q.row.has_area.has_samples)
one_record_by bytes n m (Some row) None a b p q =
    absurd (no_samples bytes q.header p.row.header q.read q.empty p.row.has_area.has_samples)
one_record_by bytes n m (Some row) (Some other) a b p q =
    let same = one_row bytes row other p.row q.row in (
      ap (λ (r : Row). Some r) same,
      bool_one a b (λ t. q.agrees.1 (rw same at (p.agrees.0 t))) (λ t. p.agrees.1 (rw (← same) at (q.agrees.0 t))),
    )

pub one_record : (bytes : List ℕ) (found other : Record) → IsRecordOf bytes found → IsRecordOf bytes other
    → found ≡ other
one_record bytes found other p q =
    let parts = one_record_by bytes found.length other.length found.row other.row found.reverse_agrees
    other.reverse_agrees p q in
    records_equal _ _ _ _ _ _
    (lengths_one bytes p.header q.header found.length other.length p.read q.read p.length_is q.length_is)
    parts.0 parts.1

-- what the bytes say of the reverse constant, by the row that they begin with
reverse_one_by : (bytes : List ℕ) (g h : Header) (o u : Option Row) (a b : Bool) → header_of bytes ≡ Ok g
    → header_of bytes ≡ Ok h → IfNone o ((g.samples ≡ 0) × IsTrue a) → IfSome o (IsRowOf bytes)
    → IfSome o (λ row. IsTrue a ↔ AgreesAtEnd bytes row)
    → IfNone u ((h.samples ≡ 0) × IsTrue b) → IfSome u (IsRowOf bytes)
    → IfSome u (λ row. IsTrue b ↔ AgreesAtEnd bytes row) → a ≡ b
reverse_one_by bytes g h None None a b p q none r s empty u v = none.1 ∙ sym empty.1
reverse_one_by bytes g h None (Some row) a b p q none r s empty u v =
    absurd (no_samples bytes g u.header p none.0 u.has_area.has_samples)
reverse_one_by bytes g h (Some row) None a b p q none r s empty u v =
    absurd (no_samples bytes h r.header q empty.0 r.has_area.has_samples)
reverse_one_by bytes g h (Some row) (Some other) a b p q none r s empty u v =
    let same = one_row bytes row other r u in
    bool_one a b (λ t. v.1 (rw same at (s.0 t))) (λ t. s.1 (rw (← same) at (v.0 t)))

pub reverse_one : (bytes : List ℕ) (agrees other : Bool) → HasReverse bytes agrees → HasReverse bytes other
    → agrees ≡ other
reverse_one bytes agrees other p q =
    reverse_one_by bytes p.header q.header p.row q.row agrees other p.read q.read p.empty p.is_row p.agrees_at_end
    q.empty q.is_row q.agrees_at_end

both_if_none : {X : Type 0} (A B : Type 0) (o : Option X) → IfNone o A → IfNone o B → IfNone o (A × B)
both_if_none A B None a b = (a, b)
both_if_none A B (Some x) a b = tt

pub reverse_of_record : (bytes : List ℕ) (found : Record) → IsRecordOf bytes found
    → HasReverse bytes found.reverse_agrees
reverse_of_record bytes found p = record {
  header = p.header;
  read = p.read;
  row = found.row;
  empty = both_if_none _ _ found.row p.empty p.no_reverse;
  is_row = p.row;
  agrees_at_end = p.agrees;
}

reverse_passes : (bytes : List ℕ) (h : Header) (o : Option Row) (fault : FaultKind) (agrees : Bool)
    → header_of bytes ≡ Ok h → IfNone o ((h.samples ≡ 0) × IsTrue agrees) → IfSome o (IsRowOf bytes)
    → fault ≢ TimeRange → Stage bytes fault → ⊥
reverse_passes bytes h None fault agrees read empty row other s = empty_not bytes h fault read empty.0 s
reverse_passes bytes h (Some the_row) fault agrees read empty row other s =
    other (only_time bytes the_row fault row s).0

pub reverse_not_refused : (bytes : List ℕ) (agrees : Bool) → HasReverse bytes agrees → IsRefusedBeforeTime bytes → ⊥
reverse_not_refused bytes agrees p q =
    reverse_passes bytes p.header p.row q.fault agrees p.read p.empty p.is_row q.before (stage bytes q.fault q.refused)
