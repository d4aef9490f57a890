-- An input: miniSEED records one after another (SEED Reference Manual 2.4, data records), and the first one that
-- is refused. Each record is judged by all bytes that are left from its first one on.
use Rattle.std.specs.Prelude.{◌≡◌, ◌≢◌, ◌⊎◌, ℕ, ◌+◌, ◌<◌, Bool, false, IsTrue, if◌then◌else◌, List, [], ◌∷◌, ◌++◌, length, drop, is_some, Some}
use Rattle.std.specs.Option.{option_to_list}
use Rattle.msr_rows.specs.Records.{IsRecordOf, IsRefused, HasReverse}
use Rattle.msr_rows.specs.declared.row.Record.{Record}
use Rattle.msr_rows.specs.declared.row.Row.{Row}
use Rattle.msr_rows.specs.declared.fault.FaultKind.{FaultKind}
use Rattle.msr_rows.specs.declared.fault.FaultKind.TheVariants.{TimeRange, ReverseMismatch, Memory}
use Rattle.msr_segments.specs.Segments.{AreSegments, LastEndsOutOfRange}
use Rattle.msr_segments.specs.declared.joiner.Segment.{Segment}
use Rattle.msr_base.specs.declared.counts.Counts.{Counts}
use Rattle.msr_input.specs.declared.fault.Fault.{Fault}
use Rattle.msr_input.specs.declared.settings.Settings.{Settings}

-- the input begins with these records, one after another, and this is left after them
abbrev pub BeginsWith : List Record → List ℕ → List ℕ → Type 0
BeginsWith [] input rest = input ≡ rest
BeginsWith (found ∷ others) input rest = IsRecordOf input found × BeginsWith others (drop found.length input) rest

-- how many bytes the records have in all
abbrev pub bytes_of_records : List Record → ℕ
bytes_of_records [] = 0
bytes_of_records (found ∷ others) = found.length + bytes_of_records others

-- the rows of the records that have samples
abbrev pub rows_of_records : List Record → List Row
rows_of_records [] = []
rows_of_records (found ∷ others) = option_to_list found.row ++ rows_of_records others

-- how many records have no samples, and in how many the reverse constant is not the last sample
abbrev pub empty_count : List Record → ℕ
empty_count [] = 0
empty_count (found ∷ others) = (if is_some found.row then 0 else 1) + empty_count others

abbrev pub mismatch_count : List Record → ℕ
mismatch_count [] = 0
mismatch_count (found ∷ others) = (if found.reverse_agrees then 0 else 1) + mismatch_count others

-- all counts of the records
abbrev pub counts_of : List Record → Counts
counts_of records = record {
  read = length records;
  empty = empty_count records;
  mismatched = mismatch_count records;
}

-- No row of the records ends its segment outside the supported years, when it joins.
abbrev pub NoneOverruns : ℕ → List Record → Type 0
NoneOverruns tolerance records =
    (before after : List Record) (found : Record) (row : Row) → records ≡ before ++ found ∷ after
    → found.row ≡ Some row
    → LastEndsOutOfRange tolerance (rows_of_records (before ++ found ∷ [])) → ⊥

-- if reading is strict, the reverse constant of the record agrees, and of each of the records
abbrev pub Agrees : Bool → Record → Type 0
Agrees strict found = IsTrue strict → IsTrue found.reverse_agrees

abbrev pub AllAgree : Bool → List Record → Type 0
AllAgree strict records = IsTrue strict → mismatch_count records ≡ 0

-- The input begins with these records, none of which is refused, and this is left after them.
pub record AreRead (settings : Settings) (input : List ℕ) (records : List Record) (rest : List ℕ) : Type 0 where
  pub begins : BeginsWith records input rest
  pub in_range : NoneOverruns settings.tolerance records
  pub agree : AllAgree settings.strict records

-- A readable input: these records, none of which is refused, and nothing after them; and these are the segments
-- of their rows.
pub record IsReadable (settings : Settings) (input : List ℕ) (records : List Record)
    (segments : List Segment) : Type 0 where
  pub are_read : AreRead settings input records []
  pub are_segments : AreSegments settings.tolerance (rows_of_records records) segments

-- Reading is strict, and the reverse constant of the record that the bytes begin with does not agree, be it in time or
-- not. No other fault refuses it but that of its time.
pub record Mismatches (strict : Bool) (rest : List ℕ) : Type 0 where
  pub is_strict : IsTrue strict
  pub reverse : HasReverse rest false

-- The record that the bytes begin with is refused so by itself. A reverse constant that does not agree comes before the
-- time, and only if reading is strict.
abbrev pub IsRefusedAlone : Bool → List ℕ → FaultKind → Type 0
IsRefusedAlone strict rest kind =
    (Mismatches strict rest × (kind ≡ ReverseMismatch)) ⊎ ((Mismatches strict rest → ⊥) × IsRefused rest kind)

-- The record that the bytes begin with has no fault by itself, and ends its segment outside the supported years, after
-- these records.
pub record OverrunsAfter (settings : Settings) (records : List Record) (rest : List ℕ) : Type 0 where
  pub found : Record
  pub row : Row
  pub has_row : found.row ≡ Some row
  pub is_record : IsRecordOf rest found
  pub agrees : Agrees settings.strict found
  pub out_of_range : LastEndsOutOfRange settings.tolerance (rows_of_records (records ++ found ∷ []))

-- After these records the one that the bytes begin with is refused so: by itself, or since it ends its segment
-- out of range.
abbrev pub IsRefusedAfter : Settings → List Record → List ℕ → FaultKind → Type 0
IsRefusedAfter settings records rest kind =
    IsRefusedAlone settings.strict rest kind ⊎ ((kind ≡ TimeRange) × OverrunsAfter settings records rest)

-- The first fault of an input: these records are read before it, and the next one is refused. The offset is that
-- of its first byte.
pub record IsFirstFault (settings : Settings) (input : List ℕ) (records : List Record) (fault : Fault) : Type 0 where
  pub rest : List ℕ
  pub are_read : AreRead settings input records rest
  pub some_left : 0 < length rest
  pub refused : IsRefusedAfter settings records rest fault.kind
  pub offset_is : fault.offset ≡ bytes_of_records records

-- the input has this first fault
pub record HasFirstFault (settings : Settings) (input : List ℕ) (fault : Fault) : Type 0 where
  pub records : List Record
  pub first : IsFirstFault settings input records fault

-- some first records of the input are read; these are first segments of their rows, and what follows them
pub record HaveBegun (tolerance : ℕ) (records : List Record) (segments : List Segment) : Type 0 where
  pub others : List Segment
  pub are_segments : AreSegments tolerance (rows_of_records records) (segments ++ others)

-- a readable input has one list of records, and one list of segments
abbrev pub OneListOfRecords : Type 0
OneListOfRecords =
    (settings : Settings) (input : List ℕ) (records others : List Record) (segments more : List Segment)
    → IsReadable settings input records segments
    → IsReadable settings input others more
    → (records ≡ others) × (segments ≡ more)

-- an input has at most one first fault, with one list of records before it
abbrev pub OneFirstFault : Type 0
OneFirstFault =
    (settings : Settings) (input : List ℕ) (records others : List Record) (fault other : Fault)
    → IsFirstFault settings input records fault
    → IsFirstFault settings input others other
    → (records ≡ others) × (fault ≡ other)

-- a readable input has no first fault
abbrev pub ReadableHasNoFault : Type 0
ReadableHasNoFault =
    (settings : Settings) (input : List ℕ) (records others : List Record) (segments : List Segment) (fault : Fault)
    → IsReadable settings input records segments
    → IsFirstFault settings input others fault
    → ⊥

-- running out of memory is no fault of an input
abbrev pub MemoryIsNoFault : Type 0
MemoryIsNoFault =
    (settings : Settings) (input : List ℕ) (records : List Record) (fault : Fault)
    → IsFirstFault settings input records fault
    → fault.kind ≢ Memory
