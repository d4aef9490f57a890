-- How far segments were compared with the lines of a report, and how a record more changes it.
use Rattle.std.specs.Prelude.{◌≡◌, ◌↔◌, ℕ, ◌+◌, Bool, true, false, ℤ, List, [], ◌∷◌, ◌++◌, length, Option, None, Some, slice_get}
use Rattle.msr_base.specs.declared.forms.Form.{Form}
use Rattle.msr_words.specs.Fit.{records_of}
use Rattle.msr_words.specs.declared.kinds.Run.{Run}
use Rattle.msr_check.specs.Judged.{Judged, Judges, next_run}
use Rattle.msr_rows.specs.declared.row.Key.{Key}
use Rattle.msr_rows.specs.declared.row.Row.{Row}
use Rattle.msr_segments.specs.declared.follow.Step.{Step}
use Rattle.msr_segments.specs.declared.follow.Step.TheVariants.{Begins, Joins}
use Rattle.msr_segments.specs.declared.joiner.Segment.{Segment}
use Rattle.msr_report.specs.declared.report.SegmentLine.{SegmentLine}
use Rattle.msr_input.specs.declared.row_reader.NextRecord.{NextRecord}
use Rattle.msr_input.specs.declared.row_reader.NextRow.{NextRow}
use Rattle.msr_verdict.specs.Packed.{IsShownAs}

-- the line of the open segment, or of the next one; whether one is open, what is known of its runs, and whether all so
-- far agree
pub record Compared : Type 0 where
  pub place : ℕ
  pub is_open : Bool
  pub judged : Judged
  pub agrees : Bool

-- the separators of the line at that place, none if there is no line
abbrev pub separators_of_line : Option SegmentLine → List ℕ
separators_of_line None = []
separators_of_line (Some line) = line.separators.items

abbrev pub separators_at : List SegmentLine → ℕ → List ℕ
separators_at lines place = separators_of_line (slice_get lines place)

-- the record that was read has that length, and this row
pub record HasFullRow (size : ℕ) (next : NextRecord) (row : NextRow) : Type 0 where
  pub length_is : next.length ≡ size
  pub row_is : next.row ≡ Some row

-- the line at that place is there, is of a segment of that key that starts then, and has as many records as separators
pub record IsLineAt (lines : List SegmentLine) (place : ℕ) (name : Key) (instant : ℤ) : Type 0 where
  pub line : SegmentLine
  pub at_place : slice_get lines place ≡ Some line
  pub key : line.key ≡ name
  pub start : line.start ≡ instant
  pub records : line.records ≡ length line.separators.items

-- the line at that place is there, and is the segment's, in these runs
pub record IsShownAt (form : Form) (lines : List SegmentLine) (place : ℕ) (segment : Segment)
    (runs : List Run) : Type 0 where
  pub line : SegmentLine
  pub at_place : slice_get lines place ≡ Some line
  pub shown : IsShownAs form segment runs line

-- the open segment ended, and is compared with its line
pub record ComparesSegment (form : Form) (lines : List SegmentLine) (old new : Compared) : Type 0 where
  pub differs : old.agrees ≡ false → new.agrees ≡ false
  pub agrees : old.agrees ≡ true → (segment : Segment) (runs : List Run)
      → IsLineAt lines old.place segment.key segment.start
      → Judges (records_of form) segment.samples runs (separators_at lines old.place) old.judged
      → (new.agrees ≡ true) ↔ IsShownAt form lines old.place segment runs
  pub place : new.agrees ≡ true → new.place ≡ old.place + 1
  pub closed : new.is_open ≡ false
  pub judged : (separators : List ℕ) → Judges (records_of form) [] [] separators new.judged

abbrev pub ComparesEnded : Form → List SegmentLine → Bool → Compared → Compared → Type 0
ComparesEnded form lines false old new = new ≡ old
ComparesEnded form lines true old new = ComparesSegment form lines old new

-- a row that begins a segment ends the open one
abbrev pub EndsBy : Form → List SegmentLine → Step → Compared → Compared → Type 0
EndsBy form lines Begins old new = ComparesEnded form lines old.is_open old new
EndsBy form lines Joins old new = new ≡ old

-- The segment that the row belongs to is open. If the row opened it, the line at its place is of a segment that begins
-- so, or all disagrees from now on.
pub record OpensBy (lines : List SegmentLine) (old : Compared) (row : Row) (new : Compared) : Type 0 where
  pub agrees : (new.agrees ≡ true)
      ↔ ((old.agrees ≡ true) × (old.is_open ≡ false → IsLineAt lines old.place row.key row.start))
  pub place : new.place ≡ old.place
  pub opened : new.is_open ≡ true
  pub judged : new.judged ≡ old.judged

-- a row more belongs to the open segment, and is judged if all agrees
pub record AddsRow (form : Form) (lines : List SegmentLine) (old : Compared) (row : Row) (new : Compared) : Type 0 where
  pub before : Compared
  pub opens : OpensBy lines old row before
  pub agrees : new.agrees ≡ before.agrees
  pub place : new.place ≡ before.place
  pub opened : new.is_open ≡ before.is_open
  pub judged : before.agrees ≡ true → (samples : List ℤ) (runs : List Run)
      → Judges (records_of form) samples runs (separators_at lines before.place) before.judged
      → Judges (records_of form) (samples ++ row.samples) (runs ++ next_run samples row.samples row.kind ∷ [])
      (separators_at lines before.place) new.judged

-- a full record: its row ends the open segment if it begins one, and belongs to the one that is open then
pub record TakesFullRecord (form : Form) (lines : List SegmentLine) (old : Compared) (next : NextRow)
    (new : Compared) : Type 0 where
  pub ended : Compared
  pub ends : EndsBy form lines next.step old ended
  pub adds : AddsRow form lines ended next.row new

-- a record that is not full agrees with no report
abbrev pub TakesRecord : Form → List SegmentLine → Compared → Option NextRow → Compared → Type 0
TakesRecord form lines old None new = new.agrees ≡ false
TakesRecord form lines old (Some next) new = TakesFullRecord form lines old next new
