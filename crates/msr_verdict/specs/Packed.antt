-- When a report shows that every segment of packed records stands in the fewest records.
use Rattle.std.specs.Prelude.{◌≡◌, ℕ, ◌+◌, ◌≤◌, false, List, [], ◌∷◌, length, All, IsSome, Result, Ok, Err}
use Rattle.msr_words.specs.Fit.{records_of}
use Rattle.msr_words.specs.declared.kinds.Run.{Run}
use Rattle.msr_base.specs.declared.forms.Form.{Form}
use Rattle.msr_base.specs.Lengths.{bytes_of}
use Rattle.msr_words.specs.Packing.{IsPacking, IsSeparating}
use Rattle.msr_rows.specs.declared.row.Row.{Row}
use Rattle.msr_rows.specs.declared.row.Record.{Record}
use Rattle.msr_segments.specs.Segments.{Part, rows_of, segment_of, IsDivision}
use Rattle.msr_segments.specs.declared.joiner.Segment.{Segment}
use Rattle.msr_report.specs.declared.report.SegmentLine.{SegmentLine}
use Rattle.msr_report.specs.declared.report.Report.{Report}
use Rattle.msr_input.specs.Input.{AreRead, HasFirstFault, IsReadable, rows_of_records}
use Rattle.msr_input.specs.declared.settings.Settings.{Settings}
use Rattle.msr_input.specs.declared.fault.ReadFault.{ReadFault}
use Rattle.msr_input.specs.declared.fault.ReadFault.TheVariants.{Input, Read, Memory}
use Rattle.msr_verdict.specs.declared.verdict.Verdict.{Verdict}
use Rattle.msr_verdict.specs.declared.verdict.Verdict.TheVariants.{Least, NotShown}

-- the runs that rows are, one after another, if `at` samples stand before them
abbrev pub runs_of_rows : ℕ → List Row → List Run
runs_of_rows at [] = []
runs_of_rows at (row ∷ rows) =
    record { start = at; end = at + length row.samples; kind = row.kind } ∷ runs_of_rows (at + length row.samples) rows

-- the runs of a part of the rows, whose samples are one segment
abbrev pub runs_of_part : Part → List Run
runs_of_part part = runs_of_rows 0 (rows_of part)

-- The line is the segment's, packed in these runs, and its separators show that fewer do not suffice.
pub record IsShownAs (form : Form) (segment : Segment) (runs : List Run) (line : SegmentLine) : Type 0 where
  pub key : line.key ≡ segment.key
  pub start : line.start ≡ segment.start
  pub samples : line.samples ≡ length segment.samples
  pub records : line.records ≡ length runs
  pub packing : IsPacking (records_of form) segment.samples runs
  pub separating : IsSeparating (records_of form) segment.samples line.separators.items
  pub as_many : length runs ≡ length line.separators.items

abbrev pub IsShownBy : Form → Part → SegmentLine → Type 0
IsShownBy form part line = IsShownAs form (segment_of part) (runs_of_part part) line

-- each part is shown by the line at its place, and there are as many lines as parts
abbrev pub AreShownBy : Form → List Part → List SegmentLine → Type 0
AreShownBy form [] [] = Unit {0}
AreShownBy form [] (line ∷ lines) = ⊥
AreShownBy form (part ∷ parts) [] = ⊥
AreShownBy form (part ∷ parts) (line ∷ lines) = IsShownBy form part line × AreShownBy form parts lines

-- the record has that length, and samples
pub record IsFull (size : ℕ) (found : Record) : Type 0 where
  pub length_is : found.length ≡ size
  pub some : IsSome found.row

-- the records that a report speaks of: of its length and of its kinds
abbrev pub form_by : Report → Form
form_by report = record { length = report.length; kinds = report.kinds }

-- how the records are read: with the report's tolerance, and not strictly
abbrev pub settings_by : Report → Settings
settings_by report = record { tolerance = report.tolerance; strict = false }

-- The report shows that every segment of the input stands in the fewest records of its length and kinds: the input
-- is readable, each of its records has the report's length and some samples, and its segments are shown by the
-- report's lines in order.
pub record ShowsLeast (report : Report) (input : List ℕ) : Type 0 where
  pub records : List Record
  pub parts : List Part
  pub are_read : AreRead (settings_by report) input records []
  pub division : IsDivision report.tolerance (rows_of_records records) parts
  pub full : All (IsFull (bytes_of report.length)) records
  pub shown : AreShownBy (form_by report) parts report.segments.items

-- The input is readable, and the report does not show that.
pub record DoesNotShow (report : Report) (input : List ℕ) : Type 0 where
  pub records : List Record
  pub segments : List Segment
  pub readable : IsReadable (settings_by report) input records segments
  pub none : ShowsLeast report input → ⊥

-- Some first records of the input are read, none of them refused.
pub record BeginsReadable (settings : Settings) (input : List ℕ) : Type 0 where
  pub records : List Record
  pub rest : List ℕ
  pub are_read : AreRead settings input records rest

-- what an answer says of the input
abbrev pub VerifyAnswers : Report → List ℕ → Result Verdict ReadFault → Type 0
VerifyAnswers report input (Ok Least) = ShowsLeast report input
VerifyAnswers report input (Ok NotShown) = DoesNotShow report input
VerifyAnswers report input (Err (Input fault)) = HasFirstFault (settings_by report) input fault
VerifyAnswers report input (Err Read) = BeginsReadable (settings_by report) input
VerifyAnswers report input (Err Memory) = BeginsReadable (settings_by report) input

-- No packing of the part's segment has fewer records than it stands in, nor than the line says.
pub record StandsInFewest (form : Form) (part : Part) (line : SegmentLine) : Type 0 where
  pub records : line.records ≡ length (rows_of part)
  pub fewest : (other : List Run) → IsPacking (records_of form) (segment_of part).samples other
      → length (rows_of part) ≤ length other

abbrev pub AllStandInFewest : Form → List Part → List SegmentLine → Type 0
AllStandInFewest form [] [] = Unit {0}
AllStandInFewest form [] (line ∷ lines) = ⊥
AllStandInFewest form (part ∷ parts) [] = ⊥
AllStandInFewest form (part ∷ parts) (line ∷ lines) = StandsInFewest form part line × AllStandInFewest form parts lines

-- If the report shows it, every segment of the input stands in the fewest records, whatever list of records and
-- whatever division into segments is asked for: the input has no other.
abbrev pub ShownIsFewest : Type 0
ShownIsFewest =
    (report : Report) (input : List ℕ) (records : List Record) (parts : List Part) → ShowsLeast report input
    → AreRead (settings_by report) input records []
    → IsDivision report.tolerance (rows_of_records records) parts
    → AllStandInFewest (form_by report) parts report.segments.items

-- if the report shows it, the input is readable
abbrev pub ShownIsReadable : Type 0
ShownIsReadable =
    (report : Report) (input : List ℕ) → ShowsLeast report input
    → (records : List Record) × (segments : List Segment) × IsReadable (settings_by report) input records segments
