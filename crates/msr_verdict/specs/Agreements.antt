-- What is known of records of which each was compared with the lines of a report as it came.
use Rattle.std.specs.Prelude.{◌≡◌, ℕ, ⊤, true, false, ℤ, List, ◌∷◌, ◌++◌, [], length, Option, None, Some, All, is_some, option_map}
use Rattle.std.specs.List.{flat_map}
use Rattle.std.specs.Option.{option_to_list}
use Rattle.msr_base.specs.declared.forms.Form.{Form}
use Rattle.msr_base.specs.Lengths.{bytes_of}
use Rattle.msr_words.specs.Fit.{records_of}
use Rattle.msr_check.specs.Judged.{Judges}
use Rattle.msr_rows.specs.declared.row.Row.{Row}
use Rattle.msr_rows.specs.declared.row.Record.{Record}
use Rattle.msr_segments.specs.Spans.{Following}
use Rattle.msr_segments.specs.Segments.{Part, rows_of, part_span, IsDivision}
use Rattle.msr_report.specs.declared.report.Report.{Report}
use Rattle.msr_report.specs.declared.report.SegmentLine.{SegmentLine}
use Rattle.msr_input.specs.Input.{rows_of_records}
use Rattle.msr_verdict.specs.Packed.{IsFull, AreShownBy, form_by, runs_of_rows}
use Rattle.msr_verdict.specs.Compared.{Compared, IsLineAt, separators_at}

-- the rows of the part that is open
abbrev pub open_rows : Option Part → List Row
open_rows None = []
open_rows (Some part) = rows_of part

-- the samples of rows, one after another
abbrev pub samples_of_rows : List Row → List ℤ
samples_of_rows rows = flat_map (λ (row : Row). row.samples) rows

-- These are the parts of the rows that a follower took; the last one is at its place.
pub record HasParts (following : Following) (rows : List Row) (parts : List Part) (last : Option Part) : Type 0 where
  pub division : IsDivision following.tolerance rows (parts ++ option_to_list last)
  pub current : following.current ≡ option_map part_span last
  pub begun : last ≡ None → rows ≡ []

-- the line at that place is of the open part, if one is open
abbrev pub HasLine : List SegmentLine → ℕ → Option Part → Type 0
HasLine lines place None = ⊤
HasLine lines place (Some part) = IsLineAt lines place part.0.key part.0.start

-- the first of these parts begins as that part does
pub record BeginsAs (part : Part) (rest : List Part) : Type 0 where
  pub first : Part
  pub others : List Part
  pub rest_is : rest ≡ first ∷ others
  pub key : first.0.key ≡ part.0.key
  pub start : first.0.start ≡ part.0.start

-- the open part, if one is open, may be the first of these with some rows more
abbrev pub MayGoOn : Option Part → List Part → Type 0
MayGoOn None rest = ⊤
MayGoOn (Some part) rest = BeginsAs part rest

-- All records so far are full, the ended parts are shown by the first lines, the next line is of the open part, and the
-- runs of that were judged.
pub record Agreeing (form : Form) (lines : List SegmentLine) (records : List Record) (parts : List Part)
    (last : Option Part) (c : Compared) : Type 0 where
  pub full : All (IsFull (bytes_of form.length)) records
  pub done : List SegmentLine
  pub left : List SegmentLine
  pub whole : lines ≡ done ++ left
  pub place : c.place ≡ length done
  pub shown : AreShownBy form parts done
  pub is_open : c.is_open ≡ is_some last
  pub has_line : HasLine lines c.place last
  pub judged : Judges (records_of form) (samples_of_rows (open_rows last)) (runs_of_rows 0 (open_rows last))
      (separators_at lines c.place) c.judged

-- Whatever follows, the records and parts so far are not shown by these lines.
pub record Disagreeing (form : Form) (lines : List SegmentLine) (records : List Record) (parts : List Part)
    (last : Option Part) : Type 0 where
  pub none : (more : List Record) (rest : List Part) → All (IsFull (bytes_of form.length)) (records ++ more)
      → MayGoOn last rest → AreShownBy form (parts ++ rest) lines → ⊥

pub record IsCompared (form : Form) (lines : List SegmentLine) (records : List Record) (parts : List Part)
    (last : Option Part) (c : Compared) : Type 0 where
  pub agrees : c.agrees ≡ true → Agreeing form lines records parts last c
  pub differs : c.agrees ≡ false → Disagreeing form lines records parts last

-- The records so far: their parts, and how far they were compared.
pub record Follows (form : Form) (lines : List SegmentLine) (following : Following) (records : List Record)
    (c : Compared) : Type 0 where
  pub parts : List Part
  pub last : Option Part
  pub has_parts : HasParts following (rows_of_records records) parts last
  pub compared : IsCompared form lines records parts last c

-- The same by the lines of this report, which is still at hand.
pub record HasJudged (report at_hand : Report) (following : Following) (records : List Record) (c : Compared) : Type 0 where
  pub report_is : at_hand ≡ report
  pub follows : Follows (form_by report) report.segments.items following records c
