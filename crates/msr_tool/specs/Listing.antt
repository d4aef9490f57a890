-- What listing the segments of an input answers and leaves in the sink: a line for each segment, and a last line
-- with the counts of the records. The lines are words or JSON, as was chosen.
use Rattle.std.specs.Prelude.{◌≡◌, ◌⊎◌, ℕ, List, [], ◌∷◌, ◌++◌, length, Option, None, Some, option_map, Result, Ok, Err}
use Rattle.msr_rows.specs.declared.row.Record.{Record}
use Rattle.msr_segments.specs.Segments.{AreSegments}
use Rattle.msr_segments.specs.declared.joiner.Segment.{Segment}
use Rattle.msr_report.specs.Text.{IsListLine, counts_line}
use Rattle.msr_report.specs.Json.{IsJsonLine, counts_json}
use Rattle.msr_report.specs.declared.json.ListedSegment.{ListedSegment}
use Rattle.msr_options.specs.declared.task.ListForm.{ListForm}
use Rattle.msr_options.specs.declared.task.ListForm.TheVariants.{Words, Json}
use Rattle.msr_base.specs.declared.counts.Counts.{Counts}
use Rattle.msr_input.specs.declared.settings.Settings.{Settings}
use Rattle.msr_input.specs.declared.fault.Fault.{Fault}
use Rattle.msr_input.specs.Input.{AreRead, IsReadable, IsFirstFault, rows_of_records, counts_of}
use Rattle.msr_tool.specs.declared.fault.ToolFault.{ToolFault}
use Rattle.msr_tool.specs.declared.fault.ToolFault.TheVariants.{Input, Report, Read, Write, Memory}

-- a segment without its samples
abbrev pub listed_of : Segment → ListedSegment
listed_of segment = record { key = segment.key; start = segment.start; count = length segment.samples }

-- the line of a segment, in a form of which JSON tells also how it follows the one before it
abbrev pub IsLine : ListForm → (before : Option ListedSegment) → ListedSegment → List ℕ → Type 0
IsLine Words before segment text = IsListLine segment.key segment.start segment.count text
IsLine Json before segment text = IsJsonLine before segment text

-- the line of the counts
abbrev pub last_line : ListForm → Counts → List ℕ
last_line Words counts = counts_line counts
last_line Json counts = counts_json counts

-- the first of these segments, which comes after that one, has this line, and the others have these
pub record ListsFirst (form : ListForm) (before : Option Segment) (segment : Segment) (text others : List ℕ) : Type 0
  where
    pub line : List ℕ
    pub is_line : IsLine form (option_map listed_of before) (listed_of segment) line
    pub whole : text ≡ line ++ others

-- the text is the lines of these segments, one after another, of which the first comes after that one
abbrev pub AreLinesAfter : ListForm → (before : Option Segment) → List Segment → List ℕ → Type 0
AreLinesAfter form before [] text = text ≡ []
AreLinesAfter form before (segment ∷ segments) text = (others : List ℕ) × ListsFirst form before segment text others
    × AreLinesAfter form (Some segment) segments others

-- the same of the segments of a whole input
abbrev pub AreListLines : ListForm → List Segment → List ℕ → Type 0
AreListLines form segments text = AreLinesAfter form None segments text

-- the text is a prefix of the lines of some first ones of these segments
pub record IsPrefixOfList (form : ListForm) (segments : List Segment) (text : List ℕ) : Type 0 where
  pub first : List Segment
  pub others : List Segment
  pub tail : List ℕ
  pub some_first : segments ≡ first ++ others
  pub lines : AreListLines form first (text ++ tail)

-- The input was listed. It is readable; what was written is the lines of its segments and the line of the counts
-- of its records, which are the answer.
pub record IsListed (form : ListForm) (settings : Settings) (input written : List ℕ) (counts : Counts) : Type 0 where
  pub records : List Record
  pub segments : List Segment
  pub text : List ℕ
  pub readable : IsReadable settings input records segments
  pub lines : AreListLines form segments text
  pub are_counts : counts ≡ counts_of records
  pub whole : written ≡ text ++ last_line form counts

-- The input has this first fault. What was written is a prefix of the lines of the segments of the rows before it.
pub record IsListedTo (form : ListForm) (settings : Settings) (input written : List ℕ) (fault : Fault) : Type 0 where
  pub records : List Record
  pub segments : List Segment
  pub first : IsFirstFault settings input records fault
  pub are_segments : AreSegments settings.tolerance (rows_of_records records) segments
  pub prefix : IsPrefixOfList form segments written

-- Some first records of the input are read, none of them refused. What was written is a prefix of the lines of the
-- segments of their rows.
pub record IsListStopped (form : ListForm) (settings : Settings) (input written : List ℕ) : Type 0 where
  pub records : List Record
  pub rest : List ℕ
  pub segments : List Segment
  pub are_read : AreRead settings input records rest
  pub are_segments : AreSegments settings.tolerance (rows_of_records records) segments
  pub prefix : IsPrefixOfList form segments written

-- The input is readable. What was written is a prefix of its list, the last line included.
pub record IsListCut (form : ListForm) (settings : Settings) (input written : List ℕ) : Type 0 where
  pub counts : Counts
  pub tail : List ℕ
  pub listed : IsListed form settings input (written ++ tail) counts

-- what an answer says of the input and of what was written
abbrev pub ListAnswers : ListForm → Settings → List ℕ → List ℕ → Result Counts ToolFault → Type 0
ListAnswers form settings input written (Ok counts) = IsListed form settings input written counts
ListAnswers form settings input written (Err (Input fault)) = IsListedTo form settings input written fault
ListAnswers form settings input written (Err (Report line)) = ⊥
ListAnswers form settings input written (Err Read) = IsListStopped form settings input written
ListAnswers form settings input written (Err Write) = IsListStopped form settings input written
    ⊎ IsListCut form settings input written
ListAnswers form settings input written (Err Memory) = IsListStopped form settings input written
