-- What was read so far of a report's text, and what the next step does.
use Rattle.std.specs.Prelude.{◌≡◌, ℕ, ◌<◌, ◌≤◌, ◌^◌, ◌⊎◌, Bool, true, false, cond, List, [], ◌∷◌, ◌++◌, length, map, codes, flat_map, All, Result, Ok, Err}
use Rattle.std.specs.Fmt.{decimal}
use Rattle.msr_time.specs.Instant.{IsInstant}
use Rattle.msr_base.specs.Lengths.{bytes_of}
use Rattle.msr_report.specs.Proper.{records_in}
use Rattle.msr_report.specs.Text.{end_line}
use Rattle.msr_report.specs.declared.report.SegmentLine.{SegmentLine}
use Rattle.msr_report_reader.specs.Content.{IsFirst, IsReportKey, IsContentLine, IsOpening, AreContentLineTexts, first_then, content_line}
use Rattle.msr_report_reader.specs.Fault.{IsOneLine, IsFaultLine}
use Rattle.msr_report_reader.specs.TextFault.{IsTextFault}
use Rattle.msr_report_reader.specs.declared.fault.ReportFault.{ReportFault}
use Rattle.msr_report_reader.specs.declared.fault.ReportFault.TheVariants.{Line, Read, Memory}
use Rattle.msr_report_reader.specs.declared.first.FirstLines.{FirstLines}
use Rattle.msr_report_reader.specs.declared.lines.FirstLine.{FirstLine}
use Rattle.msr_report_reader.specs.declared.draft.Expected.{Expected}
use Rattle.msr_report_reader.specs.declared.draft.Expected.TheVariants.{Start, Segment, Separators, Number, End}
use Rattle.msr_report_reader.specs.declared.draft.Draft.{Draft}
use Rattle.msr_report_reader.specs.declared.draft.Progress.{Progress}
use Rattle.msr_report_reader.specs.declared.draft.Progress.TheVariants.{Consumed, Cut, Whole}

-- each line but that of the separators has fewer bytes
abbrev pub line_limit : ℕ
line_limit = 4096

-- The text has the line feed of the line that it begins with, or more bytes than a line can have, or cannot begin
-- with the word of a line. So that line is at fault or not, however the text goes on.
abbrev pub IsSettled : Bool → List ℕ → Type 0
IsSettled begins text = begins ≡ true → IsOneLine text → line_limit ≤ length text

-- the line that the text begins with is settled so, or the text does not go on
pub record IsEnough (begins : Bool) (text more : List ℕ) : Type 0 where
  pub enough : IsSettled begins text ⊎ (more ≡ [])

-- the byte after a word of the separators' line, and after its last
abbrev pub stop_byte : Bool → ℕ
stop_byte last = cond last 10 32

-- the separators' line up to these separators and the byte after them
abbrev pub numbers_then : List ℕ → Bool → List ℕ
numbers_then numbers last = codes "separators" ++ (flat_map (λ n. 32 ∷ decimal n) numbers ++ (stop_byte last ∷ []))

-- the text before the rest is what makes the separators' line up to the old separators the line up to the new ones
pub record AreMore (old : List ℕ) (ended : Bool) (text new : List ℕ) (last : Bool) (rest : List ℕ) : Type 0 where
  pub taken : List ℕ
  pub is : text ≡ taken ++ rest
  pub line : numbers_then old ended ++ taken ≡ numbers_then new last
  pub each : All (λ n. n < 2 ^ 64) old → All (λ n. n < 2 ^ 64) new

-- the lines before the segments and the lines of these segments
pub record ReadSegments (first : FirstLines) (segments : List SegmentLine) (past : List ℕ) : Type 0 where
  pub is_first : IsFirst (bytes_of first.length) first.tolerance first.counts
  pub each : All IsContentLine (map content_line segments)
  pub lines : List ℕ
  pub are : AreContentLineTexts (map content_line segments) lines
  pub is : past ≡ first_then (bytes_of first.length) first.tolerance first.kinds first.counts lines

-- the lines before the segments, the lines of these segments, and the first line of another segment
pub record ReadOpening (first : FirstLines) (segments : List SegmentLine) (line : FirstLine)
    (past : List ℕ) : Type 0 where
  pub before : List ℕ
  pub read : ReadSegments first segments before
  pub opening : List ℕ
  pub is_key : IsReportKey line.key
  pub start : IsInstant line.start
  pub samples : line.samples < 2 ^ 64
  pub records : line.records < 2 ^ 64
  pub opens : IsOpening line.key line.start line.samples line.records [] opening
  pub is : past ≡ before ++ opening

-- these lines, the other segment's separators up to these, and the space before the next
pub record ReadNumbers (first : FirstLines) (segments : List SegmentLine) (line : FirstLine)
    (numbers past : List ℕ) : Type 0 where
  pub before : List ℕ
  pub read : ReadOpening first segments line before
  pub each : All (λ n. n < 2 ^ 64) numbers
  pub is : past ≡ before ++ numbers_then numbers false

-- the lines before the segments, the lines of these segments, and the last line
pub record ReadEnd (first : FirstLines) (segments : List SegmentLine) (past : List ℕ) : Type 0 where
  pub before : List ℕ
  pub read : ReadSegments first segments before
  pub fits : records_in segments < 2 ^ 64
  pub is : past ≡ before ++ end_line (length segments) (records_in segments)

-- the text that was read before what is expected
abbrev pub ReadTo : Expected → List SegmentLine → List ℕ → List ℕ → Type 0
ReadTo Start segments numbers past = (past ≡ []) × ((segments ≡ []) × (numbers ≡ []))
ReadTo (Segment first) segments numbers past = ReadSegments first segments past × (numbers ≡ [])
ReadTo (Separators first line) segments numbers past = ReadOpening first segments line past × (numbers ≡ [])
ReadTo (Number first line) segments numbers past = ReadNumbers first segments line numbers past
ReadTo (End first) segments numbers past = ReadEnd first segments past

pub record HasRead (draft : Draft) (past : List ℕ) : Type 0 where
  pub to : ReadTo draft.expected draft.segments.items draft.numbers.items past

-- the first n bytes of the text were read
pub record IsConsumed (old new : Draft) (text : List ℕ) (n : ℕ) : Type 0 where
  pub taken : List ℕ
  pub rest : List ℕ
  pub is : text ≡ taken ++ rest
  pub count : n ≡ length taken
  pub some : 0 < n
  pub follows : (past : List ℕ) → HasRead old past → HasRead new (past ++ taken)

-- if nothing follows the text, this line is at fault
pub record IsCut (old new : Draft) (text : List ℕ) (line : ℕ) : Type 0 where
  pub same : new ≡ old
  pub fault : (past : List ℕ) → HasRead old past → IsFaultLine (past ++ text) line

-- the text of a report was read, and nothing more
pub record IsWhole (old new : Draft) (text : List ℕ) (first : FirstLines) : Type 0 where
  pub same : new ≡ old
  pub none : text ≡ []
  pub read : (past : List ℕ) → HasRead old past → ReadEnd first old.segments.items past

abbrev pub IsDraftStep : Draft → Draft → List ℕ → Result Progress ReportFault → Type 0
IsDraftStep old new text (Ok (Consumed n)) = IsConsumed old new text n
IsDraftStep old new text (Ok (Cut line)) = IsCut old new text line
IsDraftStep old new text (Ok (Whole first)) = IsWhole old new text first
IsDraftStep old new text (Err fault) =
    (past more : List ℕ) → HasRead old past → IsTextFault (past ++ (text ++ more)) fault

-- the line is cut, and more bytes can make it another; or it is at fault however the text goes on
abbrev pub IsLineRefused : Bool → List ℕ → ℕ → Result Progress ReportFault → Type 0
IsLineRefused begins text line (Ok (Consumed n)) = ⊥
IsLineRefused begins text line (Ok (Cut n)) =
    (n ≡ line) × ((begins ≡ true) × (IsOneLine text × (length text < line_limit)))
IsLineRefused begins text line (Ok (Whole first)) = ⊥
IsLineRefused begins text line (Err (Line n)) = (n ≡ line) × IsSettled begins text
IsLineRefused begins text line (Err Read) = ⊥
IsLineRefused begins text line (Err Memory) = ⊥
