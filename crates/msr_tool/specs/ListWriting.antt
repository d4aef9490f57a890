-- What writing the lines of segments does.
use Rattle.std.specs.Prelude.{◌≡◌, ℕ, ◌+◌, ◌≤◌, ◌^◌, List, [], ◌∷◌, ◌++◌, Option, Some, None, option_map}
use Rattle.msr_rows.specs.Records.{IsInTime}
use Rattle.msr_devices.specs.Device.{Device, IsCalm, Takes}
use Rattle.msr_segments.specs.declared.follow.Step.{Step}
use Rattle.msr_segments.specs.declared.follow.Step.TheVariants.{Begins, Joins}
use Rattle.msr_segments.specs.declared.joiner.Segment.{Segment}
use Rattle.msr_input.specs.declared.outline.RowOutline.{RowOutline}
use Rattle.msr_report.specs.declared.json.ListedSegment.{ListedSegment}
use Rattle.msr_options.specs.declared.task.ListForm.{ListForm}
use Rattle.msr_base.specs.declared.counts.Counts.{Counts}
use Rattle.msr_tool.specs.Writing.{StopsSink}
use Rattle.msr_tool.specs.Listing.{AreListLines, IsLine, IsPrefixOfList, last_line, listed_of}
use Rattle.msr_tool.specs.declared.fault.ToolFault.{ToolFault}

-- What a writer of lines shows: their form, the bytes that wait, and the segments that ended last and were begun last,
-- without their samples.
pub record Lister : Type 0 where
  pub form : ListForm
  pub waiting : List ℕ
  pub before : Option ListedSegment
  pub last : Option ListedSegment

-- the last of these segments, or the one before them
abbrev pub last_after : Option Segment → List Segment → Option Segment
last_after before [] = before
last_after before (segment ∷ segments) = last_after (Some segment) segments

-- the segment that a row begins
abbrev pub open_row : RowOutline → ListedSegment
open_row row = record { key = row.key; start = row.start; count = row.count }

-- the open segment, with the samples of a row that joins it
abbrev pub open_longer : Option ListedSegment → RowOutline → Option ListedSegment
open_longer None row = None
open_longer (Some before) row = Some (record
    { key = before.key; start = before.start; count = before.count + row.count })

-- the segment that was begun last, after a row
abbrev pub open_after : Step → Option ListedSegment → RowOutline → Option ListedSegment
open_after Begins last row = Some (open_row row)
open_after Joins last row = open_longer last row

-- The segment has samples, which lie in the supported years, and their number is bounded.
pub record IsOpenInBounds (segment : ListedSegment) : Type 0 where
  pub in_time : IsInTime segment.key.rate segment.start segment.count
  pub some : 1 ≤ segment.count
  pub few : segment.count ≤ 2 ^ 63

-- the text is the line of the segment that was begun last, if one was, after that one
abbrev pub IsLastLine : ListForm → (before : Option ListedSegment) → Option ListedSegment → List ℕ → Type 0
IsLastLine form before None text = text ≡ []
IsLastLine form before (Some last) text = IsLine form before last text

-- From the one state of the sink to the other a prefix of the lines of these segments was written; the rest waits.
pub record HasListed (form : ListForm) (start now : Device) (waiting : List ℕ) (before : Option ListedSegment)
    (segments : List Segment) : Type 0 where
  pub text : List ℕ
  pub taken : List ℕ
  pub lines : AreListLines form segments text
  pub takes : Takes start now taken
  pub whole : text ≡ taken ++ waiting
  pub calm : IsCalm start now
  pub last : before ≡ option_map listed_of (last_after None segments)

-- all lines were written, and that of these counts
pub record HasListedAll (form : ListForm) (start now : Device) (segments : List Segment)
    (counts : Counts) : Type 0 where
  pub text : List ℕ
  pub lines : AreListLines form segments text
  pub takes : Takes start now (text ++ last_line form counts)
  pub calm : IsCalm start now

-- a prefix of the lines of some first ones of these segments was written
pub record HasListedPrefix (form : ListForm) (start now : Device) (segments : List Segment) : Type 0 where
  pub taken : List ℕ
  pub takes : Takes start now taken
  pub prefix : IsPrefixOfList form segments taken

-- a prefix of the lines of these segments and of that of the counts was written
pub record HasListedCut (form : ListForm) (start now : Device) (segments : List Segment)
    (counts : Counts) : Type 0 where
  pub text : List ℕ
  pub taken : List ℕ
  pub tail : List ℕ
  pub lines : AreListLines form segments text
  pub takes : Takes start now taken
  pub whole : text ++ last_line form counts ≡ taken ++ tail

-- a prefix of the lines of these segments was written
abbrev pub StopsListing : ListForm → Device → Device → List Segment → ToolFault → Type 0
StopsListing form start now segments fault =
    StopsSink (HasListedPrefix form start now segments) (HasListedPrefix form start now segments) start now fault

-- a prefix of the lines of all segments was written, or of these and the line of the counts
abbrev pub StopsListingAll : ListForm → Device → Device → List Segment → Counts → ToolFault → Type 0
StopsListingAll form start now segments counts fault =
    StopsSink (HasListedCut form start now segments counts) (HasListedPrefix form start now segments) start now fault
