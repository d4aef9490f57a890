-- Whether segments belong to a day.
use Rattle.std.specs.Prelude.{◌≡◌, ◌⊎◌, List, [], ◌∷◌, ◌++◌, map, All, Option, None, Some}
use Rattle.msr_options.specs.declared.names.DayName.{DayName}
use Rattle.msr_options.specs.declared.names.Names.{Names}
use Rattle.msr_options.specs.declared.names.Names.TheVariants.{Of}
use Rattle.msr_report.specs.declared.json.ListedSegment.{ListedSegment}
use Rattle.msr_report.specs.declared.report.SegmentLine.{SegmentLine}
use Rattle.msr_folders.specs.Names.{IsOfChannel}
use Rattle.msr_folders.specs.Times.{HasSampleOn, IsOnDay}

-- the segment of a line, without its samples
abbrev pub told_segment : SegmentLine → ListedSegment
told_segment line = record { key = line.key; start = line.start; count = line.samples }

-- the segments of the lines of a report
abbrev pub told_segments : List SegmentLine → List ListedSegment
told_segments lines = map told_segment lines

-- The name is that of the segment: its channel, and the day of its first sample.
pub record IsNameOf (segment : ListedSegment) (found : DayName) : Type 0 where
  pub channel : IsOfChannel found segment
  pub on : IsOnDay found.year found.day segment.start

-- The name found is that of the first segment that is of another channel.
pub record IsFirstOfAnother (name : DayName) (segments : List ListedSegment) (found : DayName) : Type 0 where
  pub before : List ListedSegment
  pub segment : ListedSegment
  pub after : List ListedSegment
  pub are : segments ≡ before ++ segment ∷ after
  pub same : All (IsOfChannel name) before
  pub other : IsOfChannel name segment → ⊥
  pub name_of : IsNameOf segment found

-- All are of the channel, and none has a sample on the day; the name found is that of the first.
pub record IsFirstOfNoDay (name : DayName) (segments : List ListedSegment) (found : DayName) : Type 0 where
  pub first : ListedSegment
  pub others : List ListedSegment
  pub are : segments ≡ first ∷ others
  pub same : All (IsOfChannel name) segments
  pub none : All (λ segment. HasSampleOn name.year name.day segment → ⊥) segments
  pub name_of : IsNameOf first found

-- these segments do not belong to the day of that name, by the one of this name
abbrev pub AreMisplaced : DayName → List ListedSegment → DayName → Type 0
AreMisplaced name segments found = IsFirstOfAnother name segments found ⊎ IsFirstOfNoDay name segments found

-- One of them has a sample on the day.
pub record HaveSampleOn (name : DayName) (segments : List ListedSegment) : Type 0 where
  pub before : List ListedSegment
  pub segment : ListedSegment
  pub after : List ListedSegment
  pub are : segments ≡ before ++ segment ∷ after
  pub has : HasSampleOn name.year name.day segment

-- They belong to it: all are of its channel, and one has a sample on it, if there is any.
pub record Belong (name : DayName) (segments : List ListedSegment) : Type 0 where
  pub same : All (IsOfChannel name) segments
  pub some : (segments ≡ []) ⊎ HaveSampleOn name segments

-- what is found of them
abbrev pub IsFoundOf : DayName → List ListedSegment → Option DayName → Type 0
IsFoundOf name segments None = Belong name segments
IsFoundOf name segments (Some found) = AreMisplaced name segments found

-- what is found of segments of which this is asked: nothing, if any name will do
abbrev pub IsFoundAsAsked : Names → List ListedSegment → Option DayName → Type 0
IsFoundAsAsked (Of name) segments found = IsFoundOf name segments found
IsFoundAsAsked names segments found = found ≡ None
