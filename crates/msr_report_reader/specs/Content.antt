-- What a report's text can say, apart from the memory that holds it: the numbers and names of a report, each in the
-- range of its type.
use Rattle.std.specs.Prelude.{◌≡◌, ◌≢◌, ℕ, ◌<◌, ◌≤◌, ◌+◌, ◌^◌, ℤ, pos, List, [], ◌∷◌, ◌++◌, All, IsTrue, codes, length, map}
use Rattle.std.specs.Fmt.{decimal, signed_decimal}
use Rattle.std.specs.Int.{w16, w32}
use Rattle.std.specs.Int.RustNames.{FitsSigned}
use Rattle.msr_time.specs.Instant.{IsInstant}
use Rattle.msr_header.specs.Reading.{is_quality}
use Rattle.msr_base.specs.RecordLength.{IsRecordLength}
use Rattle.msr_rows.specs.declared.row.Key.{Key}
use Rattle.msr_base.specs.declared.kinds.Kinds.{Kinds}
use Rattle.msr_base.specs.declared.kinds.Kinds.TheVariants.{All as AllKinds, WithoutInt24}
use Rattle.msr_report.specs.Text.{IsTimeText, segment_words, separators_line, kinds_line, counts_line, end_line}
use Rattle.msr_base.specs.declared.counts.Counts.{Counts}
use Rattle.msr_report.specs.declared.report.SegmentLine.{SegmentLine}
use Rattle.msr_report.specs.declared.report.Report.{Report}
use Rattle.msr_base.specs.Lengths.{bytes_of}
use Rattle.msr_report_reader.specs.Fields.{AreBytes, name_then, rate_then, flags_then}

-- the fields of a key are in the ranges of their types, with a quality and a rate that a record can have
pub record IsReportKey (key : Key) : Type 0 where
  pub network : AreBytes 2 key.network
  pub station : AreBytes 5 key.station
  pub location : AreBytes 2 key.location
  pub channel : AreBytes 3 key.channel
  pub quality : IsTrue (is_quality key.quality)
  pub factor : FitsSigned w16 key.rate.factor
  pub multiplier : FitsSigned w16 key.rate.multiplier
  pub some_factor : key.rate.factor ≢ pos 0
  pub some_multiplier : key.rate.multiplier ≢ pos 0
  pub activity : key.activity < 256
  pub clock : key.clock < 256
  pub data_quality : key.data_quality < 256
  pub correction : FitsSigned w32 key.correction
  pub timing : key.timing < 256

-- the words of a segment's line up to the timing quality, and then more text
abbrev pub key_then : Key → List ℕ → List ℕ
key_then key more =
    codes "segment " ++ name_then key.network key.station key.location key.channel
    (32 ∷ (key.quality ∷ rate_then key.rate.factor key.rate.multiplier
    (flags_then key.activity key.clock key.data_quality
    (codes " correction " ++ (signed_decimal key.correction ++ (codes " timing " ++ (decimal key.timing ++ more)))))))

-- the first line of a segment, and then more text
pub record IsOpening (key : Key) (start : ℤ) (samples records : ℕ) (more text : List ℕ) : Type 0 where
  pub word : List ℕ
  pub time : IsTimeText start word
  pub is : text ≡ key_then key (codes " start "
      ++ (word ++ (codes " samples " ++ (decimal samples ++ (codes " records " ++ (decimal records ++ (10 ∷ more)))))))

-- what the two lines of a segment say
pub record ContentLine : Type 0 where
  pub key : Key
  pub start : ℤ
  pub samples : ℕ
  pub records : ℕ
  pub separators : List ℕ

-- what the lines of a report say
pub record Content : Type 0 where
  pub bytes : ℕ
  pub kinds : Kinds
  pub tolerance : ℕ
  pub counts : Counts
  pub segments : List ContentLine

pub record IsContentLine (line : ContentLine) : Type 0 where
  pub key : IsReportKey line.key
  pub start : IsInstant line.start
  pub samples : line.samples < 2 ^ 64
  pub records : line.records < 2 ^ 64
  pub separators : All (λ separator. separator < 2 ^ 64) line.separators

-- the numbers of the lines before the segments are in their ranges
pub record IsFirst (bytes tolerance : ℕ) (counts : Counts) : Type 0 where
  pub is_length : IsRecordLength bytes
  pub least : 1 ≤ tolerance
  pub most : tolerance ≤ 1_000_000
  pub read : counts.read < 2 ^ 64
  pub empty : counts.empty < 2 ^ 64
  pub mismatched : counts.mismatched < 2 ^ 64

pub record IsContent (content : Content) : Type 0 where
  pub first : IsFirst content.bytes content.tolerance content.counts
  pub segments : All IsContentLine content.segments

-- how many records the segments have in all
abbrev pub content_records : List ContentLine → ℕ
content_records [] = 0
content_records (line ∷ lines) = line.records + content_records lines

-- the two lines of a segment
pub record IsContentLineText (line : ContentLine) (text : List ℕ) : Type 0 where
  pub word : List ℕ
  pub time : IsTimeText line.start word
  pub is : text ≡ segment_words line.key word line.samples
      (codes " records " ++ (decimal line.records ++ (10 ∷ separators_line line.separators)))

abbrev pub AreContentLineTexts : List ContentLine → List ℕ → Type 0
AreContentLineTexts [] text = text ≡ []
AreContentLineTexts (line ∷ lines) text =
    (first : List ℕ) × ((more : List ℕ) × (IsContentLineText line first × AreContentLineTexts lines more
    × (text ≡ first ++ more)))

-- how many lines stand before the segments
abbrev pub lines_before : Kinds → ℕ
lines_before AllKinds = 4
lines_before WithoutInt24 = 5

-- the first three lines, and then more text
abbrev pub three_then : ℕ → ℕ → List ℕ → List ℕ
three_then bytes tolerance more =
    codes "msrepack 1" ++ (10 ∷ (codes "length "
    ++ (decimal bytes ++ (10 ∷ (codes "tolerance " ++ (decimal tolerance ++ (10 ∷ more)))))))

-- the lines before the segments, and then more text
abbrev pub first_then : ℕ → ℕ → Kinds → Counts → List ℕ → List ℕ
first_then bytes tolerance kinds counts more =
    three_then bytes tolerance (kinds_line kinds ++ (counts_line counts ++ more))

-- the text of what a report says
pub record IsContentText (content : Content) (text : List ℕ) : Type 0 where
  pub segments : List ℕ
  pub are : AreContentLineTexts content.segments segments
  pub is : text ≡ first_then content.bytes content.tolerance content.kinds content.counts
      (segments ++ end_line (length content.segments) (content_records content.segments))

-- what the lines of a segment and of a report say
abbrev pub content_line : SegmentLine → ContentLine
content_line line = record {
  key = line.key;
  start = line.start;
  samples = line.samples;
  records = line.records;
  separators = line.separators.items;
}

abbrev pub content_of : Report → Content
content_of report = record {
  bytes = bytes_of report.length;
  kinds = report.kinds;
  tolerance = report.tolerance;
  counts = report.counts;
  segments = map content_line report.segments.items;
}
