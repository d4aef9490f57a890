-- The text of a report, and the lines that tell of a segment. A line is words with a space between each two, and
-- ends with a line feed. Numbers are decimal, with no leading zeros and `-` before a negative one.
use Rattle.std.specs.Prelude.{◌≡◌, ℕ, ◌+◌, ◌-◌, ◌*◌, ◌/◌, ◌%◌, ◌==◌, false, cond, ℤ, List, [], ◌∷◌, ◌++◌, codes, flat_map, length, replicate}
use Rattle.std.specs.Char.{is_ascii_alphanumeric}
use Rattle.std.specs.Fmt.{decimal, signed_decimal, digit_glyph}
use Rattle.msr_time.specs.Instant.{IsSplit}
use Rattle.msr_time.specs.SampleRate.{SampleRate}
use Rattle.msr_time.specs.declared.btime.BTime.{BTime}
use Rattle.msr_base.specs.Lengths.{bytes_of}
use Rattle.msr_base.specs.Kinds.{contains}
use Rattle.msr_base.specs.declared.kinds.Kind.{Kind}
use Rattle.msr_base.specs.declared.kinds.Kind.TheVariants.{Int16, Int24, Int32, Steim1, Steim2}
use Rattle.msr_base.specs.declared.kinds.Kinds.{Kinds}
use Rattle.msr_base.specs.declared.kinds.Kinds.TheVariants.{All}
use Rattle.msr_rows.specs.declared.row.Key.{Key}
use Rattle.msr_report.specs.Proper.{records_in}
use Rattle.msr_base.specs.declared.counts.Counts.{Counts}
use Rattle.msr_report.specs.declared.report.SegmentLine.{SegmentLine}
use Rattle.msr_report.specs.declared.report.Report.{Report}

-- two lower-case hexadecimal digits
abbrev pub hex_text : ℕ → List ℕ
hex_text n = digit_glyph false (n / 16) ∷ digit_glyph false (n % 16) ∷ []

-- A byte of a name: an ASCII letter or digit as itself, a space as `_`, any other byte as `%` and its two digits.
abbrev pub byte_text : ℕ → List ℕ
byte_text b = cond (is_ascii_alphanumeric b) (b ∷ []) (cond (b == 32) (95 ∷ []) (37 ∷ hex_text b))

-- a field of a name in its full width
abbrev pub field_text : List ℕ → List ℕ
field_text bytes = flat_map byte_text bytes

-- network, station, location and channel, joined by dots
abbrev pub name_text : Key → List ℕ
name_text key =
    field_text key.network ++ (46 ∷ (field_text key.station
    ++ (46 ∷ (field_text key.location ++ (46 ∷ field_text key.channel)))))

-- the factor and the multiplier of a rate
abbrev pub rate_text : SampleRate → List ℕ
rate_text rate = signed_decimal rate.factor ++ (32 ∷ signed_decimal rate.multiplier)

-- the activity, clock and data quality flags
abbrev pub flags_text : Key → List ℕ
flags_text key = hex_text key.activity ++ (32 ∷ (hex_text key.clock ++ (32 ∷ hex_text key.data_quality)))

-- the number is written in at least `width` digits, with leading zeros
abbrev pub padded_decimal : ℕ → ℕ → List ℕ
padded_decimal width n = replicate (width - length (decimal n)) 48 ++ decimal n

-- `YYYY,DDD` of a time
abbrev pub date_text : BTime → List ℕ
date_text time = padded_decimal 4 time.year ++ (44 ∷ padded_decimal 3 time.day)

-- `HH:MM:SS` of a time
abbrev pub clock_text : BTime → List ℕ
clock_text time =
    padded_decimal 2 time.hour ++ (58 ∷ (padded_decimal 2 time.minute ++ (58 ∷ padded_decimal 2 time.second)))

-- `YYYY,DDD,HH:MM:SS.ffffff` of a time and the microseconds below its fraction, which has units of 100 µs
abbrev pub split_text : BTime → ℕ → List ℕ
split_text time micros =
    date_text time ++ (44 ∷ (clock_text time ++ (46 ∷ padded_decimal 6 (100 * time.fract + micros))))

-- The text is that of the instant's time without a leap second.
pub record IsTimeText (t : ℤ) (text : List ℕ) : Type 0 where
  pub time : BTime
  pub micros : ℕ
  pub split : IsSplit t time micros
  pub is : text ≡ split_text time micros

-- the words from the rate to the timing quality
abbrev pub settings_text : Key → List ℕ
settings_text key =
    codes "rate " ++ (rate_text key.rate ++ (codes " flags " ++ (flags_text key ++ (codes " correction "
    ++ (signed_decimal key.correction ++ (codes " timing " ++ decimal key.timing))))))

-- the words of a segment after the quality, up to the number of samples, and then more text
abbrev pub words_after_quality : Key → List ℕ → ℕ → List ℕ → List ℕ
words_after_quality key start samples more =
    32 ∷ (settings_text key ++ (codes " start " ++ (start ++ (codes " samples " ++ (decimal samples ++ more)))))

-- the words of a segment up to the number of samples, whose start has the given text, and then more text
abbrev pub segment_words : Key → List ℕ → ℕ → List ℕ → List ℕ
segment_words key start samples more =
    codes "segment " ++ (name_text key ++ (32 ∷ (key.quality ∷ words_after_quality key start samples more)))

-- The line of a segment in a list.
pub record IsListLine (key : Key) (start : ℤ) (samples : ℕ) (text : List ℕ) : Type 0 where
  pub start_text : List ℕ
  pub time : IsTimeText start start_text
  pub is : text ≡ segment_words key start_text samples (10 ∷ [])

-- the line of a segment in a report, whose start has the given text
abbrev pub segment_line : SegmentLine → List ℕ → List ℕ
segment_line line start =
    segment_words line.key start line.samples (codes " records " ++ (decimal line.records ++ 10 ∷ []))

-- the line of the separators, with a number for each
abbrev pub separators_line : List ℕ → List ℕ
separators_line separators = codes "separators" ++ (flat_map (λ n. 32 ∷ decimal n) separators ++ 10 ∷ [])

-- The two lines of a segment in a report.
pub record IsSegmentText (line : SegmentLine) (text : List ℕ) : Type 0 where
  pub start_text : List ℕ
  pub time : IsTimeText line.start start_text
  pub is : text ≡ segment_line line start_text ++ separators_line line.separators.items

-- the lines of the segments in their order
abbrev pub AreSegmentTexts : List SegmentLine → List ℕ → Type 0
AreSegmentTexts [] text = text ≡ []
AreSegmentTexts (line ∷ lines) text =
    (first : List ℕ) × ((more : List ℕ) × (IsSegmentText line first × AreSegmentTexts lines more
    × (text ≡ first ++ more)))

-- the line of the counts, in a list and in a report
abbrev pub counts_line : Counts → List ℕ
counts_line counts =
    codes "read " ++ (decimal counts.read ++ (codes " empty "
    ++ (decimal counts.empty ++ (codes " mismatched " ++ (decimal counts.mismatched ++ 10 ∷ [])))))

-- the name of each kind, and all of them in the order in which they are told
abbrev pub kind_name : Kind → List ℕ
kind_name Int16 = codes "int16"
kind_name Int24 = codes "int24"
kind_name Int32 = codes "int32"
kind_name Steim1 = codes "steim1"
kind_name Steim2 = codes "steim2"

abbrev pub told_kinds : List Kind
told_kinds = Steim2 ∷ (Steim1 ∷ (Int16 ∷ (Int24 ∷ (Int32 ∷ []))))

-- the words of the line of the kinds: the names of those that records may be of
abbrev pub kinds_words : Kinds → List ℕ
kinds_words kinds =
    codes "kinds" ++ flat_map (λ kind. cond (contains kinds kind) (32 ∷ kind_name kind) []) told_kinds

-- the line of the kinds; a report of all five has none
abbrev pub kinds_line : Kinds → List ℕ
kinds_line All = []
kinds_line kinds = kinds_words kinds ++ 10 ∷ []

-- the lines before the segments
abbrev pub first_lines : Report → List ℕ
first_lines report =
    codes "msrepack 1" ++ (10 ∷ (codes "length " ++ (decimal (bytes_of report.length)
    ++ (10 ∷ (codes "tolerance " ++ (decimal report.tolerance ++ (10 ∷ (kinds_line report.kinds
    ++ counts_line report.counts))))))))

-- the last line, from the number of segments and that of their records
abbrev pub end_line : ℕ → ℕ → List ℕ
end_line segments records =
    codes "end " ++ (decimal segments ++ (codes " segments " ++ (decimal records ++ (codes " records" ++ 10 ∷ []))))

-- The text of a report.
pub record IsReportText (report : Report) (text : List ℕ) : Type 0 where
  pub segments : List ℕ
  pub are : AreSegmentTexts report.segments.items segments
  pub is : text ≡ first_lines report ++ (segments
      ++ end_line (length report.segments.items) (records_in report.segments.items))
