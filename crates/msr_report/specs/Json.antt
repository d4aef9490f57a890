-- The lines of a list in JSON: an object for each segment, which tells also why the segment began, and one for the
-- counts. Numbers are decimal, with no leading zeros and `-` before a negative one.
use Rattle.std.specs.Prelude.{◌≡◌, ℕ, ◌+◌, ◌-◌, ◌*◌, ◌==◌, ◌||◌, cond, ℤ, pos, ◌-ℤ◌, ◌<ℤ◌, ◌≤ℤ◌, List, [], ◌∷◌, ◌++◌, codes, flat_map, Option, None, Some}
use Rattle.std.specs.Char.{is_ascii_graphic}
use Rattle.std.specs.Fmt.{decimal, signed_decimal}
use Rattle.jiff_core.specs.Date.{ordinal}
use Rattle.jiff_core.specs.declared.civil.date.Date.{Date}
use Rattle.msr_time.specs.Instant.{IsSplit}
use Rattle.msr_time.specs.SampleRate.{IsRoundedNominal}
use Rattle.msr_time.specs.declared.btime.BTime.{BTime}
use Rattle.msr_rows.specs.declared.row.Key.{Key}
use Rattle.msr_base.specs.declared.counts.Counts.{Counts}
use Rattle.msr_report.specs.Text.{clock_text, hex_text, padded_decimal}
use Rattle.msr_report.specs.declared.json.ListedSegment.{ListedSegment}

-- A byte in a string: a quote or a backslash after a backslash, any other printable ASCII byte as itself, and the others
-- as `\u00` and two lower-case hexadecimal digits.
abbrev pub byte_json : ℕ → List ℕ
byte_json b =
    cond (b == 34 || b == 92) (92 ∷ b ∷ [])
    (cond (b == 32 || is_ascii_graphic b) (b ∷ []) (92 ∷ (codes "u00" ++ hex_text b)))

-- a byte before a name: a space before none is left out
abbrev pub before_name : ℕ → List ℕ → List ℕ
before_name b [] = cond (b == 32) [] (b ∷ [])
before_name b (c ∷ name) = b ∷ c ∷ name

-- a field of a name without the spaces at its end
abbrev pub unpadded : List ℕ → List ℕ
unpadded [] = []
unpadded (b ∷ field) = before_name b (unpadded field)

-- a field of a name, as the inner part of a string
abbrev pub field_json : List ℕ → List ℕ
field_json field = flat_map byte_json (unpadded field)

-- the members of the name and the quality
abbrev pub name_json : Key → List ℕ
name_json key =
    codes "\"network\":\"" ++ (field_json key.network ++ (codes "\",\"station\":\"" ++ (field_json key.station
    ++ (codes "\",\"location\":\"" ++ (field_json key.location ++ (codes "\",\"channel\":\""
    ++ (field_json key.channel ++ (codes "\",\"quality\":\"" ++ (field_json (key.quality ∷ []) ++ codes "\"")))))))))

-- `YYYY-MM-DD` of a time and its date
abbrev pub iso_date_text : BTime → Date → List ℕ
iso_date_text time date =
    padded_decimal 4 time.year ++ (45 ∷ (padded_decimal 2 date.month ++ (45 ∷ padded_decimal 2 date.day)))

-- `YYYY-MM-DDTHH:MM:SS.ffffffZ` of a time, its date, and the microseconds below its fraction
abbrev pub iso_text : BTime → Date → ℕ → List ℕ
iso_text time date micros =
    iso_date_text time date ++ (84 ∷ (clock_text time ++ (46 ∷ (padded_decimal 6 (100 * time.fract + micros)
    ++ 90 ∷ []))))

-- The text is that of the instant's time, in ISO 8601.
pub record IsIsoText (t : ℤ) (text : List ℕ) : Type 0 where
  pub time : BTime
  pub micros : ℕ
  pub date : Date
  pub split : IsSplit t time micros
  pub year : date.year ≡ pos time.year
  pub place : ordinal date ≡ time.day
  pub is : text ≡ iso_text time date micros

-- the timing quality; 0 is that of records that have none
abbrev pub timing_json : ℕ → List ℕ
timing_json timing = cond (timing == 0) (codes "null") (decimal timing)

-- the members of the rate and of the flags
abbrev pub settings_json : Key → List ℕ
settings_json key =
    codes "\"rate_factor\":" ++ (signed_decimal key.rate.factor ++ (codes ",\"rate_multiplier\":"
    ++ (signed_decimal key.rate.multiplier ++ (codes ",\"activity\":" ++ (decimal key.activity ++ (codes ",\"clock\":"
    ++ (decimal key.clock ++ (codes ",\"data_quality\":" ++ decimal key.data_quality))))))))

-- the members of the time correction and the timing quality
abbrev pub clock_json : (correction : ℤ) → (timing : ℕ) → List ℕ
clock_json correction timing =
    codes "\"correction\":" ++ (signed_decimal correction ++ (codes ",\"timing\":" ++ timing_json timing))

-- the keys are of the same network, station, location and channel
pub record HaveSameName (key other : Key) : Type 0 where
  pub network : key.network ≡ other.network
  pub station : key.station ≡ other.station
  pub location : key.location ≡ other.location
  pub channel : key.channel ≡ other.channel

-- and the same quality, rate, flags, time correction and timing quality
pub record HaveSameSettings (key other : Key) : Type 0 where
  pub quality : key.quality ≡ other.quality
  pub rate : key.rate ≡ other.rate
  pub activity : key.activity ≡ other.activity
  pub clock : key.clock ≡ other.clock
  pub data_quality : key.data_quality ≡ other.data_quality
  pub correction : key.correction ≡ other.correction
  pub timing : key.timing ≡ other.timing

-- So many microseconds lie between the rounded nominal instant of the next sample of the segment before and the start
-- of this one, which is earlier if they are negative.
pub record IsOffset (before segment : ListedSegment) (micros : ℤ) : Type 0 where
  pub next : ℤ
  pub nominal : IsRoundedNominal before.key.rate before.start before.count next
  pub is : micros ≡ segment.start -ℤ next

-- the last members of a segment that does not go on the one before it, whose name is the same: other settings are why,
-- else the time
pub record IsApart (before segment : ListedSegment) (text : List ℕ) : Type 0 where
  pub micros : ℤ
  pub offset : IsOffset before segment micros
  pub why : List ℕ
  pub settings : (HaveSameSettings before.key segment.key → ⊥) → why ≡ codes "settings"
  pub gap : HaveSameSettings before.key segment.key → pos 0 <ℤ micros → why ≡ codes "gap"
  pub overlap : HaveSameSettings before.key segment.key → micros ≤ℤ pos 0 → why ≡ codes "overlap"
  pub is : text ≡ codes "\"began\":\"" ++ (why ++ (codes "\",\"gap_us\":" ++ signed_decimal micros))

-- the last members: why a segment does not go on the one before it in the file
abbrev pub IsBegan : Option ListedSegment → ListedSegment → List ℕ → Type 0
IsBegan None segment text = text ≡ codes "\"began\":\"first\""
IsBegan (Some before) segment text =
    ((HaveSameName before.key segment.key → ⊥) → text ≡ codes "\"began\":\"channel\"")
    × (HaveSameName before.key segment.key → IsApart before segment text)

-- the members of the times of the first and the last sample, which have these texts, and of the number of samples
abbrev pub times_json : (start end : List ℕ) → (samples : ℕ) → List ℕ
times_json start end samples =
    codes "\"start\":\"" ++ (start ++ (codes "\",\"end\":\"" ++ (end ++ (codes "\",\"samples\":" ++ decimal samples))))

-- The line of a segment that comes after another, or first. Its end is the rounded nominal instant of its last sample.
pub record IsJsonLine (before : Option ListedSegment) (segment : ListedSegment) (text : List ℕ) : Type 0 where
  pub start_text : List ℕ
  pub start : IsIsoText segment.start start_text
  pub last : ℤ
  pub nominal : IsRoundedNominal segment.key.rate segment.start (segment.count - 1) last
  pub end_text : List ℕ
  pub end : IsIsoText last end_text
  pub began : List ℕ
  pub is_began : IsBegan before segment began
  pub is : text ≡ codes "{" ++ (name_json segment.key ++ (codes "," ++ (times_json start_text end_text segment.count
      ++ (codes "," ++ (settings_json segment.key ++ (codes "," ++ (clock_json segment.key.correction segment.key.timing
      ++ (codes "," ++ (began ++ (codes "}" ++ 10 ∷ []))))))))))

-- the line of the counts
abbrev pub counts_json : Counts → List ℕ
counts_json counts =
    codes "{\"read\":" ++ (decimal counts.read ++ (codes ",\"empty\":" ++ (decimal counts.empty
    ++ (codes ",\"mismatched\":" ++ (decimal counts.mismatched ++ (codes "}" ++ 10 ∷ []))))))
