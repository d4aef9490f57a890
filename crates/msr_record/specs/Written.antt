-- The bytes of a written record (SEED 2.4, data record): a header of 64 bytes, then the data area.
use Rattle.std.specs.Prelude.{◌≡◌, ◌≢◌, ◌≤◌, ℕ, ◌+◌, ◌-◌, ◌*◌, ◌/◌, ◌%◌, nat_le, if◌then◌else◌, ℤ, pos, List, [], ◌∷◌, ◌++◌, length, map, replicate, slice_index_or, Option, Some, true, false, All, FitsSigned, IsTrue}
use Rattle.std.specs.Int.{w16, w32}
use Rattle.msr_time.specs.declared.btime.BTime.{BTime}
use Rattle.msr_time.specs.Instant.{IsInstant, IsSplit}
use Rattle.msr_base.specs.declared.order.Order.TheVariants.{Big}
use Rattle.msr_header.specs.declared.header.Header.{Header}
use Rattle.msr_header.specs.Writing.{header_bytes}
use Rattle.msr_base.specs.Storage.{size_of, storage_of}
use Rattle.msr_plain.specs.Plain.{bytes_of_all}
use Rattle.msr_base.specs.declared.storage.Width.{Width}
use Rattle.msr_steim.specs.Frames.{frame_bytes}
use Rattle.msr_base.specs.declared.storage.Version.{Version}
use Rattle.msr_base.specs.declared.storage.Storage.{Storage}
use Rattle.msr_base.specs.declared.storage.Storage.TheVariants.{Integers, Frames}
use Rattle.msr_filling.specs.GroupWords.{AreGroupWordsIfKnown}
use Rattle.msr_words.specs.Canonical.{IsCanonicalDivision}
use Rattle.msr_words.specs.Groups.{AreGroupSizesIfKnown}
use Rattle.msr_words.specs.Fit.{Fits}
use Rattle.msr_base.specs.Kinds.{code_of}
use Rattle.msr_base.specs.RecordLength.{IsRecordLength}
use Rattle.msr_words.specs.Segment.{differences, points}
use Rattle.msr_base.specs.declared.kinds.Kind.{Kind}
use Rattle.msr_header.specs.Reading.{is_quality}
use Rattle.msr_rows.specs.Correction.{is_pending}
use Rattle.msr_rows.specs.Records.{IsRowOf, IsRecordOf, IsInTime}
use Rattle.msr_rows.specs.declared.row.Key.{Key}

-- the six decimal digits of a sequence number, as text
abbrev pub sequence_digits : ℕ → List ℕ
sequence_digits n = map (λ unit. 48 + n / unit % 10) (100_000 ∷ 10_000 ∷ 1_000 ∷ 100 ∷ 10 ∷ 1 ∷ [])

-- the header of a written record: big-endian, with its data from 64 on
abbrev pub header_for : Key → BTime → ℕ → ℕ → ℕ → Kind → ℕ → ℕ → Header
header_for key time micros sequence count kind exponent frames = record {
  order = Big;
  sequence = sequence_digits sequence;
  quality = key.quality;
  station = key.station;
  location = key.location;
  channel = key.channel;
  network = key.network;
  time = time;
  samples = count;
  factor = key.rate.factor;
  multiplier = key.rate.multiplier;
  activity = key.activity;
  clock = key.clock;
  data_quality = key.data_quality;
  correction = key.correction;
  data_at = 64;
  encoding = code_of kind;
  data_order = Big;
  exponent = exponent;
  timing = Some (record { quality = key.timing; micros = pos micros; frames = frames });
  chain_end = 64;
}

-- The frame count of blockette 1001 for `words` data words is how many frames these and the two
-- constants need, of fifteen words each beside their codes, or 0 if a byte does not hold it.
abbrev pub frame_count : ℕ → ℕ
frame_count words = let frames = (words + 2 + 14) / 15 in if nat_le frames 255 then frames else 0

-- the data area of `size` bytes is these samples as numbers, one after the other, then zeros
pub record AreNumbers (width : Width) (samples : List ℤ) (size frames : ℕ) (area : List ℕ) : Type 0 where
  pub bytes_are : area ≡ bytes_of_all width samples ++ replicate (size - size_of width * length samples) 0
  pub frames_are : frames ≡ 0

-- It is frames of the canonical groups of the samples' differences, without a gap. The constants are the first
-- and the last sample.
pub record AreFrames (version : Version) (before : Option ℤ) (samples : List ℤ) (size frames : ℕ)
    (area : List ℕ) : Type 0 where
  pub groups : List (List ℤ)
  pub canonical : IsCanonicalDivision version groups (differences before samples)
  pub bytes_are : area ≡ frame_bytes version (slice_index_or samples 0 (pos 0))
      (slice_index_or samples (length samples - 1) (pos 0)) groups (size / 64)
  pub frames_are : frames ≡ frame_count (length groups)

-- the data area of `size` bytes that is written for these samples, with the frame count for it
abbrev pub IsWrittenArea : Storage → Option ℤ → List ℤ → ℕ → ℕ → List ℕ → Type 0
IsWrittenArea (Integers width) before samples size frames area = AreNumbers width samples size frames area
IsWrittenArea (Frames version) before samples size frames area = AreFrames version before samples size frames area

-- The bytes are those of the written record of these samples, the first difference being taken from the
-- sample before them, if there is one.
pub record IsWrittenRecord (bytes : List ℕ) (key : Key) (start : ℤ) (sequence : ℕ) (before : Option ℤ)
    (samples : List ℤ) (kind : Kind) (size : ℕ) : Type 0 where
  pub time : BTime
  pub micros : ℕ
  pub frames : ℕ
  pub area : List ℕ
  pub power : IsRecordLength size
  pub split : IsSplit start time micros
  pub is_area : IsWrittenArea (storage_of kind) before samples (size - 64) frames area
  pub bytes_are : bytes ≡ header_bytes (header_for key time micros sequence
      (length samples) kind power.exponent frames) ++ area

-- the samples can be written as a record of that kind and size, with that sequence number
pub record CanWrite (key : Key) (start : ℤ) (sequence : ℕ) (before : Option ℤ) (samples : List ℤ) (kind : Kind)
    (size : ℕ) : Type 0 where
  pub quality : IsTrue (is_quality key.quality)
  pub normal : is_pending key.activity key.correction ≡ false
  pub instant : IsInstant start
  pub number : (1 ≤ sequence) × (sequence ≤ 999999)
  pub some : 1 ≤ length samples
  pub fits : Fits kind size (points before samples)

-- the sizes and the words are told of the groups of their differences, or it is not known what they are
pub record KnowsGroups (before : Option ℤ) (samples : List ℤ) (sizes words : List ℕ) : Type 0 where
  pub sizes_are : AreGroupSizesIfKnown (differences before samples) sizes
  pub words_are : AreGroupWordsIfKnown (differences before samples) sizes words

-- After the old bytes the new ones have the written record of these samples. Whatever follows it, it is read
-- as their row, and its reverse constant agrees.
pub record AppendsRecord (old new : List ℕ) (key : Key) (start : ℤ) (sequence : ℕ) (before : Option ℤ)
    (samples : List ℤ) (kind : Kind) (size : ℕ) : Type 0 where
  pub bytes : List ℕ
  pub joined : new ≡ old ++ bytes
  pub size_is : length bytes ≡ size
  pub written : IsWrittenRecord bytes key start sequence before samples kind size
  pub row : (rest : List ℕ) → IsRowOf (bytes ++ rest)
      (record { key = key; start = start; kind = kind; samples = samples })
  pub found : (rest : List ℕ) → IsInTime key.rate start (length samples)
      → IsRecordOf (bytes ++ rest) (record {
        length = size;
        row = Some (record { key = key; start = start; kind = kind; samples = samples });
        reverse_agrees = true;
      })

-- the fields of a key are as long and as wide as those of a header; neither part of the rate is 0
pub record IsKey (key : Key) : Type 0 where
  pub network : length key.network ≡ 2
  pub station : length key.station ≡ 5
  pub location : length key.location ≡ 2
  pub channel : length key.channel ≡ 3
  pub factor : FitsSigned w16 key.rate.factor
  pub multiplier : FitsSigned w16 key.rate.multiplier
  pub rate : (key.rate.factor ≢ pos 0) × (key.rate.multiplier ≢ pos 0)
  pub correction : FitsSigned w32 key.correction

-- a key that can be written
pub record IsWritableKey (key : Key) : Type 0 where
  pub is_key : IsKey key
  pub quality : IsTrue (is_quality key.quality)
  pub normal : is_pending key.activity key.correction ≡ false

-- each run that fits has a written record, after any bytes
abbrev pub RunHasRecord : Type 0
RunHasRecord =
    (old : List ℕ) (key : Key) (start : ℤ) (sequence : ℕ) (before : Option ℤ) (samples : List ℤ) (kind : Kind)
    (size : ℕ)
    → IsRecordLength size → IsWritableKey key → IsInstant start
    → 1 ≤ length samples → All (FitsSigned w32) samples → Fits kind size (points before samples)
    → (bytes : List ℕ) × AppendsRecord old (old ++ bytes) key start sequence before samples kind size
