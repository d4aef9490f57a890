-- Each run that fits has a written record.
use Rattle.std.proofs.Common.{◌≡◌, ℕ, ◌-◌, ◌*◌, ◌/◌, ◌%◌, ◌^◌, ◌<◌, ◌≤◌, false, ℤ, pos, List, ◌++◌, length, refl, arith, Option, IsTrue, length-append, FitsSigned}
use Rattle.std.specs.Prelude.{All, replicate, slice_index_or}
use Rattle.std.specs.Int.{w32}
use Rattle.std.proofs.lemmas.Int.{ints}
use Rattle.std.proofs.lemmas.List.{length-replicate}
use Rattle.std.proofs.lemmas.List.Elements.{All-get_or}
use Rattle.msr_time.specs.declared.btime.BTime.{BTime}
use Rattle.msr_time.specs.Instant.{IsInstant}
use Rattle.msr_time.proofs.Existing.{has_split}
use Rattle.msr_header.specs.Reading.{is_quality}
use Rattle.msr_header.specs.Writing.{header_bytes}
use Rattle.msr_header.specs.declared.header.Header.{Header}
use Rattle.msr_base.specs.declared.order.Order.TheVariants.{Big}
use Rattle.msr_header.proofs.WrittenLemmas.{HasLengths, HasRanges, header_length, reads_back}
use Rattle.msr_base.specs.declared.storage.Width.{Width}
use Rattle.msr_base.specs.Storage.{size_of, storage_of}
use Rattle.msr_plain.specs.Plain.{CarriesPlain, FitsWidth, bytes_of_all}
use Rattle.msr_plain.proofs.CarriedLemmas.{carried, length-bytes_of_all}
use Rattle.msr_base.specs.declared.storage.Version.{Version}
use Rattle.msr_steim.specs.Area.{CarriesSteim, ReverseAgrees as FramesAgree}
use Rattle.msr_steim.specs.Frames.{frame_bytes}
use Rattle.msr_steim.proofs.Filled.{length-frame_bytes}
use Rattle.msr_words.specs.Canonical.{IsCanonicalDivision}
use Rattle.msr_words.specs.Division.{CanDivide}
use Rattle.msr_words.specs.Fit.{Fits, HasRoom}
use Rattle.msr_base.specs.RecordLength.{IsRecordLength, words_of}
use Rattle.msr_words.specs.Segment.{differences, points}
use Rattle.msr_base.specs.declared.kinds.Kind.{Kind}
use Rattle.msr_base.specs.declared.storage.Storage.{Storage}
use Rattle.msr_base.specs.declared.storage.Storage.TheVariants.{Integers, Frames}
use Rattle.msr_words.proofs.DivisionsExist.{has_division}
use Rattle.msr_rows.specs.Area.{Carries, ReverseAgreesIfAny}
use Rattle.msr_rows.specs.Correction.{is_pending}
use Rattle.msr_record.specs.Written.{AppendsRecord, AreFrames, AreNumbers, IsKey, IsWrittenArea, frame_count, header_for}
use Rattle.msr_rows.specs.declared.row.Key.{Key}
use Rattle.msr_record.proofs.AreaLemmas.{few_samples, frames_carry, frames_end, room_for, room_left, samples_fit, whole_frames}
use Rattle.msr_record.proofs.WritingLemmas.{appends_record}

-- ---- the data area

record HasNumbers (width : Width) (samples : List ℤ) (size : ℕ) : Type 0 where
  area : List ℕ
  are : AreNumbers width samples size 0 area
  long : length area ≡ size
  carries : CarriesPlain width Big area samples

numbers_of : (width : Width) (samples : List ℤ) (size : ℕ) → All (FitsWidth width) samples
    → size_of width * length samples ≤ size → HasNumbers width samples size
numbers_of width samples size fit room =
    let rest = replicate (size - size_of width * length samples) 0 in
    record {
      area = bytes_of_all width samples ++ rest;
      are = record { bytes_are = refl; frames_are = refl };
      long = omega (
        arith,
        length-append
            (bytes_of_all width samples) rest,
        length-bytes_of_all width samples,
        length-replicate {A = ℕ}
            (size - size_of width * length samples) 0,
      );
      carries = carried width (bytes_of_all width samples ++ rest) samples rest fit refl;
    }

-- the groups of the canonical division are no more than the words that can hold the differences
chosen_few : (version : Version) (words : ℕ) (ds : List ℤ) (groups : List (List ℤ))
    → IsCanonicalDivision version groups ds → CanDivide version words ds → length groups ≤ words
chosen_few version words ds groups chosen can = omega (arith, chosen.fewest can.groups can.are_groups can.join, can.few)

record HasFrames (version : Version) (before : Option ℤ) (samples : List ℤ) (size : ℕ) : Type 0 where
  frames : ℕ
  area : List ℕ
  are : AreFrames version before samples size frames area
  long : length area ≡ size
  carries : CarriesSteim version Big area samples
  agrees : FramesAgree Big area samples

frames_of : (version : Version) (before : Option ℤ) (samples : List ℤ) (size : ℕ) → IsRecordLength size
    → 1 ≤ length samples → All (FitsSigned w32) samples
    → CanDivide version (words_of size) (differences before samples) → HasFrames version before samples (size - 64)
frames_of version before samples size power some fit can =
    let ds = differences before samples in
    let d = has_division version (words_of size) ds can in
    let whole = whole_frames power.exponent power.least power.most in
    let few = chosen_few version (words_of size) ds d.groups d.canonical can in
    let room = room_for size power.exponent size (length d.groups) power.power refl power.least power.most few in
    let count = (size - 64) / 64 in
    let first_fits : FitsSigned w32 (slice_index_or samples 0 (pos 0)) =
    All-get_or (FitsSigned w32) samples 0 (pos 0) (omega arith) fit in
    let last_fits : FitsSigned w32 (slice_index_or samples (length samples - 1) (pos 0)) =
    All-get_or (FitsSigned w32) samples (length samples - 1) (pos 0) (omega arith) fit in
    let area = frame_bytes version (slice_index_or samples 0 (pos 0))
    (slice_index_or samples (length samples - 1) (pos 0)) d.groups count in
    let long : length area ≡ 64 * count = length-frame_bytes version (slice_index_or samples 0 (pos 0))
    (slice_index_or samples (length samples - 1) (pos 0)) d.groups count in
    let even : (size - 64) % 64 ≡ 0 = rw power.power whole.0 in
    record {
      frames = frame_count (length d.groups);
      area = area;
      are = record { groups = d.groups; canonical = d.canonical; bytes_are = refl; frames_are = refl };
      long = omega (arith, long, even);
      carries = frames_carry version before samples d.groups count area d.canonical.are_groups d.canonical.join
          room fit last_fits refl;
      agrees = frames_end version samples d.groups count area some d.canonical.are_groups
          (omega (arith, room)) first_fits last_fits refl;
    }

record HasArea (storage : Storage) (before : Option ℤ) (samples : List ℤ) (size : ℕ) : Type 0 where
  frames : ℕ
  area : List ℕ
  is_area : IsWrittenArea storage before samples size frames area
  long : length area ≡ size
  carries : Carries storage Big area samples
  agrees : ReverseAgreesIfAny storage Big area samples

area_of : (storage : Storage) (before : Option ℤ) (samples : List ℤ) (size : ℕ) → IsRecordLength size
    → 1 ≤ length samples → All (FitsSigned w32) samples → HasRoom storage size (points before samples)
    → HasArea storage before samples (size - 64)
area_of (Integers width) before samples size power some fit room =
    let n = numbers_of width samples (size - 64) (samples_fit width before samples fit room.0)
    (room_left width size before samples room.1) in
    record { frames = 0; area = n.area; is_area = n.are; long = n.long; carries = n.carries; agrees = tt }
area_of (Frames version) before samples size power some fit room =
    let f = frames_of version before samples size power some fit room in
    record { frames = f.frames; area = f.area; is_area = f.are; long = f.long; carries = f.carries; agrees = f.agrees }

-- ---- the header

module _ (key : Key) (time : BTime) (micros sequence count : ℕ) (kind : Kind) (exponent frames : ℕ)
    (is_key : IsKey key) where
  lengths : HasLengths (header_for key time micros sequence count kind exponent frames)
  lengths = record {
    sequence = refl;
    station = is_key.station;
    location = is_key.location;
    channel = is_key.channel;
    network = is_key.network;
  }

  ranges : count < 2 ^ 16 → micros < 100 → HasRanges (header_for key time micros sequence count kind exponent frames)
  ranges few below = record {
    samples = few;
    factor = is_key.factor;
    multiplier = is_key.multiplier;
    correction = is_key.correction;
    micros = omega (arith, ints, below);
  }

-- ---- the record

pub record HasRecord (old : List ℕ) (key : Key) (start : ℤ) (sequence : ℕ) (before : Option ℤ) (samples : List ℤ)
    (kind : Kind) (size : ℕ) : Type 0 where
  pub bytes : List ℕ
  pub appended : AppendsRecord old (old ++ bytes) key start sequence before samples kind size

pub has_record : (old : List ℕ) (key : Key) (start : ℤ) (sequence : ℕ) (before : Option ℤ) (samples : List ℤ)
    (kind : Kind) (size : ℕ) → IsRecordLength size → IsKey key
    → IsTrue (is_quality key.quality) → is_pending key.activity key.correction ≡ false → IsInstant start
    → 1 ≤ length samples → All (FitsSigned w32) samples
    → Fits kind size (points before samples) → HasRecord old key start sequence before samples kind size
has_record old key start sequence before samples kind size power is_key quality normal instant some fit fits =
    let s = has_split start instant in
    let a = area_of (storage_of kind) before samples size power some fit fits.1 in
    let few = few_samples kind size before samples fits in
    let h : Header = header_for key s.time s.micros sequence (length samples) kind power.exponent a.frames in
    record {
      bytes = header_bytes h ++ a.area;
      appended = appends_record old (old ++ (header_bytes h ++ a.area))
          (header_bytes h) a.area key start sequence before samples kind size power.exponent a.frames s.time
          s.micros (length samples)
          refl refl refl (header_length h (lengths key s.time s.micros sequence
          (length samples) kind power.exponent a.frames is_key)) a.is_area a.long
          (λ rest w room. reads_back h rest (lengths key s.time s.micros sequence
          (length samples) kind power.exponent a.frames is_key) (ranges key s.time s.micros sequence
          (length samples) kind power.exponent a.frames is_key few s.split.below) w room)
          a.carries a.agrees s.split power.power power.least power.most quality normal some is_key.rate;
    }
