-- The time correction of a record in normal form, and the start and the key that it leads to (SEED 2.4,
-- fixed section of data header, fields 12 and 16; blockette 1001).
use Rattle.std.specs.Prelude.{ℕ, ◌==◌, Bool, not, ◌&&◌, if◌then◌else◌, ℤ, pos, ◌+ℤ◌, ◌*ℤ◌, bit_and, bit_or, unwrap_or}
use Rattle.std.specs.Ordering.{int_eq}
use Rattle.msr_time.specs.Instant.{instant_of}
use Rattle.msr_header.specs.declared.header.Header.{Header}
use Rattle.msr_header.specs.Writing.{no_timing}
use Rattle.msr_rows.specs.declared.row.Key.{Key}

-- a correction that is not 0 and was not applied to the start: activity bit 1 (value 2) is clear
abbrev pub is_pending : ℕ → ℤ → Bool
is_pending activity correction = (bit_and activity 2 == 0) && not (int_eq correction (pos 0))

-- the activity flags after a pending correction was applied
abbrev pub activity_of : ℕ → ℤ → ℕ
activity_of activity correction = if is_pending activity correction then bit_or activity 2 else activity

-- by how many microseconds a pending correction moves the start; its unit is 100 µs
abbrev pub correction_micros : ℕ → ℤ → ℤ
correction_micros activity correction =
    if is_pending activity correction then pos 100 *ℤ correction else pos 0

-- the instant of a record's first sample, with the microseconds of blockette 1001 if there is one
abbrev pub start_of : Header → ℤ
start_of h =
    (instant_of h.time +ℤ (unwrap_or h.timing no_timing).micros) +ℤ correction_micros h.activity h.correction

-- the key of a record; its timing quality is 0 if there is no blockette 1001
abbrev pub key_of : Header → Key
key_of h = record {
  network = h.network;
  station = h.station;
  location = h.location;
  channel = h.channel;
  quality = h.quality;
  rate = record { factor = h.factor; multiplier = h.multiplier };
  activity = activity_of h.activity h.correction;
  clock = h.clock;
  data_quality = h.data_quality;
  correction = h.correction;
  timing = (unwrap_or h.timing no_timing).quality;
}
