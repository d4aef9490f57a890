-- What is counted of the rows of an input.
use Rattle.std.specs.Prelude.{◌≡◌, ℕ, ◌+◌, ◌-◌, ◌<◌, ◌^◌, max, length, ℤ}
use Rattle.msr_time.specs.SampleRate.{SampleRate}
use Rattle.msr_rows.specs.declared.row.Row.{Row}
use Rattle.msr_segments.specs.declared.follow.Step.{Step}
use Rattle.msr_segments.specs.declared.follow.Step.TheVariants.{Begins, Joins}
use Rattle.msr_compare.specs.declared.tally.RowTally.{RowTally}
use Rattle.msr_compare.specs.Moves.{IsDistance}

-- this number is the distance, if it fits 64 bits
pub record TellsDistance (rate : SampleRate) (t0 : ℤ) (n : ℕ) (t : ℤ) (told : ℕ) : Type 0 where
  pub micros : ℕ
  pub is_distance : IsDistance rate t0 n t micros
  pub told_is : micros < 2 ^ 64 → told ≡ micros

-- the row's samples are counted, as long as the count fits
abbrev pub CountsSamples : RowTally → Row → RowTally → Type 0
CountsSamples old row new =
    old.samples + length row.samples < 2 ^ 128 → new.samples ≡ old.samples + length row.samples

-- a row begins a segment
pub record TalliesBeginning (old : RowTally) (row : Row) (new : RowTally) : Type 0 where
  pub start : new.start ≡ row.start
  pub count : new.count ≡ length row.samples
  pub segments : old.segments < 2 ^ 64 - 1 → new.segments ≡ old.segments + 1
  pub samples : CountsSamples old row new
  pub moved : new.moved ≡ old.moved

-- a row joins the segment that was begun last
pub record TalliesJoining (old : RowTally) (row : Row) (new : RowTally) : Type 0 where
  pub start : new.start ≡ old.start
  pub count : old.count + length row.samples < 2 ^ 64 → new.count ≡ old.count + length row.samples
  pub segments : new.segments ≡ old.segments
  pub samples : CountsSamples old row new
  pub distance : ℕ
  pub tells : TellsDistance row.key.rate old.start old.count row.start distance
  pub moved : new.moved ≡ max old.moved distance

abbrev pub TalliesRow : Step → RowTally → Row → RowTally → Type 0
TalliesRow Begins old row new = TalliesBeginning old row new
TalliesRow Joins old row new = TalliesJoining old row new
