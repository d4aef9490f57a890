-- Steim-1 words of two differences or one, by the sizes of a stretch of differences.
use Rattle.std.specs.Prelude.{◌≡◌, ◌<◌, ◌≤◌, ◌↔◌, ℕ, ◌+◌, ◌-◌, ◌^◌, ℤ, List, length, drop, get_or, None}
use Rattle.std.specs.Int.{bit_at}
use Rattle.msr_words.specs.declared.pairs.Pairs.{Pairs}
use Rattle.msr_words.specs.declared.pairs.Walk.{Walk}
use Rattle.msr_words.specs.Segment.{differences}
use Rattle.msr_words.specs.Steim1Reach.{IsSteim1Reach}

-- the bits that are set in a mask are those of the sizes below this limit
pub record AreBelow (sizes : List ℕ) (limit mask : ℕ) : Type 0 where
  pub each : (k : ℕ) → k < 64 → ((bit_at mask k ≡ 1) ↔ get_or sizes k 0 < limit)

-- Of 64 sizes each is of 32 bits, and no three that follow one another are of 8 bits. The bits of `both` say which are
-- of 16 bits together with the next, and those of `small` which are of 8 bits.
pub record ArePairs (sizes : List ℕ) (pairs : Pairs) : Type 0 where
  pub fit : (k : ℕ) → k < 64 → get_or sizes k 0 < 2 ^ 31
  pub both : (k : ℕ) → k < 63 → ((bit_at pairs.both k ≡ 1) ↔ (get_or sizes k 0 < 2 ^ 15) × (get_or sizes (k + 1) 0 < 2 ^ 15))
  pub small : AreBelow sizes 128 pairs.small
  pub mixed : (k : ℕ) → k < 62 → get_or sizes k 0 < 128 → get_or sizes (k + 1) 0 < 128
      → get_or sizes (k + 2) 0 < 128 → ⊥

-- the words of a walk from `start` on hold the samples before `at`, and no more
pub record HasWalked (samples : List ℤ) (start : ℕ) (walk : Walk) : Type 0 where
  pub from : start ≤ walk.at
  pub within : walk.at ≤ length samples
  pub reach : IsSteim1Reach walk.words (drop start (differences None samples)) (walk.at - start) walk.spare
