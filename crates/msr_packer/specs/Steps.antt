-- Steps from a frontier with records of some kinds.
use Rattle.std.specs.Prelude.{◌≡◌, ℕ, ◌+◌, ◌<◌, ◌≤◌, ◌⊎◌, ℤ, List, [], ◌∷◌, length, map, take}
use Rattle.msr_words.specs.Bounds.{IsEnd}
use Rattle.msr_words.specs.Fit.{Records, Fits, FitsAny, FitsIn, IsRun, rank}
use Rattle.msr_base.specs.declared.kinds.Kind.{Kind}
use Rattle.msr_base.specs.declared.kinds.Kind.TheVariants.{Int16, Int24, Int32, Steim1, Steim2}
use Rattle.msr_base.specs.Kinds.{IsChosen}
use Rattle.msr_words.specs.Groups.{AreGroupSizesIfKnown}
use Rattle.msr_words.specs.Packing.{IsStep}
use Rattle.msr_words.specs.Segment.{run_points}
use Rattle.msr_filling.specs.GroupWords.{AreGroupWords}
use Rattle.msr_packer.specs.declared.step.Ends.{Ends}
use Rattle.msr_packer.specs.declared.step.Steim1Step.{Steim1Step}
use Rattle.msr_packer.specs.declared.step.StepRun.{StepRun}
use Rattle.msr_packer.specs.declared.step.StepWithEnds.{StepWithEnds}

-- the kind is one of these
abbrev pub Among : List Kind → Kind → Type 0
Among [] kind = ⊥
Among (first ∷ kinds) kind = (kind ≡ first) ⊎ Among kinds kind

-- With those of the records that are of these kinds, the step reaches as far as any run that starts at or before the
-- frontier g, from the last start that does. A step of no samples is of a kind of the records, too.
pub record IsStepAmong (kinds : List Kind) (records : Records) (samples : List ℤ) (g : ℕ)
    (step : StepRun) : Type 0 where
  pub before : step.start ≤ g
  pub past : g ≤ step.end
  pub reached : IsRun (FitsIn step.kind records) samples step.start step.end
  pub still : step.end ≡ g → step.start ≡ g
  pub furthest : (kind : Kind) → Among kinds kind → (s b : ℕ) → s ≤ g → IsRun (FitsIn kind records) samples s b
      → b ≤ step.end
  pub last : (kind : Kind) → Among kinds kind → (s : ℕ) → s ≤ g → IsRun (FitsIn kind records) samples s step.end
      → s ≤ step.start

-- a step reaches at least as far as another, and starts no earlier if it reaches as far
pub record NotLess (step other : StepRun) : Type 0 where
  pub further : (other.end < step.end) ⊎ ((other.end ≡ step.end) × (other.start ≤ step.start))

-- it reaches further, or starts later and reaches as far
pub record IsBetter (step other : StepRun) : Type 0 where
  pub further : (other.end < step.end) ⊎ ((other.end ≡ step.end) × (other.start < step.start))

-- the greatest end of a run of that kind from the frontier g; g itself, if none of the records is of that kind
pub record IsEndIn (kind : Kind) (records : Records) (samples : List ℤ) (g end : ℕ) : Type 0 where
  pub fits : IsRun (Fits kind records.bytes) samples g end
  pub chosen : g < end → IsChosen records.kinds kind
  pub furthest : (b : ℕ) → IsRun (FitsIn kind records) samples g b → b ≤ end

-- the step with records of Steim-1 alone, and the greatest end of a run of that kind from the frontier g
pub record IsSteim1Step (records : Records) (samples : List ℤ) (g : ℕ) (found : Steim1Step) : Type 0 where
  pub step : IsStepAmong (Steim1 ∷ []) records samples g found.step
  pub end : IsEnd Steim1 records.bytes samples g found.end

-- of the runs of that kind that start at or before the frontier g, each ends at or before one of these ends
abbrev pub NonePast : Kind → Records → List ℤ → ℕ → ℕ → ℕ → Type 0
NonePast kind records samples g end other = (s b : ℕ) → s ≤ g → IsRun (FitsIn kind records) samples s b
    → (b ≤ end) ⊎ (b ≤ other)

-- the end of a run of each kind
abbrev pub end_of : Ends → Kind → ℕ
end_of ends Steim2 = ends.steim2
end_of ends Steim1 = ends.steim1
end_of ends Int16 = ends.int16
end_of ends Int24 = ends.int24
end_of ends Int32 = ends.int32

-- Runs of these kinds from the frontier g to their ends fit; one of a kind that no record is of ends there. If a step
-- reaches to `end`, a run from g to there, or to the sample before it, fits one of them only if it ends at or before the
-- end of that kind, or of one that is tried before it.
pub record AreEndsAmong (kinds : List Kind) (records : Records) (samples : List ℤ) (g end : ℕ)
    (ends : Ends) : Type 0 where
  pub fit : (kind : Kind) → Among kinds kind → IsRun (Fits kind records.bytes) samples g (end_of ends kind)
  pub chosen : (kind : Kind) → Among kinds kind → g < end_of ends kind → IsChosen records.kinds kind
  pub past : (kind : Kind) → Among kinds kind → (c : ℕ) → end ≤ c + 1 → IsRun (FitsIn kind records) samples g c
      → (other : Kind) × Among kinds other × IsChosen records.kinds other × (rank other ≤ rank kind)
      × (c ≤ end_of ends other)

-- the kinds of which records are longer than those of 24-bit integers can be
abbrev pub longer_kinds : List Kind
longer_kinds = Steim1 ∷ Int16 ∷ Steim2 ∷ []

abbrev pub every_kind : List Kind
every_kind = Int32 ∷ Int24 ∷ longer_kinds

abbrev pub AreEnds : Records → List ℤ → ℕ → ℕ → Ends → Type 0
AreEnds records samples g end ends = AreEndsAmong every_kind records samples g end ends

-- the step from the frontier g with any of the records, a kind that its run fits, and the ends that tell its kind when it
-- is cut
pub record IsFound (records : Records) (samples : List ℤ) (g : ℕ) (found : StepWithEnds) : Type 0 where
  pub step : IsStep (FitsAny records) samples g found.step.end found.step.start
  pub kind : IsRun (FitsIn found.step.kind records) samples found.step.start found.step.end
  pub ends : AreEnds records samples g found.step.end found.ends

-- the first `count` of these are the sizes and the words of the groups of the samples a to b-1; they are not known if it
-- is 0
pub record HaveSizes (samples : List ℤ) (a b count : ℕ) (sizes words : List ℕ) : Type 0 where
  pub room : count ≤ length sizes
  pub room_of_words : count ≤ length words
  pub are : AreGroupSizesIfKnown (map (λ p. p.1) (run_points samples a b)) (take count sizes)
  pub written : AreGroupWords (map (λ p. p.1) (run_points samples a b)) (take count sizes) (take count words)
