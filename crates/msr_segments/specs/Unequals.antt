-- Where the samples of two segments first differ.
use Rattle.std.specs.Prelude.{◌≡◌, ◌≢◌, ℕ, List, ◌∷◌, ◌++◌, length, ℤ}
use Rattle.msr_segments.specs.declared.unequal.Unequal.{Unequal}

-- two lists of samples differ first at that place
pub record UnequalAt (ones others : List ℤ) (at : ℕ) (one other : ℤ) : Type 0 where
  pub front : List ℤ
  pub ones_after : List ℤ
  pub others_after : List ℤ
  pub ones_are : ones ≡ front ++ one ∷ ones_after
  pub others_are : others ≡ front ++ other ∷ others_after
  pub at_is : at ≡ length front
  pub differ : one ≢ other

-- these are the first two
abbrev pub UnequalIn : List ℤ → List ℤ → Unequal → Type 0
UnequalIn ones others unequal = UnequalAt ones others unequal.at unequal.one unequal.other
