-- How the size of the next group is found when the words of a run are written.
use Rattle.std.specs.Prelude.{◌≡◌, ℕ, ℤ, List, drop}
use Rattle.msr_base.specs.declared.storage.Version.{Version}
use Rattle.msr_base.specs.declared.storage.Version.TheVariants.{One, Two}
use Rattle.msr_words.specs.Bounds.{BeginsWithFour}
use Rattle.msr_filling.specs.declared.frames.Sizing.{Sizing}
use Rattle.msr_filling.specs.declared.frames.Sizing.TheVariants.{Ahead, Given, Longest}

-- the version of the words
abbrev pub version_of : Sizing → Version
version_of Longest = Two
version_of Ahead = One
version_of Given = One

-- the differences ahead do not tell each size: four in a row are of 8 bits
pub record IsUntold (sizing : Sizing) (ds : List ℤ) : Type 0 where
  pub ahead : sizing ≡ Ahead
  pub place : ℕ
  pub four : BeginsWithFour (drop place ds)
