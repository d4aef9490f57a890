-- Which differences fit a given number of words of a Steim record (SEED 2.4, appendix B).
use Rattle.std.specs.Prelude.{◌≡◌, ◌≤◌, ℕ, ℤ, List, length, flat_map}
use Rattle.msr_base.specs.declared.storage.Version.{Version}
use Rattle.msr_steim.specs.Word.{AreGroups}

-- the differences can be divided into at most `words` groups
pub record CanDivide (version : Version) (words : ℕ) (differences : List ℤ) : Type 0 where
  pub groups : List (List ℤ)
  pub are_groups : AreGroups version groups
  pub join : flat_map (λ group. group) groups ≡ differences
  pub few : length groups ≤ words
