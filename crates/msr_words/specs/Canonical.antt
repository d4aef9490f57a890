-- The one division of a record's differences that is written (a choice of this profile).
use Rattle.std.specs.Prelude.{◌≡◌, ◌≤◌, ℤ, List, [], ◌∷◌, length, ⊤}
use Rattle.msr_base.specs.declared.storage.Version.{Version}
use Rattle.msr_steim.specs.Area.{joined_groups}
use Rattle.msr_steim.specs.Word.{AreGroups}

-- at each group, no division of the differences from there on into as few groups begins with a longer one
abbrev pub BeginLongest : Version → List (List ℤ) → Type 0
BeginLongest version [] = ⊤
BeginLongest version (group ∷ groups) =
    ((other : List ℤ) (others : List (List ℤ)) → AreGroups version (other ∷ others)
    → joined_groups (other ∷ others) ≡ joined_groups (group ∷ groups) → length others ≤ length groups
    → length other ≤ length group)
    × BeginLongest version groups

-- these groups divide the differences, no division has fewer, and each group in turn is the longest with which there
-- are no more
pub record IsCanonicalDivision (version : Version) (groups : List (List ℤ)) (ds : List ℤ) : Type 0 where
  pub are_groups : AreGroups version groups
  pub join : joined_groups groups ≡ ds
  pub fewest : (others : List (List ℤ)) → AreGroups version others → joined_groups others ≡ ds
      → length groups ≤ length others
  pub longest : BeginLongest version groups
