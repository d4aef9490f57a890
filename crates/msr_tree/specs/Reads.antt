-- What is done by who only reads.
use Rattle.std.specs.Prelude.{◌≡◌, List, [], ◌∷◌, ◌++◌}
use Rattle.msr_tree.specs.Steps.{Failed, Step, Unlisted}

-- calls that failed, some of them where a folder was to be listed
abbrev pub AreReads : List Step → Type 0
AreReads [] = Unit {0}
AreReads (Failed ∷ made) = AreReads made
AreReads (Unlisted folder ∷ made) = AreReads made
AreReads (step ∷ made) = ⊥

-- Nothing was changed.
pub record OnlyReads (old new : List Step) : Type 0 where
  pub made : List Step
  pub since : new ≡ made ++ old
  pub are : AreReads made

abbrev pub AreFailures : List Step → Type 0
AreFailures [] = Unit {0}
AreFailures (Failed ∷ made) = AreFailures made
AreFailures (step ∷ made) = ⊥

-- Nothing was changed, and no folder listed.
pub record OnlyLooks (old new : List Step) : Type 0 where
  pub made : List Step
  pub since : new ≡ made ++ old
  pub are : AreFailures made
