-- What is known of the differences from some place on.
use Rattle.std.specs.Prelude.{◌≤◌, ℤ, List, length, drop}
use Rattle.msr_words.specs.declared.first_group.Following.{Following}
use Rattle.msr_words.specs.FirstGroup.{IsFewestGroups, IsSizeAt}

pub record IsFollowing (ds : List ℤ) (following : Following) : Type 0 where
  pub all_is : IsFewestGroups ds following.all
  pub one_is : 1 ≤ length ds → IsFewestGroups (drop 1 ds) following.one
  pub two_is : 2 ≤ length ds → IsFewestGroups (drop 2 ds) following.two
  pub three_is : 3 ≤ length ds → IsFewestGroups (drop 3 ds) following.three
  pub first_is : IsSizeAt ds 0 following.first
  pub second_is : IsSizeAt ds 1 following.second
  pub third_is : IsSizeAt ds 2 following.third
