-- The ways to a folder of days, and what is done with it before its days are worked on.
use Rattle.std.specs.Prelude.{◌<◌, ◌≡◌, ◌⊎◌, ◌||◌, ℕ, Bool, true, false, List, [], None, Some, Option, option_map, Result, IfOk, IsErrOf}
use Rattle.std.specs.List.{All}
use Rattle.msr_folders.specs.Paths.{folder_of, joined}
use Rattle.msr_tree.specs.Calls.{Looks}
use Rattle.msr_tree.specs.Steps.{ChangesOnly, Path, Step, failures, now}
use Rattle.msr_tree.specs.declared.facts.Facts.{Facts}
use Rattle.msr_tree.specs.declared.facts.Kind.{Kind}
use Rattle.msr_tree.specs.declared.facts.Kind.TheVariants.{Regular, Folder, Link, Other}
use Rattle.msr_tree.specs.declared.tree.TreeFault.{TreeFault}
use Rattle.msr_tree.specs.declared.tree.TreeFault.TheVariants.{Failed}
use Rattle.msr_exchange.specs.Stamped.{all_parts_in}
use Rattle.msr_exchange.specs.Work.{parts_in}
use Rattle.msr_exchange.specs.declared.work.DayWork.{DayWork}
use Rattle.msr_replace.specs.declared.ways.Way.{Way}
use Rattle.msr_replace.specs.declared.ways.Way.TheVariants as way
use Rattle.msr_replace.specs.declared.ways.Ways.{Ways}

-- a look finds this under a name, or nothing
abbrev pub IsKindFound : Path → List Step → Option Kind → Type 0
IsKindFound path past kind = (facts : Option Facts) × Looks path past facts × (kind ≡ option_map (λ found. found.kind) facts)

-- what names lead to, by what the last of them does, if those before lead so
abbrev pub further : Way → Option Kind → Way
further so (Some Folder) = so
further so (Some Regular) = way.Odd
further so (Some Link) = way.Odd
further so (Some Other) = way.Odd
further way.Straight None = way.Ends
further way.Ends None = way.Ends
further way.Odd None = way.Odd

-- This is the way from `top` to a folder of days: what looks find under its name and under those above it.
pub record IsWay (top folder : Path) (past : List Step) (so : Way) : Type 0 where
  pub year : Option Kind
  pub network : Option Kind
  pub station : Option Kind
  pub channel : Option Kind
  pub year_is : IsKindFound (joined top (folder_of (folder_of (folder_of folder)))) past year
  pub network_is : IsKindFound (joined top (folder_of (folder_of folder))) past network
  pub station_is : IsKindFound (joined top (folder_of folder)) past station
  pub channel_is : IsKindFound (joined top folder) past channel
  pub is : so ≡ further (further (further (further way.Straight year) network) station) channel

-- These are the ways to a folder of days.
pub record AreWays (work : DayWork) (folder : Path) (past : List Step) (ways : Ways) : Type 0 where
  pub root : IsWay work.root.now folder past ways.root
  pub out : IsWay work.out.now folder past ways.out
  pub aside : IsWay work.aside.now folder past ways.aside

abbrev pub is_odd : Way → Bool
is_odd way.Straight = false
is_odd way.Ends = false
is_odd way.Odd = true

-- a link, or what is no folder, is on one of them
abbrev pub have_links : Ways → Bool
have_links ways = is_odd ways.root || is_odd ways.out || is_odd ways.aside

abbrev pub is_straight : Way → Bool
is_straight way.Straight = true
is_straight way.Ends = false
is_straight way.Odd = false

-- whether originals get back into ROOT on these ways: if there are any, the folder is there
abbrev pub goes_back : (root aside : Way) → Bool
goes_back root way.Straight = is_straight root
goes_back root way.Ends = true
goes_back root way.Odd = false

-- the answer is whether originals that ASIDE has in a folder can get back into ROOT
abbrev pub LeadsBack : DayWork → (folder : Path) → (past : List Step) → Bool → Type 0
LeadsBack work folder past answer = (ways : Ways) × AreWays work folder past ways × (answer ≡ goes_back ways.root ways.aside)

-- No other names change, and no name that led to nothing leads to a file.
pub record RemovesOnly (names : List Path) (old new : List Step) : Type 0 where
  pub changes : ChangesOnly names old new
  pub none_given : (name : Path) → now old name ≡ None → now new name ≡ None

-- the names of what is in a folder's making lead to nothing; or none has changed, for a link is on the way
abbrev pub AreCleared : DayWork → (folder : Path) → (old new : List Step) → Type 0
AreCleared work folder old new =
    ((ways : Ways) × AreWays work folder old ways × (have_links ways ≡ true) × ChangesOnly [] old new) ⊎ All (λ name. now new name ≡ None) (parts_in work folder)

-- Only the names of what is in its making change. It is told that the tree failed only if a call has failed. If an answer is
-- given, it is whether originals can get back, and what was in the making is gone.
pub record BeginsFolder (work : DayWork) (folder : List ℕ) (result : Result Bool TreeFault) (old new : List Step) : Type 0 where
  pub changes : ChangesOnly (all_parts_in work folder) old new
  pub cause : IsErrOf result Failed → failures old < failures new
  pub leads : IfOk result (LeadsBack work folder old)
  pub cleared : IfOk result (λ answer. AreCleared work folder old new)
