-- What was told of a folder up to its first entry, and what is known of an entry.
use Rattle.std.specs.Prelude.{◌≡◌, ◌<◌, ℕ, List, [], Option, None, Some}
use Rattle.msr_devices.specs.Device.{Device}
use Rattle.msr_tree.specs.Listing.{IsListing, IsTold, listed}
use Rattle.msr_tree.specs.Steps.{Path, Step}
use Rattle.msr_tree.specs.declared.kind.FileKind.{FileKind}
use Rattle.msr_tree.specs.declared.kind.FileKind.TheVariants.{Folder, Other}
use Rattle.msr_folders.specs.Entries.{AreEntries, AreOfEntry, ForEach, IsMoment, Visit}
use Rattle.msr_folders.specs.Paths.{below, joined}
use Rattle.msr_folders.specs.Walks.{TellsWalk}
use Rattle.msr_folders.specs.declared.opened.Opened.{Opened}

-- At a moment since, a folder had this list, and some of its entries were visited.
pub record AreSoFar (Since : (past at : List Step) → Type 0) (root : Path) (levels : ℕ) (folder : Path) (names taken : List Path)
    (past : List Step) (visits : List Visit) : Type 0 where
  pub at : List Step
  pub since : Since past at
  pub listing : IsListing at (joined root folder) names
  pub each : ForEach (λ name. AreOfEntry Since past root levels (below folder name)) taken visits

-- no entry was visited yet; or the folder has no list, or is left alone, and that was told
abbrev pub OpensFolder : {F L T : Type 0} → (Tells : List L → (out0 out : Device) → (tally0 tally : T) → Type 0)
    → (Says : (old new : List Step) → Visit → List L → Type 0) → (Does Between : (old new : List Step) → Type 0) → (Listless : Type 0) → (root : Path)
    → (levels : ℕ) → (folder : Path) → Option (Opened F) → (before after : List Step → Type 0) → (out0 out : Device) → (tally0 tally : T) → Type 0
OpensFolder Tells Says Does Between Listless root levels folder None before after out0 out tally0 tally =
    TellsWalk Tells Says Does Between Listless root (λ past new. AreEntries (IsMoment Does new) past root levels folder) before after out0 out tally0 tally
OpensFolder Tells Says Does Between Listless root levels folder (Some opened) before after out0 out tally0 tally =
    TellsWalk Tells Says Does Between Listless root (λ past new. AreSoFar (IsMoment Does new) root levels folder (listed opened.names.items) [] past) before after out0 out tally0 tally

-- What is known of an entry with so many levels of folders below: if there are none, nothing, and it is no folder.
pub record IsKindAt (went : List Step → Type 0) (place : Path) (levels : ℕ) (kind : FileKind) : Type 0 where
  pub some : kind ≡ Folder → 0 < levels
  pub none : levels ≡ 0 → kind ≡ Other
  pub told : 0 < levels → (past : List Step) → went past → IsTold past place kind
