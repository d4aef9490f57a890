-- What a tree in memory has done.
use Rattle.std.specs.Prelude.{◌≡◌, ◌⊎◌, Bool, true, false, List, Option, None, Some, bytes_eq, map, reverse, string_bytes}
use Rattle.msr_tree.specs.Listing.{IsEntryName, is_there, path_in}
use Rattle.msr_tree.specs.Steps.{Failed, File, FileStored, FolderMade, FolderStored, IsAtRest, Linked, Made, MayLeave, Path, Removed, Renamed, Step, Unlisted, seen, stands_in}
use Rattle.msr_tree.specs.declared.memory.deed.Deed.{Deed}
use Rattle.msr_tree.specs.declared.memory.deed.Deed.TheVariants as deed
use Rattle.msr_tree.specs.declared.memory.deeds.Found.{Found}

abbrev pub step_of : Deed → Step
step_of (deed.Made at bytes) = Made (string_bytes at) bytes.items
step_of (deed.Linked from to) = Linked (string_bytes from) (string_bytes to)
step_of (deed.Renamed from to) = Renamed (string_bytes from) (string_bytes to)
step_of (deed.Removed at) = Removed (string_bytes at)
step_of (deed.FileStored at) = FileStored (string_bytes at)
step_of (deed.FolderStored at) = FolderStored (string_bytes at)
step_of (deed.FolderMade at) = FolderMade (string_bytes at)
step_of (deed.Unlisted at) = Unlisted (string_bytes at)
step_of deed.Failed = Failed

-- it keeps the last step at the end
abbrev pub steps_kept : List Deed → List Step
steps_kept deeds = reverse (map step_of deeds)

abbrev pub file_of : Found → File
file_of found = record { bytes = found.bytes.now; made = found.made }

-- a step that stores the folder of a name
abbrev pub settles : Step → Path → Bool
settles (FolderStored at) name = stands_in at name
settles step name = false

-- the name that gets a file
abbrev pub target_of : Step → Option Path
target_of (Made at bytes) = Some at
target_of (Linked from to) = Some to
target_of (Renamed from to) = Some to
target_of step = None

-- the name that gets a file or a folder
abbrev pub made_at : Step → Option Path
made_at (FolderMade at) = Some at
made_at step = target_of step

-- A step gave this name in a folder to something that is still there after all of them.
pub record IsEntryOf (past : List Step) (folder : Path) (step : Step) (name : Path) : Type 0 where
  pub proper : IsEntryName name
  pub place : made_at step ≡ Some (path_in folder name)
  pub there : is_there past (path_in folder name) ≡ true

-- A name is given what a crash may leave under it, and the others stay.
pub record LeavesName (name : Path) (past old new : List Step) : Type 0 where
  pub left : MayLeave past name (seen new name) ⊎ ((new ≡ old) × MayLeave past name None)
  pub others : (other : Path) → bytes_eq other name ≡ false → seen new other ≡ seen old other
  pub rest : IsAtRest old → IsAtRest new
