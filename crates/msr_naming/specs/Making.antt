-- A file in its making.
use Rattle.std.specs.Prelude.{◌≡◌, ℕ, Bool, true, List, [], ◌∷◌, Some}
use Rattle.msr_devices.specs.Device.{Device, unused}
use Rattle.msr_tree.specs.Folders.{ChangesFiles}
use Rattle.msr_tree.specs.Steps.{IsReady, Path, Step}

-- a file is begun, and has no bytes
abbrev pub IsBegun : {W : Type 0} → (W → Device) → (old new : List Step) → W → Type 0
IsBegun device old new writer = device writer ≡ unused (Some [])

-- A name leads to a file with the bytes that its writer took, and these are on the disk.
pub record LeadsToTaken (path : Path) (writer : Device) (past : List Step) : Type 0 where
  pub bytes : List ℕ
  pub took : writer.bytes ≡ Some bytes
  pub has : IsReady path bytes past

-- At this answer a name leads to a file with this text, which is on the disk.
pub record WritesText (path : Path) (text : List ℕ) (answer : Bool) (old new : List Step) : Type 0 where
  pub changes : ChangesFiles (path ∷ []) old new
  pub ready : answer ≡ true → IsReady path text new
