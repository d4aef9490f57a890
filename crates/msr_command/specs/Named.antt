-- What the files have that a task names.
use Rattle.std.specs.Prelude.{◌≡◌, ◌⊎◌, ℕ, List, [], ◌∷◌, Option, None, Some, Result, Ok, Err}
use Rattle.std.specs.Borrow.{Bor}
use Rattle.msr_devices.specs.Device.{Device, HasLeft, unused}
use Rattle.msr_tree.specs.Calls.{Goes, Opens, PerhapsDone}
use Rattle.msr_tree.specs.Steps.{ChangesOnly, Made, Path, Step, now, seen}

-- The name leads to these bytes, after whichever steps there may have been.
pub record LeadsTo (went : List Step → Type 0) (name : Path) (bytes : List ℕ) : Type 0 where
  pub leads : (past : List Step) → went past → seen past name ≡ Some bytes

-- What can be read is what the name leads to.
pub record IsReaderOf (went : List Step → Type 0) (name : Path) (device : Device) : Type 0 where
  pub opens : (past : List Step) → went past → Opens name past device

-- The input with a name is what standard input has left, if the name is that of standard input, and else what the name
-- leads to.
pub record Comes (is_standard : Type 0) (went : List Step → Type 0) (name : Path) (standard : Device) (input : List ℕ) : Type 0
  where
    pub from_standard : is_standard → HasLeft standard input
    pub from_file : ¬ is_standard → LeadsTo went name input

-- what is opened to be written keeps what it had, and is made if nothing had its name
abbrev pub OpensUncut : Path → (old new : List Step) → Type 0
OpensUncut name old new = (new ≡ old) ⊎ ((now old name ≡ None) × (new ≡ Made name [] ∷ old))

-- it is cut to nothing, or perhaps if that fails
abbrev pub Cuts : {T E : Type 0} → Path → (T → Device) → Result T E → (old new : List Step) → Type 0
Cuts name device (Ok writer) old new = (new ≡ Made name [] ∷ old) × (device writer ≡ unused (Some []))
Cuts name device (Err why) old new = PerhapsDone (Made name []) old new

-- it keeps the bytes that its writer took
abbrev pub KeepsTaken : Path → Device → (old new : List Step) → Type 0
KeepsTaken name device old new = (bytes : List ℕ) × (device.bytes ≡ Some bytes) × (new ≡ Made name bytes ∷ old)

-- they are taken away, or it keeps them
abbrev pub Empties : Path → Device → (old new : List Step) → Type 0
Empties name device old new = (new ≡ Made name [] ∷ old) ⊎ KeepsTaken name device old new

-- The name leads to these bytes, and each other one to what it did.
pub record HasOnly (name : Path) (bytes : List ℕ) (old new : List Step) : Type 0 where
  pub has : seen new name ≡ Some bytes
  pub others : ChangesOnly (name ∷ []) old new

-- an output is open, with nothing in it
abbrev pub IsBlank : Path → Device → (old new : List Step) → Type 0
IsBlank name device old new = HasOnly name [] old new × (device ≡ unused (Some []))

-- it is, or it was not opened or not cut
abbrev pub MakesOutput : {T E : Type 0} → Path → (T → Device) → Result T E → (old new : List Step) → Type 0
MakesOutput name device (Ok writer) old new = IsBlank name (device writer) old new
MakesOutput name device (Err why) old new = ChangesOnly (name ∷ []) old new

-- the file that is asked for has what was written, and nothing else changed
abbrev pub GetsOutput : (before after : List Step → Type 0) → Option (Bor (List ℕ)) → (written : List ℕ) → Type 0
GetsOutput before after None written = Goes before after (λ old new. new ≡ old)
GetsOutput before after (Some name) written = Goes before after (HasOnly name.now written)

-- the report has its text, and nothing else changed
abbrev pub GetsReport : (before after : List Step → Type 0) → Path → (told : List ℕ) → Type 0
GetsReport before after name told = Goes before after (HasOnly name told)

-- the report stands empty, unless the system did not let it be emptied: then it has what was told
abbrev pub GetsNoReport : (before after : List Step → Type 0) → Path → (told : List ℕ) → Type 0
GetsNoReport before after name told =
    Goes before after (λ old new. HasOnly name [] old new ⊎ HasOnly name told old new)
