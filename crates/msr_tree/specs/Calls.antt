-- What one call does.
use Rattle.std.specs.Prelude.{◌<◌, IsErrOf, ◌≡◌, ◌≢◌, ◌⊎◌, ℕ, Bool, true, false, List, [], ◌∷◌, ◌++◌, Option, None, Some, Result, Ok, Err, IsSome, IsSomeAnd, length}
use Rattle.msr_devices.specs.Device.{Device, unused}
use Rattle.msr_tree.specs.Steps.{Failed, File, FileStored, FolderMade, FolderStored, Linked, Made, Path, Renamed, Step, failures, now, seen}
use Rattle.msr_tree.specs.declared.tree.TreeFault.{TreeFault}
use Rattle.msr_tree.specs.declared.tree.TreeFault.TheVariants as fault
use Rattle.msr_tree.specs.declared.facts.Facts.{Facts}
use Rattle.msr_tree.specs.declared.facts.Kind.TheVariants as kind

-- If the steps after a call may be these, those before it may be some of which R tells these.
pub record Goes (before after : List Step → Type 0) (R : (old new : List Step) → Type 0) : Type 0 where
  pub from : (new : List Step) → after new → (old : List Step) × before old × R old new

-- a call that stops: a failure is noted, and memory is refused before anything is done
abbrev pub Stops : TreeFault → (List Step → Type 0) → List Step → List Step → Type 0
Stops fault.Memory Left old new = new ≡ old
Stops fault.Failed Left old new = (left : List Step) × Left left × (new ≡ Failed ∷ left)

-- nothing, or this step
abbrev pub PerhapsDone : Step → (old left : List Step) → Type 0
PerhapsDone step old left = (left ≡ old) ⊎ (left ≡ step ∷ old)

-- a call that succeeds has done its step, and one that fails may have
abbrev pub DoesStep : {T : Type 0} → Step → Result T TreeFault → (old new : List Step) → Type 0
DoesStep step (Ok x) old new = new ≡ step ∷ old
DoesStep step (Err why) old new = Stops why (PerhapsDone step old) old new

-- a call that changes nothing, and what its answer says
abbrev pub Tells : {T : Type 0} → (List Step → T → Type 0) → Result T TreeFault → (old new : List Step) → Type 0
Tells Says (Ok x) old new = (new ≡ old) × Says old x
Tells Says (Err why) old new = Stops why (λ left. left ≡ old) old new

-- a link, or a copy, which is whole if the call succeeds, and else may have any bytes
abbrev pub Copied : (from to : Path) → (old left : List Step) → Type 0
Copied from to old left = (left ≡ Linked from to ∷ old) ⊎ ((bytes : List ℕ) × (seen old from ≡ Some bytes) × (left ≡ Made to bytes ∷ old))

abbrev pub BeginsCopy : (from to : Path) → (old left : List Step) → Type 0
BeginsCopy from to old left = (left ≡ Linked from to ∷ old) ⊎ ((bytes : List ℕ) × (left ≡ Made to bytes ∷ old))

-- a name that a file has stays its own
abbrev pub PerhapsCopied : (from to : Path) → (old left : List Step) → Type 0
PerhapsCopied from to old left = (left ≡ old) ⊎ ((now old to ≡ None) × BeginsCopy from to old left)

abbrev pub Copies : {T : Type 0} → (from to : Path) → Result T TreeFault → (old new : List Step) → Type 0
Copies from to (Ok x) old new = (now old to ≡ None) × IsSome (now old from) × Copied from to old new
Copies from to (Err why) old new = Stops why (PerhapsCopied from to old) old new

-- a file gets a name that none has, or it is told that one has it
abbrev pub RenamesNew : (from to : Path) → Result Bool TreeFault → (old new : List Step) → Type 0
RenamesNew from to (Ok true) old new = (now old to ≡ None) × (new ≡ Renamed from to ∷ old)
RenamesNew from to (Ok false) old new = new ≡ old
RenamesNew from to (Err why) old new =
    Stops why (λ left. (left ≡ old) ⊎ ((now old to ≡ None) × ((left ≡ Renamed from to ∷ old) ⊎ (left ≡ Linked from to ∷ old)))) old new

-- no name of a file changes
abbrev pub AreOfFolders : List Step → Type 0
AreOfFolders [] = Unit {0}
AreOfFolders (FolderMade folder ∷ made) = AreOfFolders made
AreOfFolders (FolderStored folder ∷ made) = AreOfFolders made
AreOfFolders (Failed ∷ made) = AreOfFolders made
AreOfFolders (step ∷ made) = ⊥

-- Folders are made and stored.
pub record MakesFolders {T : Type 0} (result : Result T TreeFault) (old new : List Step) : Type 0 where
  pub made : List Step
  pub since : new ≡ made ++ old
  pub are : AreOfFolders made
  pub cause : IsErrOf result fault.Failed → failures old < failures new

-- what a look says of what stands under a name: a regular file has so many bytes, and what is none has none to read
pub record IsFoundAs (path : Path) (past : List Step) (facts : Facts) : Type 0 where
  pub regular : facts.kind ≡ kind.Regular → IsSomeAnd (now past path) (λ file. facts.bytes ≡ length file.bytes)
  pub other : facts.kind ≢ kind.Regular → now past path ≡ None

abbrev pub Looks : Path → List Step → Option Facts → Type 0
Looks path past None = now past path ≡ None
Looks path past (Some facts) = IsFoundAs path past facts

-- both have bytes, and the answer is whether these are the same
pub record IsSameAs (one other : Path) (past : List Step) (same : Bool) : Type 0 where
  pub has_one : IsSome (now past one)
  pub has_other : IsSome (now past other)
  pub yes : same ≡ true → seen past one ≡ seen past other
  pub no : same ≡ false → seen past one ≢ seen past other

-- both names lead to one file
abbrev pub AreOneFile : (one other : Path) → List Step → Type 0
AreOneFile one other past = (file : File) × (now past one ≡ Some file) × (now past other ≡ Some file)

-- the answer is whether they do
pub record TellsOneFile (one other : Path) (past : List Step) (answer : Bool) : Type 0 where
  pub yes : answer ≡ true → AreOneFile one other past
  pub no : answer ≡ false → ¬ (AreOneFile one other past)

-- what can be read is what the name leads to
abbrev pub Opens : Path → List Step → Device → Type 0
Opens path past device = (bytes : List ℕ) × (seen past path ≡ Some bytes) × (device ≡ unused (Some bytes))

-- a file is begun under a name that none has; it has no bytes
abbrev pub Begins : {T : Type 0} → Path → (T → Device) → Result T TreeFault → (old new : List Step) → Type 0
Begins path device (Ok writer) old new = (now old path ≡ None) × (new ≡ Made path [] ∷ old) × (device writer ≡ unused (Some []))
Begins path device (Err why) old new = Stops why (PerhapsDone (Made path []) old) old new

-- it gets the bytes that its writer took
abbrev pub Finishes : {T : Type 0} → Path → Device → Result T TreeFault → (old new : List Step) → Type 0
Finishes path device (Ok x) old new = (bytes : List ℕ) × (device.bytes ≡ Some bytes) × (new ≡ Made path bytes ∷ old)
Finishes path device (Err why) old new = Stops why (λ left. (bytes : List ℕ) × PerhapsDone (Made path bytes) old left) old new

-- the same, and then it is stored
abbrev pub PerhapsStored : Path → (old left : List Step) → Type 0
PerhapsStored path old left = (bytes : List ℕ) × (PerhapsDone (Made path bytes) old left ⊎ (left ≡ FileStored path ∷ Made path bytes ∷ old))

abbrev pub FinishesStored : {T : Type 0} → Path → Device → Result T TreeFault → (old new : List Step) → Type 0
FinishesStored path device (Ok x) old new = (bytes : List ℕ) × (device.bytes ≡ Some bytes) × (new ≡ FileStored path ∷ Made path bytes ∷ old)
FinishesStored path device (Err why) old new = Stops why (PerhapsStored path old) old new
