-- What names lead to after some steps, and what a crash may leave of it. Of a list of steps the last one stands first.
use Rattle.std.specs.Prelude.{◌≡◌, ◌⊎◌, ◌==◌, ℕ, suc, Bool, true, false, ◌||◌, List, [], ◌∷◌, ◌++◌, length, if◌then◌else◌, bytes_eq, Option, None, Some, option_map}
use Rattle.std.specs.List.{before_last}

-- the bytes of a path, as they are given to the system
abbrev pub Path : Type 0
Path = List ℕ

abbrev pub is_separator : ℕ → Bool
is_separator byte = byte == 47

-- what stands before the last slash
abbrev pub folder_above : Path → Path
folder_above path = before_last is_separator path

-- Something that was done. `Failed` is a call that failed, whatever it has done before it did; `Unlisted` is a folder of
-- which a call gave no list.
pub data Step : Type 0 where
  Made : Path → (bytes : List ℕ) → Step
  Linked : (from to : Path) → Step
  Renamed : (from to : Path) → Step
  Removed : Path → Step
  FileStored : Path → Step
  FolderStored : (folder : Path) → Step
  FolderMade : (folder : Path) → Step
  Unlisted : (folder : Path) → Step
  Failed : Step

-- its bytes, and how many steps came before it was made, which no other file has
pub record File : Type 0 where
  pub bytes : List ℕ
  pub made : ℕ

-- the file that a name leads to
abbrev pub now : List Step → Path → Option File
now [] name = None
now (Made at bytes ∷ past) name =
    if bytes_eq name at then Some (record { bytes = bytes; made = length past }) else now past name
now (Linked from to ∷ past) name = if bytes_eq name to then now past from else now past name
now (Renamed from to ∷ past) name =
    if bytes_eq name to then now past from else if bytes_eq name from then None else now past name
now (Removed at ∷ past) name = if bytes_eq name at then None else now past name
now (FileStored at ∷ past) name = now past name
now (FolderStored at ∷ past) name = now past name
now (FolderMade at ∷ past) name = now past name
now (Unlisted at ∷ past) name = now past name
now (Failed ∷ past) name = now past name

-- what a reader sees under a name
abbrev pub seen : List Step → Path → Option (List ℕ)
seen past name = option_map (λ file. file.bytes) (now past name)

abbrev pub IfThenElse : Bool → Type 0 → Type 0 → Type 0
IfThenElse true P Q = P
IfThenElse false P Q = Q

abbrev pub stands_in : (folder name : Path) → Bool
stands_in folder name = bytes_eq (folder_above name) folder

-- A crash may leave a name that leads to what it led to when its folder was stored last, or at any moment since. What
-- others lead to then has no part in it.
abbrev pub MayLead : List Step → Path → Option File → Type 0
MayLead [] name found = found ≡ None
MayLead (FolderStored at ∷ past) name found =
    IfThenElse (stands_in at name) (found ≡ now past name) (MayLead past name found)
MayLead (step ∷ past) name found = MayLead past name found ⊎ (found ≡ now (step ∷ past) name)

-- the file's bytes are on the disk
abbrev pub IsStored : List Step → File → Type 0
IsStored [] file = ⊥
IsStored (FileStored at ∷ past) file = IsStored past file ⊎ (now past at ≡ Some file)
IsStored (step ∷ past) file = IsStored past file

-- what is seen of it after the crash: a file that is not stored may be anything
abbrev pub ShowsAfter : List Step → Option File → (after : Option (List ℕ)) → Type 0
ShowsAfter past None after = after ≡ None
ShowsAfter past (Some file) after = IsStored past file → after ≡ Some file.bytes

-- what a crash may leave under a name
pub record MayLeave (past : List Step) (name : Path) (after : Option (List ℕ)) : Type 0 where
  pub found : Option File
  pub leads : MayLead past name found
  pub shows : ShowsAfter past found after

-- a crash leaves this under a name, and nothing else
abbrev pub Leaves : List Step → Path → Option (List ℕ) → Type 0
Leaves past name what = (after : Option (List ℕ)) → MayLeave past name after → after ≡ what

-- a crash leaves what is seen
abbrev pub IsAtRest : List Step → Type 0
IsAtRest past = (name : Path) → Leaves past name (seen past name)

-- how many calls have failed
abbrev pub failures : List Step → ℕ
failures [] = 0
failures (Failed ∷ past) = suc (failures past)
failures (step ∷ past) = failures past

-- P holds before each of these steps, and after the last
abbrev pub Throughout : (List Step → Type 0) → (old made : List Step) → Type 0
Throughout P old [] = P old
Throughout P old (step ∷ made) = Throughout P old made × P (step ∷ made ++ old)

-- P holds at each moment since
pub record AtEachMoment (P : List Step → Type 0) (old new : List Step) : Type 0 where
  pub made : List Step
  pub since : new ≡ made ++ old
  pub holds : Throughout P old made

-- a step that changes what a name leads to, or may
abbrev pub touches : Step → Path → Bool
touches (Made at bytes) name = bytes_eq name at
touches (Linked from to) name = bytes_eq name to
touches (Renamed from to) name = bytes_eq name to || bytes_eq name from
touches (Removed at) name = bytes_eq name at
touches (FileStored at) name = false
touches (FolderStored at) name = false
touches (FolderMade at) name = false
touches (Unlisted at) name = false
touches Failed name = false

-- none of these steps does
abbrev pub Spares : Path → (made : List Step) → Type 0
Spares name [] = Unit {0}
Spares name (step ∷ made) = Spares name made × (touches step name ≡ false)

-- a name is none of these
abbrev pub IsNoneOf : Path → List Path → Type 0
IsNoneOf name [] = Unit {0}
IsNoneOf name (other ∷ names) = (bytes_eq name other ≡ false) × IsNoneOf name names

-- What was done since changes what these names lead to, and no other.
pub record ChangesOnly (names : List Path) (old new : List Step) : Type 0 where
  pub made : List Step
  pub since : new ≡ made ++ old
  pub spares : (name : Path) → IsNoneOf name names → Spares name made

-- a name leads to a file with these bytes, which are on the disk
pub record IsReady (name : Path) (bytes : List ℕ) (past : List Step) : Type 0 where
  pub file : File
  pub leads : now past name ≡ Some file
  pub has : file.bytes ≡ bytes
  pub stored : IsStored past file
