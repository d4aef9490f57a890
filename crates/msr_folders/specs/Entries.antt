-- The entries of folders, as a walk visits them.
use Rattle.std.specs.Prelude.{◌≡◌, ◌⊎◌, ℕ, zero, suc, false, List, [], ◌∷◌, ◌++◌, Option, unwrap_or}
use Rattle.std.specs.Borrow.{Bor}
use Rattle.msr_sds.specs.Folders.{IsDepthBelow}
use Rattle.msr_tree.specs.Listing.{IsListing, has_folder, is_there, kind_now, path_in}
use Rattle.msr_tree.specs.Steps.{Path, Step}
use Rattle.msr_tree.specs.declared.kind.FileKind.{FileKind}
use Rattle.msr_tree.specs.declared.kind.FileKind.TheVariants.{Other}
use Rattle.msr_folders.specs.Paths.{below, joined}

-- An entry that is no folder of the walk, with what it is; a folder that has no list; one that is left alone; and one whose
-- entries were visited, after them. The paths are those from the folder that is walked.
pub data Visit : Type 0 where
  Entry : Path → FileKind → Visit
  WithoutList : Path → Visit
  Passed : Path → Visit
  Left : Path → Visit

-- some for each item, in order
abbrev pub ForEach : {E X : Type 0} → (E → List X → Type 0) → List E → List X → Type 0
ForEach Are [] all = all ≡ []
ForEach Are (item ∷ items) all = (part rest : List _) × Are item part × ForEach Are items rest × (all ≡ part ++ rest)

-- At a moment since, a folder had this list, and it is visited for each of its entries.
pub record IsGoneThrough (Since : (past at : List Step) → Type 0) (past : List Step) (root : Path) (AreOf : Path → List Visit → Type 0)
    (folder : Path) (visits : List Visit) : Type 0 where
  pub at : List Step
  pub since : Since past at
  pub names : List Path
  pub listing : IsListing at (joined root folder) names
  pub within : List Visit
  pub each : ForEach AreOf names within
  pub whole : visits ≡ within ++ Left folder ∷ []

-- a folder is visited as one that has no list, or is left alone, or visited for each of its entries
abbrev pub AreOfFolder : (Since : (past at : List Step) → Type 0) → List Step → (root : Path) → (Path → List Visit → Type 0) → Path → List Visit → Type 0
AreOfFolder Since past root AreOf folder visits =
    (visits ≡ WithoutList folder ∷ []) ⊎ ((visits ≡ Passed folder ∷ []) ⊎ IsGoneThrough Since past root AreOf folder visits)

-- At a moment since, an entry was no folder, and it is visited as what it was.
pub record IsAlone (Since : (past at : List Step) → Type 0) (past : List Step) (root path : Path) (visits : List Visit) : Type 0 where
  pub at : List Step
  pub since : Since past at
  pub alone : has_folder at (joined root path) ≡ false
  pub as_it_was : visits ≡ Entry path (kind_now at (joined root path)) ∷ []

-- an entry is visited as what it is, and a folder, if there are levels below, for its entries; what the system does not
-- tell of may be visited as a folder that has no list
abbrev pub AreOfEntry : (Since : (past at : List Step) → Type 0) → List Step → (root : Path) → (levels : ℕ) → Path → List Visit → Type 0
AreOfEntry Since past root zero path visits = visits ≡ Entry path Other ∷ []
AreOfEntry Since past root (suc levels) path visits =
    AreOfFolder Since past root (λ name. AreOfEntry Since past root levels (below path name)) path visits
    ⊎ IsAlone Since past root path visits

-- the entries of a folder, and of folders up to `levels` below it
abbrev pub AreEntries : (Since : (past at : List Step) → Type 0) → List Step → (root : Path) → (levels : ℕ) → Path → List Visit → Type 0
AreEntries Since past root levels folder visits =
    AreOfFolder Since past root (λ name. AreOfEntry Since past root levels (below folder name)) folder visits

-- the entries of a folder that is asked for, down to where days are
abbrev pub AreEntriesBelow : (Since : (past at : List Step) → Type 0) → List Step → (root : Path) → Bor Path → List Visit → Type 0
AreEntriesBelow Since past root folder visits =
    (depth : Option ℕ) × IsDepthBelow folder.now depth × AreEntries Since past root (unwrap_or depth 0) folder.now visits

-- the entries of these folders, or of all if none is asked for, each as it was at a moment since
abbrev pub AreEntriesSince : (Since : (past at : List Step) → Type 0) → List Step → (root : Path) → List (Bor Path) → List Visit → Type 0
AreEntriesSince Since past root [] visits = AreEntries Since past root 4 [] visits
AreEntriesSince Since past root (folder ∷ folders) visits = ForEach (AreEntriesBelow Since past root) (folder ∷ folders) visits

-- A moment between two others, by what is done.
pub record IsMoment (Does : (old new : List Step) → Type 0) (new past at : List Step) : Type 0 where
  pub since : Does past at
  pub until : Does at new

-- the entries of these folders, each as it was at a moment between two others
abbrev pub AreEntriesBetween : (Does : (old new : List Step) → Type 0) → (old new : List Step) → (root : Path) → List (Bor Path) → List Visit → Type 0
AreEntriesBetween Does old new = AreEntriesSince (IsMoment Does new) old

-- no step was done since
abbrev pub IsNow : (past at : List Step) → Type 0
IsNow past at = at ≡ past

-- the entries as they are
abbrev pub AreEntriesOf : List Step → (root : Path) → List (Bor Path) → List Visit → Type 0
AreEntriesOf = AreEntriesSince IsNow

-- it is this folder, or stands below it
abbrev pub StandsWithin : (folder place : Path) → Type 0
StandsWithin folder place = (place ≡ folder) ⊎ ((rest : Path) × (place ≡ path_in folder rest))

-- Within a folder there stands what stood there.
pub record IsSameWithin (folder : Path) (old new : List Step) : Type 0 where
  pub folders : (place : Path) → StandsWithin folder place → has_folder new place ≡ has_folder old place
  pub there : (place : Path) → StandsWithin folder place → is_there new place ≡ is_there old place

-- where the folders stand that were visited as such that have no list
abbrev pub unlisted_in : (root : Path) → List Visit → List Path
unlisted_in root [] = []
unlisted_in root (Entry path kind ∷ visits) = unlisted_in root visits
unlisted_in root (WithoutList folder ∷ visits) = joined root folder ∷ unlisted_in root visits
unlisted_in root (Passed folder ∷ visits) = unlisted_in root visits
unlisted_in root (Left folder ∷ visits) = unlisted_in root visits
