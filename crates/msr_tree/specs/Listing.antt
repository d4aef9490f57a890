-- What stands in a folder, and what a listing of it is.
use Rattle.std.specs.Prelude.{◌≡◌, ◌≢◌, ◌<◌, ◌⊎◌, ◌||◌, ◌&&◌, ◌==◌, ℕ, Bool, true, false, List, [], ◌∷◌, ◌++◌, get_or, if◌then◌else◌, bytes_eq, is_some, length, map, Result, Ok, Err, String, string_bytes}
use Rattle.std.specs.Cmp.Lexicographic.{slice_cmp}
use Rattle.std.specs.List.{Contains, starts_with}
use Rattle.std.specs.List.Sorted.{IsStrictlySortedBy}
use Rattle.std.specs.Ordering.{nat_cmp}
use Rattle.msr_tree.specs.Calls.{Stops}
use Rattle.msr_tree.specs.Steps.{FolderMade, Path, Step, Unlisted, now}
use Rattle.msr_tree.specs.declared.kind.FileKind.{FileKind}
use Rattle.msr_tree.specs.declared.kind.FileKind.TheVariants.{Folder, Gone, Other}
use Rattle.msr_tree.specs.declared.tree.TreeFault.{TreeFault}

-- whether a path is a folder's own, or leads through it
abbrev pub is_within : (folder path : Path) → Bool
is_within folder path =
    starts_with (λ x y. x == y) path folder && ((length path == length folder) || (get_or path (length folder) 0 == 47))

-- whether a folder was made there
abbrev pub has_folder : List Step → Path → Bool
has_folder [] path = false
has_folder (FolderMade at ∷ past) path = bytes_eq path at || has_folder past path
has_folder (step ∷ past) path = has_folder past path

-- whether a file or a folder stands there
abbrev pub is_there : List Step → Path → Bool
is_there past path = has_folder past path || is_some (now past path)

-- what stands there
abbrev pub kind_now : List Step → Path → FileKind
kind_now past path = if has_folder past path then Folder else if is_there past path then Other else Gone

-- It can be the name of an entry of a folder: it has some bytes, and no slash.
pub record IsEntryName (name : Path) : Type 0 where
  pub some : 0 < length name
  pub plain : (at : ℕ) → at < length name → get_or name at 0 ≢ 47

-- where an entry of a folder stands
abbrev pub path_in : (folder name : Path) → Path
path_in folder name = folder ++ 47 ∷ name

-- These are the names of what stands in a folder, all of them and no others, each once, in the order of their bytes.
pub record IsListing (past : List Step) (folder : Path) (names : List Path) : Type 0 where
  pub there : has_folder past folder ≡ true
  pub ascend : IsStrictlySortedBy (slice_cmp nat_cmp) names
  pub all : (name : Path) → IsEntryName name → is_there past (path_in folder name) ≡ true → Contains names name
  pub only : (name : Path) → Contains names name → IsEntryName name × (is_there past (path_in folder name) ≡ true)

abbrev pub listed : {Z : Type 0} → List (String Z) → List Path
listed names = map string_bytes names

-- a call that lists a folder; one that fails notes that this folder has no list
abbrev pub ListsFolder : {T : Type 0} → Path → (T → List Path) → Result T TreeFault → (old new : List Step) → Type 0
ListsFolder folder names (Ok x) old new = (new ≡ old) × IsListing old folder (names x)
ListsFolder folder names (Err why) old new = Stops why (λ left. left ≡ Unlisted folder ∷ old) old new

-- the folders of which a call gave no list, in order
abbrev pub unlisted_after : List Step → List Path
unlisted_after [] = []
unlisted_after (Unlisted folder ∷ past) = unlisted_after past ++ folder ∷ []
unlisted_after (step ∷ past) = unlisted_after past

-- what is told of an entry: what it is, or that it may be a folder
abbrev pub IsTold : List Step → Path → FileKind → Type 0
IsTold past path kind = (kind ≡ Folder) ⊎ (kind ≡ kind_now past path)
