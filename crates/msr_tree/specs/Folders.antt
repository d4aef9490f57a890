-- What stays of the folders of a tree, and what a function over files alone does.
use Rattle.std.specs.Prelude.{◌<◌, ◌≡◌, List, [], ◌∷◌, IfOk, IsErrOf, Result}
use Rattle.msr_tree.specs.Listing.{has_folder, unlisted_after}
use Rattle.msr_tree.specs.Steps.{ChangesOnly, FolderMade, Path, Step, Unlisted, failures}
use Rattle.msr_tree.specs.declared.tree.TreeFault.{TreeFault}
use Rattle.msr_tree.specs.declared.tree.TreeFault.TheVariants.{Failed}

-- No folder was made, and no call gave no list of one.
pub record LeavesFolders (old new : List Step) : Type 0 where
  pub folders : (place : Path) → has_folder new place ≡ has_folder old place
  pub unlisted : unlisted_after new ≡ unlisted_after old

-- a step that makes no folder, and notes none
abbrev pub IsOfFile : Step → Type 0
IsOfFile (FolderMade folder) = ⊥
IsOfFile (Unlisted folder) = ⊥
IsOfFile step = Unit {0}

abbrev pub AreOfFiles : List Step → Type 0
AreOfFiles [] = Unit {0}
AreOfFiles (step ∷ steps) = IsOfFile step × AreOfFiles steps

-- What was done since changes what these names lead to, and no other, and leaves the folders as they are.
pub record ChangesFiles (names : List Path) (old new : List Step) : Type 0 where
  pub changes : ChangesOnly names old new
  pub folders : LeavesFolders old new

-- what a function leaves as it is: all names but some, or the folders, too
pub data Rest : Type 0 where
  Names : Rest
  NamesAndFolders : Rest

abbrev pub Changes : Rest → List Path → (old new : List Step) → Type 0
Changes Names names old new = ChangesOnly names old new
Changes NamesAndFolders names old new = ChangesFiles names old new

-- It changes what these names lead to, and leaves the rest; it tells of a failure only if a call has failed; and if it
-- succeeds, this is done.
pub record ActsBut {T : Type 0} (rest : Rest) (names : List Path) (Done : (old new : List Step) → T → Type 0) (result : Result T TreeFault) (old new : List Step) : Type 0 where
  pub changes : Changes rest names old new
  pub cause : IsErrOf result Failed → failures old < failures new
  pub does : IfOk result (λ answer. Done old new answer)

-- a function over files alone
abbrev pub ActsOnFiles : {T : Type 0} → List Path → (Done : (old new : List Step) → T → Type 0) → Result T TreeFault → (old new : List Step) → Type 0
ActsOnFiles names Done result = ActsBut NamesAndFolders names Done result
