-- What a walk does, and what it tells.
use Rattle.std.specs.Prelude.{◌≡◌, Bool, true, false, List, [], ◌∷◌, ◌++◌, Option, None, Some}
use Rattle.msr_devices.specs.Device.{Device, IsCalm}
use Rattle.msr_devices.specs.declared.fault.DeviceFault.{DeviceFault}
use Rattle.msr_devices.specs.declared.fault.DeviceFault.TheVariants.{Memory}
use Rattle.msr_tree.specs.Calls.{Goes}
use Rattle.msr_tree.specs.Listing.{unlisted_after}
use Rattle.msr_tree.specs.Steps.{Failed, Path, Step, Unlisted}
use Rattle.msr_folders.specs.Entries.{Passed, Visit, unlisted_in}

-- What a visit does to the tree. If this is of those that list no folder, it lists none.
pub record VisitDoes (Does : (old new : List Step) → Type 0) (Listless : Type 0) (old new : List Step) : Type 0 where
  pub does : Does old new
  pub lists_none : Listless → unlisted_after new ≡ unlisted_after old

-- A visit was made, and what was told says this of it.
pub record IsVisited {L : Type 0} (Says : (old new : List Step) → Visit → List L → Type 0) (Does : (old new : List Step) → Type 0)
    (Listless : Type 0) (visit : Visit) (lines : List L) (old new : List Step) : Type 0 where
  pub done : VisitDoes Does Listless old new
  pub says : Says old new visit lines

-- What was told of a visit.
pub record TellsVisit {L T : Type 0} (Tells : List L → (out0 out : Device) → (tally0 tally : T) → Type 0)
    (Says : (old new : List Step) → Visit → List L → Type 0) (Does : (old new : List Step) → Type 0) (Listless : Type 0) (visit : Visit)
    (before after : List Step → Type 0) (out0 out : Device) (tally0 tally : T) : Type 0 where
  pub lines : List L
  pub told : Tells lines out0 out tally0 tally
  pub goes : Goes before after (IsVisited Says Does Listless visit lines)

-- what was told of a folder before it is listed: nothing if it is to be, and else that it is left alone
abbrev pub TellsEntering : {F L T : Type 0} → (Tells : List L → (out0 out : Device) → (tally0 tally : T) → Type 0)
    → (Says : (old new : List Step) → Visit → List L → Type 0) → (Does Between : (old new : List Step) → Type 0) → (Listless : Type 0) → (folder : Path)
    → Option F → (before after : List Step → Type 0) → (out0 out : Device) → (tally0 tally : T) → Type 0
TellsEntering Tells Says Does Between Listless folder None before after out0 out tally0 tally =
    TellsVisit Tells Says Does Listless (Passed folder) before after out0 out tally0 tally
TellsEntering Tells Says Does Between Listless folder (Some entered) before after out0 out tally0 tally =
    Tells [] out0 out tally0 tally × Goes before after (VisitDoes Between Listless)

-- This was said of a visit, after something of which nothing is told.
pub record IsSaidFirst {L : Type 0} (Says : (old new : List Step) → Visit → List L → Type 0) (Does Between : (old new : List Step) → Type 0)
    (old new : List Step) (visit : Visit) (lines : List L) : Type 0 where
  pub from : List Step
  pub before : Between old from
  pub does : Does from new
  pub says : Says from new visit lines

-- what was told says this of each visit, where they are made one after another
abbrev pub AreSaid : {L : Type 0} → (Says : (old new : List Step) → Visit → List L → Type 0) → (Does Between : (old new : List Step) → Type 0)
    → (old new : List Step) → List Visit → List L → Type 0
AreSaid Says Does Between old new [] lines = (lines ≡ []) × Between old new
AreSaid Says Does Between old new (visit ∷ visits) lines = (mid : List Step) × (part rest : List _)
    × IsSaidFirst Says Does Between old mid visit part × AreSaid Says Does Between mid new visits rest × (lines ≡ part ++ rest)

-- These visits were made, one after another, and no others, and what was told says this of each; and, if no visit lists a folder, one was visited
-- as such that has no list just where a call gave none.
pub record IsWalked {L : Type 0} (Says : (old new : List Step) → Visit → List L → Type 0) (Does Between : (old new : List Step) → Type 0)
    (Listless : Type 0) (root : Path) (Are : (old new : List Step) → List Visit → Type 0) (visits : List Visit) (lines : List L) (old new : List Step) : Type 0 where
  pub are : Are old new visits
  pub says : AreSaid Says Does Between old new visits lines
  pub does : Does old new
  pub unlisted : Listless → unlisted_after new ≡ unlisted_after old ++ unlisted_in root visits

-- What was told on a walk.
pub record TellsWalk {L T : Type 0} (Tells : List L → (out0 out : Device) → (tally0 tally : T) → Type 0)
    (Says : (old new : List Step) → Visit → List L → Type 0) (Does Between : (old new : List Step) → Type 0) (Listless : Type 0) (root : Path)
    (Are : (old new : List Step) → List Visit → Type 0) (before after : List Step → Type 0) (out0 out : Device) (tally0 tally : T) : Type 0 where
  pub visits : List Visit
  pub lines : List L
  pub told : Tells lines out0 out tally0 tally
  pub goes : Goes before after (IsWalked Says Does Between Listless root Are visits lines)

-- What is told of visits that follow one another is told of all of them; a visit that stops after others stops these too,
-- and if memory is refused none needs to be made. What is done one after another is done, a call that gives no list
-- included: by visits after which the walk goes on (`true`), up to the last, which may stop it. It may also stop where
-- nothing more is done. Between visits less may be done.
pub record VisitLaws {V L T : Type 0} (tells : V → List L → (out0 out : Device) → (tally0 tally : T) → Type 0)
    (stops : V → (out0 out : Device) → DeviceFault → Type 0) (does : V → Bool → (old new : List Step) → Type 0)
    (between : V → (old new : List Step) → Type 0) : Type 0 where
  pub calm : (visitor : V) (lines : List L) (out0 out : Device) (tally0 tally : T) → tells visitor lines out0 out tally0 tally
      → IsCalm out0 out
  pub none : (visitor : V) (out : Device) (tally : T) → tells visitor [] out out tally tally
  pub more : (visitor : V) (one two : List L) (out0 out1 out : Device) (tally0 tally1 tally : T)
      → tells visitor one out0 out1 tally0 tally1 → tells visitor two out1 out tally1 tally
      → tells visitor (one ++ two) out0 out tally0 tally
  pub refused : (visitor : V) (out : Device) → stops visitor out out Memory
  pub later : (visitor : V) (lines : List L) (out0 out1 out : Device) (tally0 tally1 : T) (fault : DeviceFault)
      → tells visitor lines out0 out1 tally0 tally1 → stops visitor out1 out fault → stops visitor out0 out fault
  pub still : (visitor : V) (past : List Step) → does visitor true past past
  pub onward : (visitor : V) (goes_on : Bool) (old mid new : List Step) → does visitor true old mid → does visitor goes_on mid new
      → does visitor goes_on old new
  pub ends : (visitor : V) (old new : List Step) → does visitor true old new → does visitor false old new
  pub rests : (visitor : V) (past : List Step) → between visitor past past
  pub rests_on : (visitor : V) (old mid new : List Step) → between visitor old mid → between visitor mid new → between visitor old new
  pub resting : (visitor : V) (old new : List Step) → between visitor old new → does visitor true old new
  pub unlisted : (visitor : V) (past : List Step) (folder : Path) → between visitor past (Failed ∷ Unlisted folder ∷ past)

-- it holds whichever of these the steps so far are
abbrev pub HoldsAt : (went Holds : List Step → Type 0) → Type 0
HoldsAt went Holds = (past : List Step) → went past → Holds past

-- What holds stays so where a folder gives no list.
pub record HoldsListed {V T : Type 0} (holds : V → T → List Step → Type 0) : Type 0 where
  pub stays : (visitor : V) (tally : T) (past : List Step) (place : Path) → holds visitor tally past
      → holds visitor tally (Failed ∷ Unlisted place ∷ past)
