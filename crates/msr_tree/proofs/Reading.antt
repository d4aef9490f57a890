-- What stays while somebody only reads.
use Rattle.std.proofs.Common.{◌≡◌, ◌≤◌, ◌||◌, List, [], ◌∷◌, ◌++◌, refl, sym, ◌∙◌, ap, subst, is_some, append_assoc, arith, Ok, Err, Result}
use Rattle.msr_tree.specs.Calls.{Tells}
use Rattle.msr_tree.specs.Listing.{has_folder, is_there, unlisted_after}
use Rattle.msr_tree.specs.Reads.{AreFailures, AreReads, OnlyLooks, OnlyReads}
use Rattle.msr_tree.specs.Steps.{Failed, FileStored, FolderMade, FolderStored, Linked, Made, Path, Removed, Renamed, Step, Unlisted, failures, now}
use Rattle.msr_tree.specs.declared.tree.TreeFault.{TreeFault}
use Rattle.msr_tree.specs.declared.tree.TreeFault.TheVariants as fault

pub reads_none : (past : List Step) → OnlyReads past past
reads_none past = record { made = []; since = refl; are = tt }

reads_more : (one two : List Step) → AreReads one → AreReads two → AreReads (two ++ one)
reads_more one [] a b = a
reads_more one (Failed ∷ two) a b = reads_more one two a b
reads_more one (Unlisted folder ∷ two) a b = reads_more one two a b
reads_more one (Made at bytes ∷ two) a b = absurd b
reads_more one (Linked from to ∷ two) a b = absurd b
reads_more one (Renamed from to ∷ two) a b = absurd b
reads_more one (Removed at ∷ two) a b = absurd b
reads_more one (FileStored at ∷ two) a b = absurd b
reads_more one (FolderStored at ∷ two) a b = absurd b
reads_more one (FolderMade at ∷ two) a b = absurd b

pub reads_then : (old mid new : List Step) → OnlyReads old mid → OnlyReads mid new → OnlyReads old new
reads_then old mid new one two = record {
  made = two.made ++ one.made;
  since = two.since ∙ ap (λ l. two.made ++ l) one.since ∙ sym (append_assoc two.made one.made old);
  are = reads_more one.made two.made one.are two.are;
}

pub reads_unlisted : (past : List Step) (folder : Path) → OnlyReads past (Failed ∷ Unlisted folder ∷ past)
reads_unlisted past folder = record { made = Failed ∷ Unlisted folder ∷ []; since = refl; are = tt }

looks_read : (made : List Step) → AreFailures made → AreReads made
looks_read [] are = tt
looks_read (Failed ∷ made) are = looks_read made are
looks_read (Unlisted folder ∷ made) are = absurd are
looks_read (Made at bytes ∷ made) are = absurd are
looks_read (Linked from to ∷ made) are = absurd are
looks_read (Renamed from to ∷ made) are = absurd are
looks_read (Removed at ∷ made) are = absurd are
looks_read (FileStored at ∷ made) are = absurd are
looks_read (FolderStored at ∷ made) are = absurd are
looks_read (FolderMade at ∷ made) are = absurd are

-- who only looks only reads
pub look_reads : (old new : List Step) → OnlyLooks old new → OnlyReads old new
look_reads old new looks = record { made = looks.made; since = looks.since; are = looks_read looks.made looks.are }

looks_more : (one two : List Step) → AreFailures one → AreFailures two → AreFailures (two ++ one)
looks_more one [] a b = a
looks_more one (Failed ∷ two) a b = looks_more one two a b
looks_more one (Unlisted folder ∷ two) a b = absurd b
looks_more one (Made at bytes ∷ two) a b = absurd b
looks_more one (Linked from to ∷ two) a b = absurd b
looks_more one (Renamed from to ∷ two) a b = absurd b
looks_more one (Removed at ∷ two) a b = absurd b
looks_more one (FileStored at ∷ two) a b = absurd b
looks_more one (FolderStored at ∷ two) a b = absurd b
looks_more one (FolderMade at ∷ two) a b = absurd b

pub looks_none : (past : List Step) → OnlyLooks past past
looks_none past = record { made = []; since = refl; are = tt }

pub looks_then : (old mid new : List Step) → OnlyLooks old mid → OnlyLooks mid new → OnlyLooks old new
looks_then old mid new one two = record {
  made = two.made ++ one.made;
  since = two.since ∙ ap (λ l. two.made ++ l) one.since ∙ sym (append_assoc two.made one.made old);
  are = looks_more one.made two.made one.are two.are;
}

unlisted_made : (old made : List Step) → AreFailures made → unlisted_after (made ++ old) ≡ unlisted_after old
unlisted_made old [] are = refl
unlisted_made old (Failed ∷ made) are = unlisted_made old made are
unlisted_made old (Unlisted folder ∷ made) are = absurd are
unlisted_made old (Made at bytes ∷ made) are = absurd are
unlisted_made old (Linked from to ∷ made) are = absurd are
unlisted_made old (Renamed from to ∷ made) are = absurd are
unlisted_made old (Removed at ∷ made) are = absurd are
unlisted_made old (FileStored at ∷ made) are = absurd are
unlisted_made old (FolderStored at ∷ made) are = absurd are
unlisted_made old (FolderMade at ∷ made) are = absurd are

-- and lists no folder
pub look_lists_none : (old new : List Step) → OnlyLooks old new → unlisted_after new ≡ unlisted_after old
look_lists_none old new looks = ap unlisted_after looks.since ∙ unlisted_made old looks.made looks.are

now_made : (old made : List Step) (name : Path) → AreReads made → now (made ++ old) name ≡ now old name
now_made old [] name are = refl
now_made old (Failed ∷ made) name are = now_made old made name are
now_made old (Unlisted folder ∷ made) name are = now_made old made name are
now_made old (Made at bytes ∷ made) name are = absurd are
now_made old (Linked from to ∷ made) name are = absurd are
now_made old (Renamed from to ∷ made) name are = absurd are
now_made old (Removed at ∷ made) name are = absurd are
now_made old (FileStored at ∷ made) name are = absurd are
now_made old (FolderStored at ∷ made) name are = absurd are
now_made old (FolderMade at ∷ made) name are = absurd are

folder_made_so : (old made : List Step) (path : Path) → AreReads made → has_folder (made ++ old) path ≡ has_folder old path
folder_made_so old [] path are = refl
folder_made_so old (Failed ∷ made) path are = folder_made_so old made path are
folder_made_so old (Unlisted folder ∷ made) path are = folder_made_so old made path are
folder_made_so old (Made at bytes ∷ made) path are = absurd are
folder_made_so old (Linked from to ∷ made) path are = absurd are
folder_made_so old (Renamed from to ∷ made) path are = absurd are
folder_made_so old (Removed at ∷ made) path are = absurd are
folder_made_so old (FileStored at ∷ made) path are = absurd are
folder_made_so old (FolderStored at ∷ made) path are = absurd are
folder_made_so old (FolderMade at ∷ made) path are = absurd are

failures_made : (old made : List Step) → AreReads made → failures old ≤ failures (made ++ old)
failures_made old [] are = omega arith
failures_made old (Failed ∷ made) are = let few = failures_made old made are in omega arith
failures_made old (Unlisted folder ∷ made) are = failures_made old made are
failures_made old (Made at bytes ∷ made) are = absurd are
failures_made old (Linked from to ∷ made) are = absurd are
failures_made old (Renamed from to ∷ made) are = absurd are
failures_made old (Removed at ∷ made) are = absurd are
failures_made old (FileStored at ∷ made) are = absurd are
failures_made old (FolderStored at ∷ made) are = absurd are
failures_made old (FolderMade at ∷ made) are = absurd are

module _ (old new : List Step) (reads : OnlyReads old new) where
  -- names lead where they led
  pub now_read : (name : Path) → now new name ≡ now old name
  now_read name = ap (λ l. now l name) reads.since ∙ now_made old reads.made name reads.are

  pub folder_read : (path : Path) → has_folder new path ≡ has_folder old path
  folder_read path = ap (λ l. has_folder l path) reads.since ∙ folder_made_so old reads.made path reads.are

  pub there_read : (path : Path) → is_there new path ≡ is_there old path
  there_read path =
      ap (λ f. f || is_some (now new path)) (folder_read path)
      ∙ ap (λ found. has_folder old path || is_some found) (now_read path)

  pub failures_read : failures old ≤ failures new
  failures_read = subst (λ l. failures old ≤ failures l) (sym reads.since) (failures_made old reads.made reads.are)

-- a call that only tells something
pub tells_looks : {T : Type 0} (Says : List Step → T → Type 0) (result : Result T TreeFault) (old new : List Step) → Tells Says result old new → OnlyLooks old new
tells_looks Says (Ok x) old new tells = subst (λ l. OnlyLooks old l) (sym tells.0) (looks_none old)
tells_looks Says (Err fault.Memory) old new stops = subst (λ l. OnlyLooks old l) (sym stops) (looks_none old)
tells_looks Says (Err fault.Failed) old new stops = record { made = Failed ∷ []; since = stops.2 ∙ ap (λ l. Failed ∷ l) stops.1; are = tt }
