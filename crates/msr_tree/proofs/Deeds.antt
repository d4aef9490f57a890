-- What a tree in memory does.
use Rattle.std.proofs.Common.{◌≡◌, ◌⊎◌, inl, inr, ℕ, Bool, true, false, List, [], ◌∷◌, ◌++◌, map, reverse, refl, sym, ◌∙◌, ap, subst, Some, None, option_map, if◌then◌else◌, ⊎_elim, Ok, Err, arith}
use Rattle.std.specs.Str.{bytes_eq}
use Rattle.std.specs.Prelude.{MatchOption, ⊤}
use Rattle.std.proofs.lemmas.Bool.{cases_Bool}
use Rattle.std.proofs.lemmas.List.{map-append, reverse-append}
use Rattle.std.proofs.lemmas.Slice.Eq.{bytes_eq-Decides}
use Rattle.msr_tree.specs.Memory.{LeavesName, step_of, steps_kept, target_of}
use Rattle.msr_tree.specs.Calls.{Goes, MakesFolders, PerhapsDone, Stops}
use Rattle.msr_tree.specs.declared.tree.TreeFault.{TreeFault}
use Rattle.msr_tree.specs.declared.tree.TreeFault.TheVariants as fault
use Rattle.msr_tree.specs.Steps.{Failed, FileStored, FolderMade, FolderStored, IsAtRest, Leaves, Linked, Made, MayLeave, Path, Removed, Renamed, ShowsAfter, Step, Unlisted, folder_above, now, seen}
use Rattle.msr_tree.specs.declared.memory.deed.Deed.{Deed}
use Rattle.msr_tree.proofs.Changes.{ready_settled, ready_stored}
use Rattle.msr_tree.proofs.Crash.{is_self, leaves_seen, still}

-- what was done last
pub last_step : (deeds before : List Deed) (deed : Deed) → deeds ≡ before ++ (deed ∷ []) → steps_kept deeds ≡ step_of deed ∷ steps_kept before
last_step deeds before deed is = ap steps_kept is ∙ (ap reverse (map-append step_of before (deed ∷ [])) ∙ reverse-append (map step_of before) (step_of deed ∷ []))

-- one more file that is on the disk
pub one_more_rests : (at : Path) (bytes : List ℕ) (past : List Step) → IsAtRest past → IsAtRest (FolderStored (folder_above at) ∷ FileStored at ∷ Made at bytes ∷ past)
one_more_rests at bytes past rests name = elim (cases_Bool (bytes_eq name at)) [
  | inl is ↦
      let here : Leaves (FolderStored (folder_above at) ∷ FileStored at ∷ Made at bytes ∷ past) at (Some bytes) =
      ready_settled at (folder_above at) bytes (FileStored at ∷ Made at bytes ∷ past) (is_self (folder_above at))
      (ready_stored at bytes (Made at bytes ∷ past) (rw (is_self at) refl)) in
      let shown : seen (Made at bytes ∷ past) name ≡ Some bytes = rw is refl in
      subst (λ what. Leaves (FolderStored (folder_above at) ∷ FileStored at ∷ Made at bytes ∷ past) name what) (sym shown)
      (subst (λ n. Leaves (FolderStored (folder_above at) ∷ FileStored at ∷ Made at bytes ∷ past) n (Some bytes)) (sym ((bytes_eq-Decides name at).0 is)) here)
  | inr not ↦
      let same : now (Made at bytes ∷ past) name ≡ now past name = rw not refl in
      subst (λ found. Leaves (FolderStored (folder_above at) ∷ FileStored at ∷ Made at bytes ∷ past) name (option_map (λ file. file.bytes) found)) (sym same)
      (still (FolderStored (folder_above at)) (FileStored at ∷ Made at bytes ∷ past) name _ refl (still (FileStored at) (Made at bytes ∷ past) name _ refl (still (Made at bytes) past name _ not (rests name))))
]

-- before the first step
pub nothing_rests : IsAtRest []
nothing_rests name after may = subst (λ found. ShowsAfter [] found after) may.leads may.shows

-- a tree whose steps are known
pub known : (R : List Step → List Step → Type 0) (old new : List Step) → R old new → Goes (λ past. past ≡ old) (λ past. past ≡ new) R
known R old new does = record { from = λ past is. (old, refl, subst (λ p. R old p) (sym is) does) }

-- a name without a file that is not given one stays without
pub without : (step : Step) (past : List Step) (name : Path) → MatchOption (target_of step) ⊤ (λ to. bytes_eq name to ≡ false) → now past name ≡ None → now (step ∷ past) name ≡ None
without (Made at bytes) past name not none = rw not none
without (Linked from to) past name not none = rw not none
without (Renamed from to) past name not none = rw not (two (bytes_eq name from))
  where
    two : (test : Bool) → (if test then None else now past name) ≡ None
    two true = refl
    two false = none
without (Removed at) past name not none = two (bytes_eq name at)
  where
    two : (test : Bool) → (if test then None else now past name) ≡ None
    two true = refl
    two false = none
without (FileStored at) past name not none = none
without (FolderStored at) past name not none = none
without (FolderMade at) past name not none = none
without (Unlisted at) past name not none = none
without Failed past name not none = none

-- A name after a crash while the names of some steps are still to be given: it is as it may be, or has no file, as it
-- may be if the steps gave it none.
pub record Sees (past rest : List Step) (after : List Step) (name : Path) : Type 0 where
  pub so_far : MayLeave past name (seen after name) ⊎ ((seen after name ≡ None) × (now rest name ≡ None → MayLeave past name None))

pub sees_none : (past : List Step) (name : Path) → Sees past past [] name
sees_none past name = record { so_far = inr (refl, λ none. subst (λ found. MayLeave past name (option_map (λ file. file.bytes) found)) none (leaves_seen past name)) }

-- a step that gives a name a file
pub sees_given : (step : Step) (past rest old new : List Step) (to name : Path) → target_of step ≡ Some to → LeavesName to past old new → Sees past (step ∷ rest) old name → Sees past rest new name
sees_given step past rest old new to name given left sees = elim (cases_Bool (bytes_eq name to)) [
  | inl is ↦
      let same = (bytes_eq-Decides name to).0 is in
      record {
        so_far = ⊎_elim
            (λ may. inl (subst (λ n. MayLeave past n (seen new n)) (sym same) may))
            (λ kept. ⊎_elim
            (λ may. inl (subst (λ l. MayLeave past name (seen l name)) (sym kept.0) may))
            (λ none. inr (ap (λ l. seen l name) kept.0 ∙ none.0, λ _. subst (λ n. MayLeave past n None) (sym same) kept.1))
            sees.so_far)
            left.left;
      }
  | inr not ↦
      let stays = left.others name not in
      record {
        so_far = ⊎_elim
            (λ may. inl (subst (λ s. MayLeave past name s) (sym stays) may))
            (λ none. inr (stays ∙ none.0, λ gone. none.1 (without step rest name (subst (λ t. MatchOption t ⊤ (λ to. bytes_eq name to ≡ false)) (sym given) not) gone)))
            sees.so_far;
      }
]

-- a folder is made, or its making fails
pub folder_made : (folder : Path) (old new : List Step) (told : Bool) → new ≡ FolderMade folder ∷ old → MakesFolders {T = Bool} (Ok told) old new
folder_made folder old new told is = record { made = FolderMade folder ∷ []; since = is; are = tt; cause = λ err. cc }

pub folder_stops : (folder : Path) (why : TreeFault) (old new : List Step) → Stops why (PerhapsDone (FolderMade folder) old) old new → MakesFolders {T = Bool} (Err why) old new
folder_stops folder fault.Memory old new is = record { made = []; since = is; are = tt; cause = λ err. cc }
folder_stops folder fault.Failed old new stops =
    ⊎_elim
    (λ not. let is : new ≡ Failed ∷ old = stops.2 ∙ ap (λ l. Failed ∷ l) not in
    record { made = Failed ∷ []; since = is; are = tt; cause = λ err. rw is (omega arith) })
    (λ so. let is : new ≡ Failed ∷ FolderMade folder ∷ old = stops.2 ∙ ap (λ l. Failed ∷ l) so in
    record { made = Failed ∷ FolderMade folder ∷ []; since = is; are = tt; cause = λ err. rw is (omega arith) })
    stops.1
