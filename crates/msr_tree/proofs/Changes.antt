-- What stays of a name while others change.
use Rattle.std.proofs.Common.{◌≡◌, inr, ℕ, true, List, [], ◌∷◌, ◌++◌, refl, sym, ◌∙◌, ap, subst, Option, Some, option_map, append_assoc}
use Rattle.std.proofs.lemmas.List.{append_cancel_right}
use Rattle.msr_tree.specs.Steps.{AtEachMoment, ChangesOnly, FileStored, FolderStored, IsNoneOf, IsReady, IsStored, Leaves, MayLeave, Path, Renamed, Spares, Step, Throughout, now, seen, stands_in}
use Rattle.msr_tree.proofs.Crash.{file_of, is_of, is_self, quiet, settled, stays, still, untouched}

spares_more : (name : Path) (one two : List Step) → Spares name one → Spares name two → Spares name (two ++ one)
spares_more name one [] a b = a
spares_more name one (step ∷ two) a b = (spares_more name one two a b.0, b.1)

-- two calls, one after the other
pub changes_then : (names : List Path) (old mid new : List Step) → ChangesOnly names old mid → ChangesOnly names mid new → ChangesOnly names old new
changes_then names old mid new one two = record {
  made = two.made ++ one.made;
  since = two.since ∙ ap (λ l. two.made ++ l) one.since ∙ sym (append_assoc two.made one.made old);
  spares = λ name none. spares_more name one.made two.made (one.spares name none) (two.spares name none);
}

-- nothing was done
pub changes_none : (names : List Path) (old : List Step) → ChangesOnly names old old
changes_none names old = record { made = []; since = refl; spares = λ name none. tt }

-- of more names
pub changes_more : (few more : List Path) (old new : List Step) → ((name : Path) → IsNoneOf name more → IsNoneOf name few) → ChangesOnly few old new → ChangesOnly more old new
changes_more few more old new so changes = record { made = changes.made; since = changes.since; spares = λ name none. changes.spares name (so name none) }

-- what a name leads to
pub same_now : (name : Path) (old made : List Step) → Spares name made → now (made ++ old) name ≡ now old name
same_now name old [] spares = refl
same_now name old (step ∷ made) spares = untouched step (made ++ old) name spares.1 ∙ same_now name old made spares.0

pub now_kept : (names : List Path) (name : Path) (old new : List Step) → IsNoneOf name names → ChangesOnly names old new → now new name ≡ now old name
now_kept names name old new none changes = ap (λ l. now l name) changes.since ∙ same_now name old changes.made (changes.spares name none)

-- what a crash leaves of it
pub leaves_made : (name : Path) (what : Option (List ℕ)) (old made : List Step) → Spares name made → Leaves old name what → Leaves (made ++ old) name what
leaves_made name what old [] spares holds = holds
leaves_made name what old (step ∷ made) spares holds = still step (made ++ old) name what spares.1 (leaves_made name what old made spares.0 holds)

pub leaves_kept : (names : List Path) (name : Path) (what : Option (List ℕ)) (old new : List Step) → IsNoneOf name names → ChangesOnly names old new → Leaves old name what → Leaves new name what
leaves_kept names name what old new none changes holds =
    subst (λ l. Leaves l name what) (sym changes.since) (leaves_made name what old changes.made (changes.spares name none) holds)

stored_made : (file : _) (old made : List Step) → IsStored old file → IsStored (made ++ old) file
stored_made file old [] stored = stored
stored_made file old (step ∷ made) stored = stays step (made ++ old) file (stored_made file old made stored)

-- a file that is ready stays so
pub ready_kept : (names : List Path) (name : Path) (bytes : List ℕ) (old new : List Step) → IsNoneOf name names → ChangesOnly names old new → IsReady name bytes old → IsReady name bytes new
ready_kept names name bytes old new none changes ready = record {
  file = ready.file;
  leads = now_kept names name old new none changes ∙ ready.leads;
  has = ready.has;
  stored = subst (λ l. IsStored l ready.file) (sym changes.since) (stored_made ready.file old changes.made ready.stored);
}

-- a file that is stored is ready
pub ready_stored : (name : Path) (bytes : List ℕ) (past : List Step) → seen past name ≡ Some bytes → IsReady name bytes (FileStored name ∷ past)
ready_stored name bytes past is =
    let file = file_of (now past name) bytes is in
    record { file = file.0; leads = file.1; has = file.2; stored = inr file.1 }

-- and is left by each crash, once its folder is stored
pub ready_settled : (name folder : Path) (bytes : List ℕ) (past : List Step) → stands_in folder name ≡ true → IsReady name bytes past → Leaves (FolderStored folder ∷ past) name (Some bytes)
ready_settled name folder bytes past inside ready after may =
    is_of past (now past name) ready.file after ready.leads ready.stored (settled folder past name after inside may) ∙ ap (λ b. Some b) ready.has

-- it gets another name
pub ready_renamed : (from to : Path) (bytes : List ℕ) (past : List Step) → IsReady from bytes past → IsReady to bytes (Renamed from to ∷ past)
ready_renamed from to bytes past ready = record { file = ready.file; leads = rw (is_self to) ready.leads; has = ready.has; stored = ready.stored }

-- What holds at each moment holds with what was changed until then.
module _ (P Q : List Step → Type 0) (names : List Path) (old : List Step) (so : (past : List Step) → P past → ChangesOnly names old past → Q past) where
  with_made : (made : List Step) → ((name : Path) → IsNoneOf name names → Spares name made) → Throughout P old made → Throughout Q old made
  with_made [] spares holds = so old holds (changes_none names old)
  with_made (step ∷ made) spares holds =
      (with_made made (λ name none. (spares name none).0) holds.0, so (step ∷ made ++ old) holds.1 (record { made = step ∷ made; since = refl; spares = spares }))

  pub with_changes : (new : List Step) → ChangesOnly names old new → AtEachMoment P old new → AtEachMoment Q old new
  with_changes new changes each =
      let same : changes.made ≡ each.made = append_cancel_right changes.made each.made old (sym changes.since ∙ each.since) in
      record { made = each.made; since = each.since; holds = with_made each.made (λ name none. subst (λ m. Spares name m) same (changes.spares name none)) each.holds }

pub seen_kept : (names : List Path) (name : Path) (old new : List Step) → IsNoneOf name names → ChangesOnly names old new → seen new name ≡ seen old name
seen_kept names name old new none changes = ap (λ found. option_map (λ file. file.bytes) found) (now_kept names name old new none changes)

-- What holds by what was changed until then.
module _ (Q : List Step → Type 0) (names : List Path) (old : List Step) (so : (past : List Step) → ChangesOnly names old past → Q past) where
  by_made : (made : List Step) → ((name : Path) → IsNoneOf name names → Spares name made) → Throughout Q old made
  by_made [] spares = so old (changes_none names old)
  by_made (step ∷ made) spares =
      (by_made made (λ name none. (spares name none).0), so (step ∷ made ++ old) (record { made = step ∷ made; since = refl; spares = spares }))

  pub each_by_changes : (new : List Step) → ChangesOnly names old new → AtEachMoment Q old new
  each_by_changes new changes = record { made = changes.made; since = changes.since; holds = by_made changes.made changes.spares }

may_made : (name : Path) (old made : List Step) (after : Option (List ℕ)) → Spares name made → MayLeave (made ++ old) name after → MayLeave old name after
may_made name old [] after spares may = may
may_made name old (step ∷ made) after spares may = may_made name old made after spares.0 (quiet step (made ++ old) name after (untouched step (made ++ old) name spares.1) may)

pub may_kept : (names : List Path) (name : Path) (old new : List Step) (after : Option (List ℕ)) → IsNoneOf name names → ChangesOnly names old new → MayLeave new name after → MayLeave old name after
may_kept names name old new after none changes may = may_made name old changes.made after (changes.spares name none) (subst (λ l. MayLeave l name after) changes.since may)
