-- What is left by a crash once a name is stored.
use Rattle.std.proofs.Common.{◌≡◌, inl, inr, ⊎_elim, true, List, [], ℕ, ◌∷◌, Option, Some, sym, subst, ◌∙◌, ap, refl, Result, Ok, Err, IfOk, arith}
use Rattle.msr_tree.specs.Calls.{Copied, DoesStep, Goes, PerhapsDone, Stops}
use Rattle.msr_tree.specs.declared.tree.TreeFault.{TreeFault}
use Rattle.msr_tree.specs.declared.tree.TreeFault.TheVariants as fault
use Rattle.msr_tree.specs.Steps.{AtEachMoment, Failed, FileStored, FolderStored, IsReady, Leaves, Path, Renamed, Step, now, seen, stands_in}
use Rattle.msr_tree.proofs.Acting.{acts_does, giving, goes_as, no_fewer, stopping, within_renamed}
use Rattle.msr_tree.proofs.Moments.{at_end, done, joined}
use Rattle.msr_tree.proofs.Changes.{changes_then, ready_renamed, ready_settled, ready_stored}
use Rattle.msr_tree.proofs.Crash.{is_of, is_self, leaves, quiet}
use Rattle.msr_exchange.specs.Moves.{LeavesEither, TakesName}

pub settled_by : (name folder : Path) (p q r : List Step) → stands_in folder name ≡ true → q ≡ FileStored name ∷ p → r ≡ FolderStored folder ∷ q
    → (bytes : List ℕ) → seen p name ≡ Some bytes → Leaves r name (Some bytes)
settled_by name folder p q r inside first second bytes is =
    subst (λ l. Leaves l name (Some bytes)) (sym second)
    (subst (λ l. Leaves (FolderStored folder ∷ l) name (Some bytes)) (sym first) (ready_settled name folder bytes (FileStored name ∷ p) inside (ready_stored name bytes p is)))

-- what was copied is seen
pub copied_seen : (from to : Path) (old new : List Step) (bytes : List ℕ) → Copied from to old new → seen old from ≡ Some bytes → seen new to ≡ Some bytes
copied_seen from to old new bytes copied is = ⊎_elim
    (λ linked. subst (λ l. seen l to ≡ Some bytes) (sym linked) (rw (is_self to) is))
    (λ made. subst (λ l. seen l to ≡ Some bytes) (sym made.2) (rw (is_self to) (sym made.1 ∙ is)))
    copied

pub copied_stored : (from to : Path) (p q r : List Step) → Copied from to p q → r ≡ FileStored to ∷ q → (bytes : List ℕ) → seen p from ≡ Some bytes → IsReady to bytes r
copied_stored from to p q r copied stored bytes is = subst (λ l. IsReady to bytes l) (sym stored) (ready_stored to bytes q (copied_seen from to p q bytes copied is))

pub named_by : (part to folder : Path) (p q r : List Step) → stands_in folder to ≡ true → q ≡ Renamed part to ∷ p → r ≡ FolderStored folder ∷ q
    → (bytes : List ℕ) → IsReady part bytes p → Leaves r to (Some bytes)
named_by part to folder p q r inside first second bytes ready =
    subst (λ l. Leaves l to (Some bytes)) (sym second)
    (subst (λ l. Leaves (FolderStored folder ∷ l) to (Some bytes)) (sym first) (ready_settled to folder bytes (Renamed part to ∷ p) inside (ready_renamed part to bytes p ready)))

-- the moments of a rename
pub either_renamed : (from to : Path) (before : Option (List ℕ)) (bytes : List ℕ) (p : List Step) → Leaves p to before → IsReady from bytes p → LeavesEither to before (Some bytes) (Renamed from to ∷ p)
either_renamed from to before bytes p holds ready after may = ⊎_elim
    (λ sooner. inl (holds after sooner))
    (λ shows. let is = ready_renamed from to bytes p ready in inr (is_of (Renamed from to ∷ p) _ is.file after is.leads is.stored shows ∙ ap (λ b. Some b) is.has))
    (leaves (Renamed from to) p to after may)

pub either_still : (to : Path) (one other : Option (List ℕ)) (step : Step) (p : List Step) → now (step ∷ p) to ≡ now p to → LeavesEither to one other p → LeavesEither to one other (step ∷ p)
either_still to one other step p same either after may = either after (quiet step p to after same may)

-- a rename that fails may have taken its place
took_after : (from to : Path) (before : Option (List ℕ)) (bytes : List ℕ) (p left : List Step) → Leaves p to before → IsReady from bytes p → PerhapsDone (Renamed from to) p left → AtEachMoment (LeavesEither to before (Some bytes)) p left
took_after from to before bytes p left holds ready may =
    let first : LeavesEither to before (Some bytes) p = λ after is. inl (holds after is) in
    ⊎_elim
    (λ not. done (LeavesEither to before (Some bytes)) p left [] not first)
    (λ so. done (LeavesEither to before (Some bytes)) p left (Renamed from to ∷ []) so (first, either_renamed from to before bytes p holds ready))
    may

-- the call was noted as failed
noted : (to : Path) (one other : Option (List ℕ)) (p left : List Step) → AtEachMoment (LeavesEither to one other) p left → AtEachMoment (LeavesEither to one other) p (Failed ∷ left)
noted to one other p left each =
    let P = LeavesEither to one other in
    joined P p left (Failed ∷ left) each (done P left (Failed ∷ left) (Failed ∷ []) refl (at_end P p left each, either_still to one other Failed left refl (at_end P p left each)))

stopped_moments : (to : Path) (one other : Option (List ℕ)) (p q : List Step) (Left : List Step → Type 0) (why : TreeFault) → LeavesEither to one other p → ((left : List Step) → Left left → AtEachMoment (LeavesEither to one other) p left) → Stops why Left p q → AtEachMoment (LeavesEither to one other) p q
stopped_moments to one other p q Left fault.Memory first so stops = done (LeavesEither to one other) p q [] stops first
stopped_moments to one other p q Left fault.Failed first so stops = subst (λ l. AtEachMoment (LeavesEither to one other) p l) (sym stops.2) (noted to one other p stops.0 (so stops.0 stops.1))

moments_of : {T : Type 0} (from to : Path) (before : Option (List ℕ)) (bytes : List ℕ) (result : Result T TreeFault) (p q : List Step) → Leaves p to before → IsReady from bytes p → DoesStep (Renamed from to) result p q → AtEachMoment (LeavesEither to before (Some bytes)) p q
moments_of from to before bytes (Ok x) p q holds ready does = took_after from to before bytes p q holds ready (inr does)
moments_of from to before bytes (Err why) p q holds ready does =
    stopped_moments to before (Some bytes) p q _ why (λ after is. inl (holds after is)) (λ left may. took_after from to before bytes p left holds ready may) does

pub took_stopped : (from to : Path) {T : Type 0} (why : TreeFault) (one two : List Step → Type 0) {given : Step} → given ≡ Renamed from to → Goes one two (DoesStep given (stopping T why)) → Goes one two (TakesName from to (stopping T why))
took_stopped from to {T = T} why one two {given = given} same goes = goes_as _ _ one two
    (λ p q does. record {
      acts = record { changes = (acts_does {T = T} (to ∷ from ∷ []) (Renamed from to) (stopping T why) p q (within_renamed from to) does).changes; cause = (acts_does {T = T} (to ∷ from ∷ []) (Renamed from to) (stopping T why) p q (within_renamed from to) does).cause; does = tt };
      moments = λ before bytes holds ready. moments_of {T = T} from to before bytes (stopping T why) p q holds ready does;
    })
    (subst (λ s. Goes one two (DoesStep s (stopping T why))) same goes)

-- what each crash leaves once the folder is stored
folder_moments : {T : Type 0} (to folder : Path) (before other : Option (List ℕ)) (result : Result T TreeFault) (q r : List Step) → LeavesEither to before other q → DoesStep (FolderStored folder) result q r → AtEachMoment (LeavesEither to before other) q r
folder_moments to folder before other (Ok x) q r either does =
    done (LeavesEither to before other) q r (FolderStored folder ∷ []) does (either, either_still to before other (FolderStored folder) q refl either)
folder_moments to folder before other (Err why) q r either does =
    stopped_moments to before other q r _ why either
    (λ left may. ⊎_elim
    (λ not. done (LeavesEither to before other) q left [] not either)
    (λ so. done (LeavesEither to before other) q left (FolderStored folder ∷ []) so (either, either_still to before other (FolderStored folder) q refl either))
    may)
    does

pub took_place : {T : Type 0} (from to folder : Path) (result : Result T TreeFault) (one mid two : List Step → Type 0) {given : Step} → given ≡ Renamed from to → {stored : Step} → stored ≡ FolderStored folder → (x : T) → stands_in folder to ≡ true
    → Goes one mid (DoesStep given (giving x)) → Goes mid two (DoesStep stored result) → Goes one two (TakesName from to result)
took_place {T = T} from to folder result one mid two {given = given} same {stored = stored} is x inside first second =
    let renamed : Goes one mid (DoesStep (Renamed from to) (giving x)) = subst (λ s. Goes one mid (DoesStep s (giving x))) same first in
    let settled : Goes mid two (DoesStep (FolderStored folder) result) = subst (λ s. Goes mid two (DoesStep s result)) is second in
    record {
      from = λ new went.
          let later = settled.from new went in
          let sooner = renamed.from later.0 later.1 in
          let c = acts_does {T = T} (to ∷ from ∷ []) (Renamed from to) (giving x) sooner.0 later.0 (within_renamed from to) sooner.2 in
          let d = acts_does {T = T} (to ∷ from ∷ []) (FolderStored folder) result later.0 new (λ name none. refl) later.2 in (
            sooner.0,
            sooner.1,
            record {
              acts = record {
                changes = changes_then (to ∷ from ∷ []) sooner.0 later.0 new c.changes d.changes;
                cause = λ failed. let few = no_fewer (to ∷ from ∷ []) sooner.0 later.0 c.changes in let more = d.cause failed in omega arith;
                does = if_ok result (λ y stands. λ bytes ready. named_by from to folder sooner.0 later.0 new inside sooner.2 stands bytes ready) d.does;
              };
              moments = λ before bytes holds ready.
                  let P = LeavesEither to before (Some bytes) in
                  let begun = moments_of {T = T} from to before bytes (giving x) sooner.0 later.0 holds ready sooner.2 in
                  joined P sooner.0 later.0 new begun (folder_moments to folder before (Some bytes) result later.0 new (at_end P sooner.0 later.0 begun) later.2);
            },
          );
    }
  where
    if_ok : {B : Type 0} {P Q : B → Type 0} (r : Result B TreeFault) → ((b : B) → P b → Q b) → IfOk r P → IfOk r Q
    if_ok (Ok b) f p = f b p
    if_ok (Err why) f p = tt
