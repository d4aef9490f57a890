-- How a file that only waits under its own name gets the day's.
use Rattle.std.proofs.Common.{◌≡◌, ◌≢◌, inl, inr, ⊎_elim, ℕ, List, [], ◌∷◌, length, Option, None, Some, IsSomeAnd, Result, Ok, Err, IfOk, IsErrOf, option_map, refl, ap, subst, arith}
use Rattle.msr_tree.specs.Acts.{Acts}
use Rattle.msr_tree.specs.Calls.{Goes, Looks, Tells}
use Rattle.msr_tree.specs.Steps.{AtEachMoment, ChangesOnly, File, IsNoneOf, Leaves, Path, Step, now, seen}
use Rattle.msr_tree.specs.declared.facts.Facts.{Facts}
use Rattle.msr_tree.specs.declared.facts.Kind.TheVariants.{Regular}
use Rattle.msr_tree.specs.declared.tree.TreeFault.{TreeFault}
use Rattle.msr_tree.specs.declared.tree.TreeFault.TheVariants as fault
use Rattle.msr_tree.proofs.Acting.{giving, goes_as, goes_tells, no_fewer, stopping}
use Rattle.msr_tree.proofs.Changes.{changes_more, changes_then, each_by_changes, leaves_kept}
use Rattle.msr_tree.proofs.Crash.{leaves_seen}
use Rattle.msr_tree.proofs.Moments.{joined}
use Rattle.msr_exchange.specs.Names.{AreNames, Names, all, path_at}
use Rattle.msr_exchange.specs.Phases.{Waits}
use Rattle.msr_exchange.specs.Promise.{AreKept, HasItsPlace, IsUnderEither, KeepsAll, PutsBack, Restores, Says}
use Rattle.msr_exchange.specs.declared.names.Place.{Place}
use Rattle.msr_exchange.specs.declared.names.Place.TheVariants.{Day, DayPart, Note, Original, Records}
use Rattle.msr_exchange.specs.declared.told.Told.{Told}
use Rattle.msr_exchange.specs.declared.told.Told.TheVariants.{Changed, Done, Refused, Same}
use Rattle.msr_exchange.proofs.Alone.{alone_moments, end_keeps}
use Rattle.msr_exchange.proofs.Phases.{quiet_moments, says_nothing}

module _ (names : Names) (other : Place) where
  abbrev U : (b : List ℕ) → List Step → Type 0
  U b = IsUnderEither (path_at names Day) (path_at names other) b

  abbrev four : List Path
  four = path_at names Day ∷ path_at names DayPart ∷ path_at names Note ∷ path_at names other ∷ []

  -- while it waits, and once it has the day's name
  pub waits_moments : (l : List Path) (b : List ℕ) (p q : List Step) → IsNoneOf (path_at names other) l → Leaves p (path_at names other) (Some b) → ChangesOnly l p q → AtEachMoment (U b) p q
  waits_moments l b p q nn waits changes = each_by_changes (U b) l p (λ past ch after beside may m. inr (leaves_kept l (path_at names other) (Some b) p past nn ch waits beside m)) q changes

  pub returned_moments : (l : List Path) (b : List ℕ) (p q : List Step) → IsNoneOf (path_at names Day) l → Leaves p (path_at names Day) (Some b) → ChangesOnly l p q → AtEachMoment (U b) p q
  returned_moments l b p q nd day changes = each_by_changes (U b) l p (λ past ch after beside may m. inl (leaves_kept l (path_at names Day) (Some b) p past nd ch day after may)) q changes

  module _ (l : List Path) (Before : (b : List ℕ) → List Step → Type 0) (more : (n : Path) → IsNoneOf n (path_at names Day ∷ path_at names DayPart ∷ path_at names Note ∷ path_at names other ∷ []) → IsNoneOf n l)
      (moments : (b : List ℕ) (p q : List Step) → Before b p → ChangesOnly l p q → AtEachMoment (U b) p q) where
    pub back_end : {A : Type 0} (First : (old new : List Step) → A → Type 0) (first : Result A TreeFault) (result : Result Told TreeFault) (before after : List Step → Type 0)
        → (IsErrOf result fault.Failed → IsErrOf first fault.Failed)
        → ((b : List ℕ) (p q : List Step) → Before b p → ChangesOnly l p q → IfOk result (λ told. HasItsPlace told → Leaves q (path_at names Day) (Some b)))
        → Goes before after (Acts l First first) → Goes before after (PutsBack names other Before result)
    back_end First first result before after fails done goes = goes_as _ _ before after (λ p q acts. record {
      changes = changes_more l four p q more acts.changes;
      cause = λ is. acts.cause (fails is);
      moments = λ b holds. moments b p q holds acts.changes;
      done = λ b holds. done b p q holds acts.changes;
    }) goes

    pub back_stopped : {A : Type 0} (First : (old new : List Step) → A → Type 0) (why : TreeFault) (before after : List Step → Type 0)
        → Goes before after (Acts l First (stopping A why)) → Goes before after (PutsBack names other Before (stopping Told why))
    back_stopped {A = A} First why before after goes =
        back_end First (stopping A why) (stopping Told why) before after (λ is. let so : why ≡ fault.Failed = cc in ap (λ w. Err w) so) (λ b p q holds changes. tt) goes

    pub back_then : {A : Type 0} (First : (old new : List Step) → A → Type 0) (Next : (b : List ℕ) → List Step → Type 0) (x : A) (result : Result Told TreeFault) (before mid after : List Step → Type 0)
        → ((b : List ℕ) (p q : List Step) → Before b p → First p q x → ChangesOnly l p q → Next b q)
        → Goes before mid (Acts l First (giving x)) → Goes mid after (PutsBack names other Next result) → Goes before after (PutsBack names other Before result)
    back_then First Next x result before mid after next first goes = record {
      from = λ new went.
          let later = goes.from new went in
          let sooner = first.from later.0 later.1 in
          let p = sooner.0 in
          let q = later.0 in (
            p,
            sooner.1,
            record {
              changes = changes_then four p q new (changes_more l four p q more sooner.2.changes) later.2.changes;
              cause = λ is.
                  let few = no_fewer l p q sooner.2.changes in
                  let rises = later.2.cause is in
                  omega arith;
              moments = λ b holds. joined (U b) p q new (moments b p q holds sooner.2.changes) (later.2.moments b (next b p q holds sooner.2.does sooner.2.changes));
              done = λ b holds. later.2.done b (next b p q holds sooner.2.does sooner.2.changes);
            },
          );
    }

-- Restoring, by what a look tells of the day's name.
module _ (names : Names) (are : AreNames names) where
  abbrev Kept : (a b : List ℕ) → List Step → Type 0
  Kept = AreKept names Records Original

  abbrev Ends : Result Told TreeFault → (old new : List Step) → Type 0
  Ends result = Restores names Records Original Kept result

  abbrev Looked : (old new : List Step) → Option Facts → Type 0
  Looked old new looked = (new ≡ old) × Looks names.day old looked

  -- nothing is done
  pub ends_here : {A : Type 0} (First : (old new : List Step) → A → Type 0) (first : Result A TreeFault) (result : Result Told TreeFault) (before after : List Step → Type 0)
      → (IsErrOf result fault.Failed → IsErrOf first fault.Failed) → IfOk result (λ told. (told ≢ Done) × (told ≢ Same))
      → Goes before after (Acts [] First first) → Goes before after (Ends result)
  ends_here First first result before after fails not goes = goes_as _ _ before after (λ p q acts. record {
    all_kept = record {
      keeps = end_keeps names Records Original [] Kept (λ n none. tt) (λ a b s t kept ch. quiet_moments names Records Original [] a b s t tt tt tt kept.keeps ch) First first result fails
          (λ a b s t holds did ch. nothing a b t result not) p q acts;
      alone = alone_moments [] names.records names.day p q tt acts.changes;
    };
    gives_back = λ b none waits. (waits_moments names Original [] b p q tt waits acts.changes, not_done b q result not);
  }) goes
    where
      nothing : (a b : List ℕ) (t : List Step) (r : Result Told TreeFault) → IfOk r (λ told. (told ≢ Done) × (told ≢ Same)) → IfOk r (λ told. Says names Records a b t told)
      nothing a b t (Ok told) not = says_nothing names Records a b t told not.0 not.1
      nothing a b t (Err why) not = tt

      not_done : (b : List ℕ) (t : List Step) (r : Result Told TreeFault) → IfOk r (λ told. (told ≢ Done) × (told ≢ Same)) → IfOk r (λ told. HasItsPlace told → Leaves t names.day (Some b))
      not_done b t (Ok Done) not = absurd (not.0 refl)
      not_done b t (Ok Same) not = absurd (not.1 refl)
      not_done b t (Ok Changed) not = λ has. absurd has
      not_done b t (Ok (Refused why)) not = λ has. absurd has
      not_done b t (Err why) not = tt

  -- no file has it
  pub ends_gone : (result : Result Told TreeFault) (before mid after : List Step → Type 0)
      → Goes before mid (Acts [] Looked (giving None)) → Goes mid after (PutsBack names Original (Waits names Original) result) → Goes before after (Ends result)
  ends_gone result before mid after first goes = record {
    from = λ new went.
        let later = goes.from new went in
        let sooner = first.from later.0 later.1 in
        let p = sooner.0 in
        let back = subst (λ s. PutsBack names Original (Waits names Original) result s new) sooner.2.does.0 later.2 in
        let gone : now p names.day ≡ None = sooner.2.does.1 in (
          p,
          sooner.1,
          record {
            all_kept = record {
              keeps = record {
                changes = changes_more (names.day ∷ names.day_part ∷ names.note ∷ names.original ∷ []) (all names) p new
                    (λ n none. (none.0, (none.1.0, (none.1.1.1.1.1.1.0, (none.1.1.0, tt))))) back.changes;
                cause = back.cause;
                safe = λ a b kept. absurd (not_kept a b p gone kept);
                answers = λ a b kept. absurd (not_kept a b p gone kept);
              };
              alone = alone_moments (names.day ∷ names.day_part ∷ names.note ∷ names.original ∷ []) names.records names.day p new
                  (are.apart Records Day refl, (are.apart Records DayPart refl, (are.apart Records Note refl, (are.apart Records Original refl, tt)))) back.changes;
            };
            gives_back = λ b none waits. (back.moments b (record { waits = waits }), back.done b (record { waits = waits }));
          },
        );
  }
    where
      not_kept : (a b : List ℕ) (p : List Step) → now p names.day ≡ None → Kept a b p → ⊥
      not_kept a b p gone kept =
          let none : seen p names.day ≡ None = ap (λ found. option_map (λ file. file.bytes) found) gone in
          ⊎_elim (λ is. cc) (λ is. cc) (kept.keeps.day (seen p names.day) (leaves_seen p names.day))

  -- a file has it
  pub ends_found : (facts : Facts) (result : Result Told TreeFault) (before mid after : List Step → Type 0) → facts.kind ≡ Regular
      → Goes before mid (Acts [] Looked (giving (Some facts))) → Goes mid after (KeepsAll names Records Original Kept result) → Goes before after (Ends result)
  ends_found facts result before mid after regular first goes = record {
    from = λ new went.
        let later = goes.from new went in
        let sooner = first.from later.0 later.1 in
        let p = sooner.0 in (
          p,
          sooner.1,
          record {
            all_kept = subst (λ s. KeepsAll names Records Original Kept result s new) sooner.2.does.0 later.2;
            gives_back = λ b none waits. absurd (has_file (now p names.day) none (sooner.2.does.1.regular regular));
          },
        );
  }
    where
      has_file : (found : Option File) → found ≡ None → IsSomeAnd found (λ file. facts.bytes ≡ length file.bytes) → ⊥
      has_file None none is = is
      has_file (Some file) none is = cc

  -- the same of a look at another name of the same path
  looked_at : (given : Path) (looked found : Option Facts) (before mid : List Step → Type 0) → given ≡ names.day → looked ≡ found
      → Goes before mid (Tells (Looks given) (giving looked)) → Goes before mid (Acts [] Looked (giving found))
  looked_at given looked found before mid same is goes =
      subst (λ o. Goes before mid (Acts [] Looked (giving o))) is
      (goes_tells {T = Option Facts} [] (Looks names.day) (giving looked) before mid (subst (λ n. Goes before mid (Tells (Looks n) (giving looked))) same goes))

  pub gone_by : (given : Path) (looked : Option Facts) (result : Result Told TreeFault) (before mid after : List Step → Type 0) → given ≡ names.day → looked ≡ None
      → Goes before mid (Tells (Looks given) (giving looked)) → Goes mid after (PutsBack names Original (Waits names Original) result) → Goes before after (Ends result)
  gone_by given looked result before mid after same is first goes = ends_gone result before mid after (looked_at given looked None before mid same is first) goes

  pub found_by : (given : Path) (looked : Option Facts) (facts : Facts) (result : Result Told TreeFault) (before mid after : List Step → Type 0) → given ≡ names.day → looked ≡ Some facts → facts.kind ≡ Regular
      → Goes before mid (Tells (Looks given) (giving looked)) → Goes mid after (KeepsAll names Records Original Kept result) → Goes before after (Ends result)
  found_by given looked facts result before mid after same is regular first goes =
      ends_found facts result before mid after regular (looked_at given looked (Some facts) before mid same is first) goes
