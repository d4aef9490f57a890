-- How another file that has a name is left alone.
use Rattle.std.proofs.Common.{◌≡◌, ◌≢◌, ℕ, List, [], ◌∷◌, Option, None, Some, IsSome, false, is_some, Result, Ok, Err, IfOk, IsErrOf, option_map, refl, sym, ◌∙◌, ap, subst, arith}
use Rattle.msr_tree.specs.Acts.{Acts}
use Rattle.msr_tree.specs.Calls.{Goes, Looks, Tells}
use Rattle.msr_tree.specs.Steps.{AtEachMoment, ChangesOnly, IsNoneOf, Path, Step, seen}
use Rattle.msr_tree.specs.declared.facts.Facts.{Facts}
use Rattle.msr_tree.specs.declared.tree.TreeFault.{TreeFault}
use Rattle.msr_tree.specs.declared.tree.TreeFault.TheVariants as fault
use Rattle.msr_tree.proofs.Acting.{giving, goes_as, goes_tells, no_fewer, stopping}
use Rattle.msr_tree.proofs.Changes.{changes_more, changes_then, each_by_changes, seen_kept}
use Rattle.msr_tree.proofs.Moments.{joined}
use Rattle.msr_exchange.specs.Moves.{IsKeptAs, KeepsAs, KeepsName}
use Rattle.msr_exchange.specs.Names.{Names, all, path_at}
use Rattle.msr_exchange.specs.Promise.{Keeps, KeepsAll, KeepsBoth, LeavesAlone, Says}
use Rattle.msr_exchange.specs.declared.names.Place.{Place}
use Rattle.msr_exchange.specs.declared.names.Place.TheVariants.{Day}
use Rattle.msr_exchange.specs.declared.told.Told.{Told}

-- while other names change
pub alone_moments : (l : List Path) (name day : Path) (p q : List Step) → IsNoneOf name l → ChangesOnly l p q → LeavesAlone name day p q
alone_moments l name day p q nn changes bytes is differ =
    each_by_changes (λ past. seen past name ≡ Some bytes) l p (λ past ch. seen_kept l name p past nn ch ∙ is) q changes

-- and then
pub alone_then : (l : List Path) (name day : Path) (p q r : List Step) → IsNoneOf day l → IsNoneOf name l → ChangesOnly l p q → LeavesAlone name day q r → LeavesAlone name day p r
alone_then l name day p q r nd nn changes alone bytes is differ =
    joined (λ past. seen past name ≡ Some bytes) p q r (alone_moments l name day p q nn changes bytes is differ)
    (alone bytes (seen_kept l name p q nn changes ∙ is) (λ e. differ (sym (seen_kept l day p q nd changes) ∙ e)))

failed_as : {A B : Type 0} (why : TreeFault) → IsErrOf (stopping B why) fault.Failed → IsErrOf (stopping A why) fault.Failed
failed_as why is = let so : why ≡ fault.Failed = cc in ap (λ w. Err w) so

none_is : (R : Type 0) → IsSome {T = R} None → ⊥
none_is R is = cc

none_of : (looked : Option Facts) → is_some looked ≡ false → looked ≡ None
none_of None is = refl
none_of (Some facts) is = cc

module _ (names : Names) (one other : Place) where
  abbrev K : (a b : List ℕ) → List Step → Type 0
  K a b = KeepsBoth names one a other b

  abbrev name : Path
  name = path_at names one

  abbrev day : Path
  day = path_at names Day

  -- Of a call that is handed on, or ends.
  module _ (l : List Path) (Before : (a b : List ℕ) → List Step → Type 0) (more : (n : Path) → IsNoneOf n (all names) → IsNoneOf n l)
      (moments : (a b : List ℕ) (p q : List Step) → Before a b p → ChangesOnly l p q → AtEachMoment (K a b) p q) where
    pub end_keeps : {A : Type 0} (First : (old new : List Step) → A → Type 0) (first : Result A TreeFault) (result : Result Told TreeFault)
        → (IsErrOf result fault.Failed → IsErrOf first fault.Failed)
        → ((a b : List ℕ) (p q : List Step) → Before a b p → IfOk first (λ x. First p q x) → ChangesOnly l p q → IfOk result (λ told. Says names one a b q told))
        → (p q : List Step) → Acts l First first p q → Keeps names one other Before result p q
    end_keeps First first result fails says p q acts = record {
      changes = changes_more l (all names) p q more acts.changes;
      cause = λ is. acts.cause (fails is);
      safe = λ a b holds. moments a b p q holds acts.changes;
      answers = λ a b holds. says a b p q holds acts.does acts.changes;
    }

    pub then_keeps : {A : Type 0} (First : (old new : List Step) → A → Type 0) (Next : (a b : List ℕ) → List Step → Type 0) (x : A) (result : Result Told TreeFault)
        → ((a b : List ℕ) (p q : List Step) → Before a b p → First p q x → ChangesOnly l p q → Next a b q)
        → (p q r : List Step) → Acts l First (giving x) p q → Keeps names one other Next result q r → Keeps names one other Before result p r
    then_keeps First Next x result next p q r acts keeps = record {
      changes = changes_then (all names) p q r (changes_more l (all names) p q more acts.changes) keeps.changes;
      cause = λ is.
          let few = no_fewer l p q acts.changes in
          let rises = keeps.cause is in
          omega arith;
      safe = λ a b holds. joined (K a b) p q r (moments a b p q holds acts.changes) (keeps.safe a b (next a b p q holds acts.does acts.changes));
      answers = λ a b holds. keeps.answers a b (next a b p q holds acts.does acts.changes);
    }

    module _ (nd : IsNoneOf (path_at names Day) l) (nn : IsNoneOf (path_at names one) l) where
      pub all_end : {A : Type 0} (First : (old new : List Step) → A → Type 0) (first : Result A TreeFault) (result : Result Told TreeFault) (before after : List Step → Type 0)
          → (IsErrOf result fault.Failed → IsErrOf first fault.Failed)
          → ((a b : List ℕ) (p q : List Step) → Before a b p → IfOk first (λ x. First p q x) → ChangesOnly l p q → IfOk result (λ told. Says names one a b q told))
          → Goes before after (Acts l First first) → Goes before after (KeepsAll names one other Before result)
      all_end First first result before after fails says goes = goes_as _ _ before after (λ p q acts. record {
        keeps = end_keeps First first result fails says p q acts;
        alone = alone_moments l name day p q nn acts.changes;
      }) goes

      pub all_stopped : {A : Type 0} (First : (old new : List Step) → A → Type 0) (why : TreeFault) (before after : List Step → Type 0)
          → Goes before after (Acts l First (stopping A why)) → Goes before after (KeepsAll names one other Before (stopping Told why))
      all_stopped {A = A} First why before after goes =
          all_end First (stopping A why) (stopping Told why) before after (λ is. failed_as {A = A} {B = Told} why is) (λ a b p q holds did changes. tt) goes

      pub all_then : {A : Type 0} (First : (old new : List Step) → A → Type 0) (Next : (a b : List ℕ) → List Step → Type 0) (x : A) (result : Result Told TreeFault) (before mid after : List Step → Type 0)
          → ((a b : List ℕ) (p q : List Step) → Before a b p → First p q x → ChangesOnly l p q → Next a b q)
          → Goes before mid (Acts l First (giving x)) → Goes mid after (KeepsAll names one other Next result) → Goes before after (KeepsAll names one other Before result)
      all_then First Next x result before mid after next first goes = record {
        from = λ new went.
            let later = goes.from new went in
            let sooner = first.from later.0 later.1 in (
              sooner.0,
              sooner.1,
              record {
                keeps = then_keeps First Next x result next sooner.0 later.0 new sooner.2 later.2.keeps;
                alone = alone_then l name day sooner.0 later.0 new nd nn sooner.2.changes later.2.alone;
              },
            );
      }

    -- Of the call that gives the name.
    module _ {R : Type 0} (part : Path) (same : l ≡ name ∷ part ∷ []) where
      pub named_end : (first : Result (Option R) TreeFault) (result : Result Told TreeFault) (before after : List Step → Type 0)
          → (IsErrOf result fault.Failed → IsErrOf first fault.Failed)
          → ((a b : List ℕ) (p q : List Step) → Before a b p → ChangesOnly l p q → IfOk result (λ told. Says names one a b q told))
          → Goes before after (KeepsName day name part first) → Goes before after (KeepsAll names one other Before result)
      named_end first result before after fails says goes = goes_as _ _ before after (λ p q named. record {
        keeps = end_keeps (KeepsAs day name {R = R}) first result fails (λ a b s t holds did ch. says a b s t holds ch) p q
            (subst (λ m. Acts m (KeepsAs day name {R = R}) first p q) (sym same) named.acts);
        alone = λ bytes is differ. alone_moments [] name day p q tt (named.taken bytes is differ).0 bytes is differ;
      }) goes

      pub named_stopped : (why : TreeFault) (before after : List Step → Type 0)
          → Goes before after (KeepsName day name part (stopping (Option R) why)) → Goes before after (KeepsAll names one other Before (stopping Told why))
      named_stopped why before after goes =
          named_end (stopping (Option R) why) (stopping Told why) before after (λ is. failed_as {A = Option R} {B = Told} why is) (λ a b p q holds changes. tt) goes

      pub named_then : (Next : (a b : List ℕ) → List Step → Type 0) (x : Option R) (result : Result Told TreeFault) (before mid after : List Step → Type 0)
          → x ≡ None
          → ((a b : List ℕ) (p q : List Step) → Before a b p → KeepsAs day name p q x → ChangesOnly l p q → Next a b q)
          → Goes before mid (KeepsName day name part (giving x)) → Goes mid after (Keeps names one other Next result) → Goes before after (KeepsAll names one other Before result)
      named_then Next x result before mid after none next first goes = record {
        from = λ new went.
            let later = goes.from new went in
            let sooner = first.from later.0 later.1 in (
              sooner.0,
              sooner.1,
              record {
                keeps = then_keeps (KeepsAs day name {R = R}) Next x result next sooner.0 later.0 new
                    (subst (λ m. Acts m (KeepsAs day name {R = R}) (giving x) sooner.0 later.0) (sym same) sooner.2.acts) later.2;
                alone = λ bytes is differ. absurd (none_is R (subst (λ o. IsSome o) none (sooner.2.taken bytes is differ).1));
              },
            );
      }

-- How a file gets a name.
module _ {R : Type 0} (from to part : Path) where
  abbrev Named : Result (Option R) TreeFault → (old new : List Step) → Type 0
  Named result = KeepsName from to part result

  -- nothing has changed, and if all is well this name is that of what is seen
  some_if : (result : Result (Option R) TreeFault) → (result ≡ Ok None → ⊥) → IfOk result IsSome
  some_if (Ok None) not = absurd (not refl)
  some_if (Ok (Some x)) not = refl
  some_if (Err why) not = tt

  as_kept : (p q : List Step) (result : Result (Option R) TreeFault) → IfOk result (λ x. IsKeptAs from to p q x) → IfOk result (λ x. KeepsAs from to p q x)
  as_kept p q (Ok x) kept = λ none. (kept none).1
  as_kept p q (Err why) kept = tt

  not_kept : (p q : List Step) (bytes : List ℕ) (result : Result (Option R) TreeFault) → seen p to ≡ Some bytes → seen p from ≢ Some bytes → IfOk result (λ x. IsKeptAs from to p q x) → result ≡ Ok None → ⊥
  not_kept p q bytes (Ok x) is differ kept none = differ ((kept (let so : x ≡ None = cc in so)).0 ∙ is)
  not_kept p q bytes (Err why) is differ kept none = absurd (cc)

  pub named_there : (result : Result (Option R) TreeFault) (before after : List Step → Type 0) → Goes before after (Acts [] (IsKeptAs from to) result) → Goes before after (Named result)
  named_there result before after goes = goes_as _ _ before after (λ p q acts. record {
    acts = record { changes = changes_more [] (to ∷ part ∷ []) p q (λ n none. tt) acts.changes; cause = acts.cause; does = as_kept p q result acts.does };
    taken = λ bytes is differ. (acts.changes, some_if result (not_kept p q bytes result is differ acts.does));
  }) goes

  -- nothing is done
  pub named_told : {A : Type 0} (First : (old new : List Step) → A → Type 0) (first : Result A TreeFault) (result : Result (Option R) TreeFault) (before after : List Step → Type 0)
      → (IsErrOf result fault.Failed → IsErrOf first fault.Failed) → (result ≡ Ok None → ⊥)
      → Goes before after (Acts [] First first) → Goes before after (Named result)
  named_told First first result before after fails not goes = goes_as _ _ before after (λ p q acts. record {
    acts = record { changes = changes_more [] (to ∷ part ∷ []) p q (λ n none. tt) acts.changes; cause = λ is. acts.cause (fails is); does = never p q result not };
    taken = λ bytes is differ. (acts.changes, some_if result not);
  }) goes
    where
      never : (p q : List Step) (r : Result (Option R) TreeFault) → (r ≡ Ok None → ⊥) → IfOk r (λ x. KeepsAs from to p q x)
      never p q (Ok x) not = λ none. absurd (not (ap (λ y. Ok y) none))
      never p q (Err why) not = tt

  -- and then
  pub then_named : {A : Type 0} (First : (old new : List Step) → A → Type 0) (x : A) (result : Result (Option R) TreeFault) (before mid after : List Step → Type 0)
      → Goes before mid (Acts [] First (giving x)) → Goes mid after (Named result) → Goes before after (Named result)
  then_named First x result before mid after first goes = record {
    from = λ new went.
        let later = goes.from new went in
        let sooner = first.from later.0 later.1 in
        let p = sooner.0 in
        let q = later.0 in (
          p,
          sooner.1,
          record {
            acts = record {
              changes = changes_then (to ∷ part ∷ []) p q new (changes_more [] (to ∷ part ∷ []) p q (λ n none. tt) sooner.2.changes) later.2.acts.changes;
              cause = λ is.
                  let few = no_fewer [] p q sooner.2.changes in
                  let rises = later.2.acts.cause is in
                  omega arith;
              does = still p q new result sooner.2.changes later.2.acts.does;
            };
            taken = λ bytes is differ.
                let t = later.2.taken bytes (seen_kept [] to p q tt sooner.2.changes ∙ is) (λ e. differ (sym (seen_kept [] from p q tt sooner.2.changes) ∙ e)) in
                (changes_then [] p q new sooner.2.changes t.0, t.1);
          },
        );
  }
    where
      still : (p q r : List Step) (end : Result (Option R) TreeFault) → ChangesOnly [] p q → IfOk end (λ x. KeepsAs from to q r x) → IfOk end (λ x. KeepsAs from to p r x)
      still p q r (Ok x) ch keeps = λ none bytes is. keeps none bytes (seen_kept [] from p q tt ch ∙ is)
      still p q r (Err why) ch keeps = tt

  -- of a name that none had
  pub named_free : (result : Result (Option R) TreeFault) (before mid after : List Step → Type 0)
      → Goes before mid (Acts [] (λ old new (looked : Option Facts). (new ≡ old) × Looks to old looked) (giving None)) → Goes mid after (Acts (to ∷ part ∷ []) (KeepsAs from to) result) → Goes before after (Named result)
  named_free result before mid after first goes = record {
    from = λ new went.
        let later = goes.from new went in
        let sooner = first.from later.0 later.1 in
        let same : later.0 ≡ sooner.0 = sooner.2.does.0 in
        let acts = subst (λ s. Acts (to ∷ part ∷ []) (KeepsAs from to) result s new) same later.2 in (
          sooner.0,
          sooner.1,
          record {
            acts = acts;
            taken = λ bytes is differ.
                let none : seen sooner.0 to ≡ None = ap (λ found. option_map (λ file. file.bytes) found) sooner.2.does.1 in
                absurd (cc);
          },
        );
  }

  -- a look has told that none has it
  pub named_looked : (given : Path) (looked : Option Facts) (result : Result (Option R) TreeFault) (before mid after : List Step → Type 0) → given ≡ to → is_some looked ≡ false
      → Goes before mid (Tells (Looks given) (giving looked)) → Goes mid after (Acts (to ∷ part ∷ []) (KeepsAs from to) result) → Goes before after (Named result)
  named_looked given looked result before mid after same none first goes =
      named_free result before mid after
      (subst (λ o. Goes before mid (Acts [] (λ old new (x : Option Facts). (new ≡ old) × Looks to old x) (giving o))) (none_of looked none)
      (goes_tells {T = Option Facts} [] (Looks to) (giving looked) before mid (subst (λ n. Goes before mid (Tells (Looks n) (giving looked))) same first)))
      goes
