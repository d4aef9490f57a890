-- How both files are kept from phase to phase.
use Rattle.std.proofs.Common.{◌≡◌, ◌≢◌, inl, inr, ⊎_elim, ℕ, List, [], ◌∷◌, Option, Some, None, IsSome, option_map, Result, Err, IfOk, IsErrOf, IfSome, sym, ◌∙◌, ap, subst, arith}
use Rattle.msr_tree.specs.Acts.{Acts}
use Rattle.msr_tree.specs.Calls.{Goes}
use Rattle.msr_tree.specs.Steps.{AtEachMoment, ChangesOnly, File, IsNoneOf, Leaves, Path, Step, now, seen}
use Rattle.msr_tree.specs.declared.tree.TreeFault.{TreeFault}
use Rattle.msr_tree.specs.declared.tree.TreeFault.TheVariants as fault
use Rattle.msr_tree.proofs.Acting.{giving, goes_as, no_fewer, stopping}
use Rattle.msr_tree.proofs.Changes.{changes_more, changes_then, each_by_changes, leaves_kept, may_kept, seen_kept, with_changes}
use Rattle.msr_tree.proofs.Crash.{leaves_seen}
use Rattle.msr_tree.proofs.Moments.{at_end, joined}
use Rattle.msr_exchange.specs.Moves.{LeavesEither, TakesName}
use Rattle.msr_exchange.specs.Names.{Names, all, path_at}
use Rattle.msr_exchange.specs.Phases.{AreHome, HaveOneContent, AreSeenApart, HavePlaces, IsInPlace, IsPrepared, MayGoBack}
use Rattle.msr_exchange.specs.Promise.{AreKept, Keeps, KeepsBoth, Says}
use Rattle.msr_exchange.specs.declared.names.Place.{Place}
use Rattle.msr_exchange.specs.declared.names.Place.TheVariants.{Day, DayPart}
use Rattle.msr_exchange.specs.declared.told.Told.{Told}
use Rattle.msr_exchange.specs.declared.told.Told.TheVariants.{Done, Same}

module _ (names : Names) (one other : Place) where
  abbrev K : (a b : List ℕ) → List Step → Type 0
  K a b = KeepsBoth names one a other b

  -- what keeps both
  pub keeps_home : (a b : List ℕ) (past : List Step) → Leaves past (path_at names Day) (Some a) → Leaves past (path_at names other) (Some b) → K a b past
  keeps_home a b past home comes = record {
    day = λ after may. inl (home after may);
    first = λ after beside may m. inl (home after may);
    second = λ after beside may m. inr (comes beside m);
  }

  pub keeps_three : (a b : List ℕ) (past : List Step) → LeavesEither (path_at names Day) (Some a) (Some b) past → Leaves past (path_at names one) (Some a) → Leaves past (path_at names other) (Some b) → K a b past
  keeps_three a b past either waits comes = record {
    day = either;
    first = λ after beside may m. inr (waits beside m);
    second = λ after beside may m. inr (comes beside m);
  }

  pub keeps_changed : (a b : List ℕ) (past : List Step) → Leaves past (path_at names Day) (Some b) → Leaves past (path_at names one) (Some a) → K a b past
  keeps_changed a b past day waits = record {
    day = λ after may. inr (day after may);
    first = λ after beside may m. inr (waits beside m);
    second = λ after beside may m. inl (day after may);
  }

  -- while other names change
  pub quiet_moments : (l : List Path) (a b : List ℕ) (p q : List Step) → IsNoneOf (path_at names Day) l → IsNoneOf (path_at names one) l → IsNoneOf (path_at names other) l → K a b p → ChangesOnly l p q → AtEachMoment (K a b) p q
  quiet_moments l a b p q nd nw nt keeps changes = each_by_changes (K a b) l p (λ past ch. record {
    day = λ after may. keeps.day after (may_kept l (path_at names Day) p past after nd ch may);
    first = λ after beside may m. keeps.first after beside (may_kept l (path_at names Day) p past after nd ch may) (may_kept l (path_at names one) p past beside nw ch m);
    second = λ after beside may m. keeps.second after beside (may_kept l (path_at names Day) p past after nd ch may) (may_kept l (path_at names other) p past beside nt ch m);
  }) q changes

  pub home_moments : (l : List Path) (a b : List ℕ) (p q : List Step) → IsNoneOf (path_at names Day) l → IsNoneOf (path_at names other) l → AreHome names one other a b p → ChangesOnly l p q → AtEachMoment (K a b) p q
  home_moments l a b p q nd nt home changes = each_by_changes (K a b) l p
      (λ past ch. keeps_home a b past (leaves_kept l (path_at names Day) (Some a) p past nd ch home.day) (leaves_kept l (path_at names other) (Some b) p past nt ch home.comes)) q changes

  pub places_moments : (l : List Path) (a b : List ℕ) (p q : List Step) → IsNoneOf (path_at names Day) l → IsNoneOf (path_at names one) l → HavePlaces names one other a b p → ChangesOnly l p q → AtEachMoment (K a b) p q
  places_moments l a b p q nd nw places changes = each_by_changes (K a b) l p
      (λ past ch. keeps_changed a b past (leaves_kept l (path_at names Day) (Some b) p past nd ch places.day) (leaves_kept l (path_at names one) (Some a) p past nw ch places.waits)) q changes

  pub in_place_moments : (l : List Path) (a b : List ℕ) (p q : List Step) → IsNoneOf (path_at names Day) l → IsNoneOf (path_at names one) l → IsInPlace names one other a b p → ChangesOnly l p q → AtEachMoment (K a b) p q
  in_place_moments l a b p q nd nw place changes = each_by_changes (K a b) l p (λ past ch.
      let stands = leaves_kept l (path_at names Day) (Some b) p past nd ch place.day in
      record {
        day = λ after may. inr (stands after may);
        first = λ after beside may m. place.keeps.first after beside (may_kept l (path_at names Day) p past after nd ch may) (may_kept l (path_at names one) p past beside nw ch m);
        second = λ after beside may m. inl (stands after may);
      }) q changes

  -- the moments of a rename to the day's name
  pub taking_moments : {T : Type 0} (a b : List ℕ) (result : Result T TreeFault) (p q : List Step) → IsNoneOf (path_at names one) (path_at names Day ∷ path_at names DayPart ∷ []) → IsNoneOf (path_at names other) (path_at names Day ∷ path_at names DayPart ∷ [])
      → IsPrepared names one other a b p → TakesName (path_at names DayPart) (path_at names Day) result p q → AtEachMoment (K a b) p q
  taking_moments a b result p q nw nt prepared takes =
      let l = path_at names Day ∷ path_at names DayPart ∷ [] in
      with_changes (LeavesEither (path_at names Day) (Some a) (Some b)) (K a b) l p
      (λ past either ch. keeps_three a b past either (leaves_kept l (path_at names one) (Some a) p past nw ch prepared.aside.waits) (leaves_kept l (path_at names other) (Some b) p past nt ch prepared.aside.home.comes))
      q takes.acts.changes (takes.moments (Some a) b prepared.aside.home.day prepared.ready)

  pub back_moments : {T : Type 0} (a b : List ℕ) (result : Result T TreeFault) (p q : List Step) → IsNoneOf (path_at names one) (path_at names Day ∷ path_at names DayPart ∷ []) → IsNoneOf (path_at names other) (path_at names Day ∷ path_at names DayPart ∷ [])
      → MayGoBack names one other a b p → TakesName (path_at names DayPart) (path_at names Day) result p q → AtEachMoment (K a b) p q
  back_moments a b result p q nw nt back takes =
      let l = path_at names Day ∷ path_at names DayPart ∷ [] in
      with_changes (LeavesEither (path_at names Day) (Some b) (Some a)) (K a b) l p
      (λ past either ch. keeps_three a b past (λ after may. ⊎_elim (λ is. inr is) (λ is. inl is) (either after may))
      (leaves_kept l (path_at names one) (Some a) p past nw ch back.places.waits) (leaves_kept l (path_at names other) (Some b) p past nt ch back.places.comes))
      q takes.acts.changes (takes.moments (Some b) a back.places.day back.ready)

  -- what a name leads to that a crash leaves so
  pub is_seen : (past : List Step) (name : Path) (what : Option (List ℕ)) → Leaves past name what → seen past name ≡ what
  is_seen past name what holds = holds (seen past name) (leaves_seen past name)

  -- of a call that is handed on, or ends
  module _ (l : List Path) (Before : (a b : List ℕ) → List Step → Type 0) (more : (name : Path) → IsNoneOf name (all names) → IsNoneOf name l) (moments : (a b : List ℕ) (p q : List Step) → Before a b p → ChangesOnly l p q → AtEachMoment (K a b) p q) where
    pub keeps_end : {A : Type 0} (First : (old new : List Step) → A → Type 0) (first : Result A TreeFault) (result : Result Told TreeFault) (before after : List Step → Type 0)
        → (IsErrOf result fault.Failed → IsErrOf first fault.Failed)
        → ((a b : List ℕ) (p q : List Step) → Before a b p → IfOk first (λ x. First p q x) → ChangesOnly l p q → IfOk result (λ told. Says names one a b q told))
        → Goes before after (Acts l First first) → Goes before after (Keeps names one other Before result)
    keeps_end First first result before after fails says goes = goes_as _ _ before after (λ p q acts. record {
      changes = changes_more l (all names) p q more acts.changes;
      cause = λ is. acts.cause (fails is);
      safe = λ a b holds. moments a b p q holds acts.changes;
      answers = λ a b holds. says a b p q holds acts.does acts.changes;
    }) goes

    pub keeps_stopped : {A : Type 0} (First : (old new : List Step) → A → Type 0) (why : TreeFault) (before after : List Step → Type 0)
        → Goes before after (Acts l First (stopping A why)) → Goes before after (Keeps names one other Before (stopping Told why))
    keeps_stopped {A = A} First why before after goes =
        keeps_end First (stopping A why) (stopping Told why) before after (λ is. let so : why ≡ fault.Failed = cc in ap (λ w. Err w) so) (λ a b p q holds did changes. tt) goes

    pub keeps_then : {A : Type 0} (First : (old new : List Step) → A → Type 0) (Next : (a b : List ℕ) → List Step → Type 0) (x : A) (result : Result Told TreeFault) (before mid after : List Step → Type 0)
        → ((a b : List ℕ) (p q : List Step) → Before a b p → First p q x → ChangesOnly l p q → Next a b q)
        → Goes before mid (Acts l First (giving x)) → Goes mid after (Keeps names one other Next result) → Goes before after (Keeps names one other Before result)
    keeps_then First Next x result before mid after next first goes = record {
      from = λ new went.
          let later = goes.from new went in
          let sooner = first.from later.0 later.1 in
          let p = sooner.0 in
          let q = later.0 in (
            p,
            sooner.1,
            record {
              changes = changes_then (all names) p q new (changes_more l (all names) p q more sooner.2.changes) later.2.changes;
              cause = λ is.
                  let few = no_fewer l p q sooner.2.changes in
                  let rises = later.2.cause is in
                  omega arith;
              safe = λ a b holds. joined (K a b) p q new (moments a b p q holds sooner.2.changes) (later.2.safe a b (next a b p q holds sooner.2.does sooner.2.changes));
              answers = λ a b holds. later.2.answers a b (next a b p q holds sooner.2.does sooner.2.changes);
            },
          );
    }

-- an answer that says nothing of the contents
pub says_nothing : (names : Names) (one : Place) (a b : List ℕ) (new : List Step) (told : Told) → told ≢ Done → told ≢ Same → Says names one a b new told
says_nothing names one a b new told not_done not_same = record { done = λ is. absurd (not_done is); same = λ is. absurd (not_same is) }

-- A rename to the day's name, of which each crash leaves the one or the other.
module _ (names : Names) (one other : Place) (Before Next : (a b : List ℕ) → List Step → Type 0) where
  abbrev l : List Path
  l = path_at names Day ∷ path_at names DayPart ∷ []

  within : (name : Path) → IsNoneOf name (all names) → IsNoneOf name (path_at names Day ∷ path_at names DayPart ∷ [])
  within name none = (none.0, (none.1.0, tt))

  pub taking_stopped : (why : TreeFault) (before after : List Step → Type 0)
      → ((a b : List ℕ) (p q : List Step) → Before a b p → TakesName (path_at names DayPart) (path_at names Day) (stopping (Unit {0}) why) p q → AtEachMoment (KeepsBoth names one a other b) p q)
      → Goes before after (TakesName (path_at names DayPart) (path_at names Day) (stopping (Unit {0}) why)) → Goes before after (Keeps names one other Before (stopping Told why))
  taking_stopped why before after moments goes = goes_as _ _ before after (λ p q takes. record {
    changes = changes_more (path_at names Day ∷ path_at names DayPart ∷ []) (all names) p q within takes.acts.changes;
    cause = λ is. takes.acts.cause (let so : why ≡ fault.Failed = cc in ap (λ w. Err w) so);
    safe = λ a b holds. moments a b p q holds takes;
    answers = λ a b holds. tt;
  }) goes

  pub taking_then : (x : Unit {0}) (result : Result Told TreeFault) (before mid after : List Step → Type 0)
      → ((a b : List ℕ) (p q : List Step) → Before a b p → TakesName (path_at names DayPart) (path_at names Day) (giving x) p q → AtEachMoment (KeepsBoth names one a other b) p q)
      → ((a b : List ℕ) (p q : List Step) → Before a b p → TakesName (path_at names DayPart) (path_at names Day) (giving x) p q → Next a b q)
      → Goes before mid (TakesName (path_at names DayPart) (path_at names Day) (giving x)) → Goes mid after (Keeps names one other Next result) → Goes before after (Keeps names one other Before result)
  taking_then x result before mid after moments next first goes = record {
    from = λ new went.
        let later = goes.from new went in
        let sooner = first.from later.0 later.1 in
        let p = sooner.0 in
        let q = later.0 in (
          p,
          sooner.1,
          record {
            changes = changes_then (all names) p q new (changes_more (path_at names Day ∷ path_at names DayPart ∷ []) (all names) p q within sooner.2.acts.changes) later.2.changes;
            cause = λ is.
                let few = no_fewer (path_at names Day ∷ path_at names DayPart ∷ []) p q sooner.2.acts.changes in
                let rises = later.2.cause is in
                omega arith;
            safe = λ a b holds. joined (KeepsBoth names one a other b) p q new (moments a b p q holds sooner.2) (later.2.safe a b (next a b p q holds sooner.2));
            answers = λ a b holds. later.2.answers a b (next a b p q holds sooner.2);
          },
        );
  }

-- what is seen, by what is kept
some_of : (found : Option File) (b : List ℕ) → IsSome found → IfSome (option_map (λ file. file.bytes) found) (λ bytes. bytes ≡ b) → option_map (λ file. file.bytes) found ≡ Some b
some_of None b is every = cc
some_of (Some file) b is every = ap (λ x. Some x) every

is_some_of : (found : Option (List ℕ)) (bytes b : List ℕ) → found ≡ Some bytes → IfSome found (λ x. x ≡ b) → bytes ≡ b
is_some_of None bytes b is every = cc
is_some_of (Some x) bytes b is every = cc

pub seen_apart : (names : Names) (one other : Place) (a b : List ℕ) (p r : List Step) → AreKept names one other a b p → ChangesOnly [] p r → IsSome (now r (path_at names other)) → seen r (path_at names Day) ≢ seen r (path_at names other) → AreSeenApart names one other a b r
seen_apart names one other a b p r kept changes there differ =
    let t = path_at names other in
    let d = path_at names Day in
    let keeps = at_end (KeepsBoth names one a other b) p r (quiet_moments names one other [] a b p r tt tt tt kept.keeps changes) in
    let comes : seen r t ≡ Some b = some_of (now r t) b there (subst (λ f. IfSome f (λ bytes. bytes ≡ b)) (sym (seen_kept [] t p r tt changes)) kept.comes) in
    record {
      keeps = keeps;
      day = ⊎_elim (λ is. is) (λ is. absurd (differ (is ∙ sym comes))) (keeps.day (seen r d) (leaves_seen r d));
      comes = comes;
    }

pub day_is_other : (names : Names) (one other : Place) (a b : List ℕ) (p : List Step) → HaveOneContent names one other a b p → seen p (path_at names Day) ≡ Some b
day_is_other names one other a b p same =
    let d = path_at names Day in
    ⊎_elim
    (λ is. is ∙ ap (λ x. Some x) (is_some_of (seen p (path_at names other)) a b (sym same.same ∙ is) same.kept.comes))
    (λ is. is)
    (same.kept.keeps.day (seen p d) (leaves_seen p d))

pub in_place : (names : Names) (one other : Place) (a b : List ℕ) (p q : List Step) → HaveOneContent names one other a b p → ChangesOnly [] p q → ((bytes : List ℕ) → seen p (path_at names Day) ≡ Some bytes → Leaves q (path_at names Day) (Some bytes)) → IsInPlace names one other a b q
in_place names one other a b p q same changes stores = record {
  keeps = at_end (KeepsBoth names one a other b) p q (quiet_moments names one other [] a b p q tt tt tt same.kept.keeps changes);
  day = stores b (day_is_other names one other a b p same);
}
