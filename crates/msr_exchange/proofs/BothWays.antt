-- What both ways say of a day: the one file has its name in ROOT, and the other comes.
use Rattle.std.proofs.Common.{[], ◌∷◌, Bool, ℕ, List, Some, IfSome, Result, true, false, ◌≡◌, ◌≢◌, ◌∙◌, sym, subst}
use Rattle.msr_tree.specs.Acts.{Acts}
use Rattle.msr_tree.specs.Calls.{Goes, IsSameAs, Tells}
use Rattle.msr_tree.specs.Steps.{AtEachMoment, ChangesOnly, IsNoneOf, Leaves, Path, Step, seen}
use Rattle.msr_tree.specs.declared.tree.TreeFault.{TreeFault}
use Rattle.msr_tree.proofs.Acting.{giving, goes_same, stopping, then_ok, then_stopped}
use Rattle.msr_tree.proofs.Changes.{leaves_kept, seen_kept}
use Rattle.msr_tree.proofs.Moments.{at_end}
use Rattle.msr_exchange.specs.Moves.{Anything, Stores, TakesName}
use Rattle.msr_exchange.specs.Names.{AreNames, Names, is_place, path_at}
use Rattle.msr_exchange.specs.Phases.{AreHome, AreSeenApart, HaveOneContent, HavePlaces, IsInPlace, IsPrepared}
use Rattle.msr_exchange.specs.Promise.{AreKept, Keeps, KeepsAll, KeepsBoth}
use Rattle.msr_exchange.specs.declared.names.Place.{Place}
use Rattle.msr_exchange.specs.declared.names.Place.TheVariants.{Day, DayPart}
use Rattle.msr_exchange.specs.declared.told.Told.{Told}
use Rattle.msr_exchange.specs.declared.told.Told.TheVariants.{Done, Same}
use Rattle.msr_exchange.proofs.Alone.{all_end, all_stopped, all_then}
use Rattle.msr_exchange.proofs.Phases.{in_place, quiet_moments, says_nothing, seen_apart, taking_moments, taking_stopped, taking_then}

module _ (names : Names) (one other : Place) where
  abbrev K : (a b : List ℕ) → List Step → Type 0
  K a b = KeepsBoth names one a other b

  abbrev Both : (Before : (a b : List ℕ) → List Step → Type 0) → Result Told TreeFault → (old new : List Step) → Type 0
  Both Before result = KeepsAll names one other Before result

  -- no name has changed yet
  module _ (Before : (a b : List ℕ) → List Step → Type 0) (keeps : (a b : List ℕ) (past : List Step) → Before a b past → K a b past) where
    moments : (a b : List ℕ) (p q : List Step) → Before a b p → ChangesOnly [] p q → AtEachMoment (K a b) p q
    moments a b p q holds ch = quiet_moments names one other [] a b p q tt tt tt (keeps a b p holds) ch

    still_stopped : {A : Type 0} (First : (old new : List Step) → A → Type 0) (why : TreeFault) (before after : List Step → Type 0)
        → Goes before after (Acts [] First (stopping A why)) → Goes before after (Both Before (stopping Told why))
    still_stopped First why before after goes = all_stopped names one other [] Before (λ n none. tt) moments tt tt First why before after goes

    still_then : {A : Type 0} (First : (old new : List Step) → A → Type 0) (Next : (a b : List ℕ) → List Step → Type 0) (x : A) (result : Result Told TreeFault) (before mid after : List Step → Type 0)
        → ((a b : List ℕ) (p q : List Step) → Before a b p → First p q x → ChangesOnly [] p q → Next a b q)
        → Goes before mid (Acts [] First (giving x)) → Goes mid after (Both Next result) → Goes before after (Both Before result)
    still_then First Next x result before mid after next first goes =
        all_then names one other [] Before (λ n none. tt) moments tt tt First Next x result before mid after next first goes

  -- Something is asked first.
  pub asked_stopped : (why : TreeFault) (before after : List Step → Type 0) → Goes before after (Acts [] (Anything {T = Bool}) (stopping Bool why)) → Goes before after (Both (AreKept names one other) (stopping Told why))
  asked_stopped why before after goes = still_stopped (AreKept names one other) (λ a b past kept. kept.keeps) (Anything {T = Bool}) why before after goes

  pub asked_told : (x : Bool) (answer : Told) (before after : List Step → Type 0) → answer ≢ Done → answer ≢ Same
      → Goes before after (Acts [] (Anything {T = Bool}) (giving x)) → Goes before after (Both (AreKept names one other) (giving answer))
  asked_told x answer before after not_done not_same goes =
      all_end names one other [] (AreKept names one other) (λ n none. tt) (moments (AreKept names one other) (λ a b past kept. kept.keeps)) tt tt
      (Anything {T = Bool}) (giving x) (giving answer) before after (λ is. cc)
      (λ a b p q kept did ch. says_nothing names one a b q answer not_done not_same) goes

  -- And then, whether the two are one file.
  module _ (x : Bool) (given_day given_other : Path) (before mid after : List Step → Type 0) (is_day : given_day ≡ path_at names Day) (is_other : given_other ≡ path_at names other)
      (first : Goes before mid (Acts [] (Anything {T = Bool}) (giving x))) where
    abbrev Looked : Result Bool TreeFault → Type 0
    Looked result = Goes mid after (Tells (IsSameAs given_day given_other) result)

    looks : (result : Result Bool TreeFault) → Looked result → Goes mid after (Acts [] (λ old new answer. (new ≡ old) × IsSameAs (path_at names Day) (path_at names other) old answer) result)
    looks result looked = goes_same [] given_day given_other (path_at names Day) (path_at names other) result mid after is_day is_other looked

    pub same_stopped : (why : TreeFault) → Looked (stopping Bool why) → Goes before after (Both (AreKept names one other) (stopping Told why))
    same_stopped why looked = asked_stopped why before after
        (then_stopped {A = Bool} {B = Bool} {C = Bool} [] (Anything {T = Bool}) _ (Anything {T = Bool}) x why before mid after first (looks (stopping Bool why) looked))

    looked_then : (Next : (a b : List ℕ) → List Step → Type 0) (y : Bool) (result : Result Told TreeFault) (end : List Step → Type 0)
        → ((a b : List ℕ) (p q : List Step) → AreKept names one other a b p → IsSameAs (path_at names Day) (path_at names other) q y → ChangesOnly [] p q → Next a b q)
        → Looked (giving y) → Goes after end (Both Next result) → Goes before end (Both (AreKept names one other) result)
    looked_then Next y result end next looked goes =
        let Shown : (old new : List Step) → Bool → Type 0 = λ old new z. IsSameAs (path_at names Day) (path_at names other) new z in
        still_then (AreKept names one other) (λ a b past kept. kept.keeps) Shown Next y result before after end next
        (then_ok {A = Bool} {B = Bool} {C = Bool} [] (Anything {T = Bool}) _ Shown x y y before mid after
        (λ p q r any same u v. subst (λ s. Shown s s y) (sym same.0) same.1) first (looks (giving y) looked)) goes

    pub same_then : (y : Bool) (result : Result Told TreeFault) (end : List Step → Type 0) → y ≡ true
        → Looked (giving y) → Goes after end (Both (HaveOneContent names one other) result) → Goes before end (Both (AreKept names one other) result)
    same_then y result end is looked goes = looked_then (HaveOneContent names one other) y result end (λ a b p q kept same ch. record {
      kept = record {
        keeps = at_end (K a b) p q (quiet_moments names one other [] a b p q tt tt tt kept.keeps ch);
        comes = subst (λ f. IfSome f (λ bytes. bytes ≡ b)) (sym (seen_kept [] (path_at names other) p q tt ch)) kept.comes;
      };
      same = same.yes is;
    }) looked goes

    pub apart_then : (y : Bool) (result : Result Told TreeFault) (end : List Step → Type 0) → y ≡ false
        → Looked (giving y) → Goes after end (Both (AreSeenApart names one other) result) → Goes before end (Both (AreKept names one other) result)
    apart_then y result end is looked goes =
        looked_then (AreSeenApart names one other) y result end (λ a b p q kept same ch. seen_apart names one other a b p q kept ch same.has_other (same.no is)) looked goes

  -- The day's file is put on the disk.
  abbrev Settled : (place : Place) → Result (Unit {0}) TreeFault → (old new : List Step) → Type 0
  Settled place result = Acts [] (Stores (path_at names place) {T = Unit {0}}) result

  pub one_stopped : (why : TreeFault) (before after : List Step → Type 0) → Goes before after (Settled Day (stopping (Unit {0}) why)) → Goes before after (Both (HaveOneContent names one other) (stopping Told why))
  one_stopped why before after goes =
      still_stopped (HaveOneContent names one other) (λ a b past same. same.kept.keeps) (Stores (path_at names Day) {T = Unit {0}}) why before after goes

  pub one_then : (result : Result Told TreeFault) (before mid after : List Step → Type 0) → Goes before mid (Settled Day (giving {A = Unit {0}} tt))
      → Goes mid after (Both (IsInPlace names one other) result) → Goes before after (Both (HaveOneContent names one other) result)
  one_then result before mid after first goes =
      still_then (HaveOneContent names one other) (λ a b past same. same.kept.keeps) (Stores (path_at names Day) {T = Unit {0}}) (IsInPlace names one other) tt result before mid after
      (λ a b p q same stores ch. in_place names one other a b p q same ch stores) first goes

  pub day_stopped : (why : TreeFault) (before after : List Step → Type 0) → Goes before after (Settled Day (stopping (Unit {0}) why)) → Goes before after (Both (AreSeenApart names one other) (stopping Told why))
  day_stopped why before after goes =
      still_stopped (AreSeenApart names one other) (λ a b past apart. apart.keeps) (Stores (path_at names Day) {T = Unit {0}}) why before after goes

  -- And the other.
  module _ (before mid after : List Step → Type 0) (first : Goes before mid (Settled Day (giving {A = Unit {0}} tt))) where
    pub both_stopped : (why : TreeFault) → Goes mid after (Settled other (stopping (Unit {0}) why)) → Goes before after (Both (AreSeenApart names one other) (stopping Told why))
    both_stopped why second =
        still_stopped (AreSeenApart names one other) (λ a b past apart. apart.keeps) (Anything {T = Unit {0}}) why before after
        (then_stopped {A = Unit {0}} {B = Unit {0}} {C = Unit {0}} [] (Stores (path_at names Day) {T = Unit {0}}) (Stores (path_at names other) {T = Unit {0}}) (Anything {T = Unit {0}}) tt why before mid after first second)

    pub both_then : (result : Result Told TreeFault) (end : List Step → Type 0) → Goes mid after (Settled other (giving {A = Unit {0}} tt))
        → Goes after end (Both (AreHome names one other) result) → Goes before end (Both (AreSeenApart names one other) result)
    both_then result end second goes =
        let d = path_at names Day in
        let t = path_at names other in
        let both = then_ok {A = Unit {0}} {B = Unit {0}} {C = Unit {0}} [] (Stores d {T = Unit {0}}) (Stores t {T = Unit {0}})
        (λ old new x. (a b : List ℕ) → seen old d ≡ Some a → seen old t ≡ Some b → Leaves new d (Some a) × Leaves new t (Some b)) tt tt tt before mid after
        (λ p q r first second u v. λ a b day comes. (leaves_kept [] d (Some a) q r tt v (first a day), second b (seen_kept [] t p q tt u ∙ comes))) first second in
        still_then (AreSeenApart names one other) (λ a b past apart. apart.keeps) _ (AreHome names one other) tt result before after end
        (λ a b p q apart stores ch. let at = stores a b apart.day apart.comes in record { day = at.0; comes = at.1 }) both goes

  -- The other takes the day's name.
  module _ (are : AreNames names) (one_day : is_place one Day ≡ false) (one_part : is_place one DayPart ≡ false) (other_day : is_place other Day ≡ false) (other_part : is_place other DayPart ≡ false) where
    abbrev l : List Path
    l = path_at names Day ∷ path_at names DayPart ∷ []

    one_apart : IsNoneOf (path_at names one) l
    one_apart = (are.apart one Day one_day, (are.apart one DayPart one_part, tt))

    other_apart : IsNoneOf (path_at names other) l
    other_apart = (are.apart other Day other_day, (are.apart other DayPart other_part, tt))

    pub taken_stopped : (why : TreeFault) (before after : List Step → Type 0) → Goes before after (TakesName (path_at names DayPart) (path_at names Day) (stopping (Unit {0}) why))
        → Goes before after (Keeps names one other (IsPrepared names one other) (stopping Told why))
    taken_stopped why before after goes =
        taking_stopped names one other (IsPrepared names one other) (HavePlaces names one other) why before after
        (λ a b p q prepared takes. taking_moments names one other a b _ p q one_apart other_apart prepared takes) goes

    pub taken_then : (result : Result Told TreeFault) (before mid after : List Step → Type 0) → Goes before mid (TakesName (path_at names DayPart) (path_at names Day) (giving {A = Unit {0}} tt))
        → Goes mid after (Keeps names one other (HavePlaces names one other) result) → Goes before after (Keeps names one other (IsPrepared names one other) result)
    taken_then result before mid after first goes =
        taking_then names one other (IsPrepared names one other) (HavePlaces names one other) tt result before mid after
        (λ a b p q prepared takes. taking_moments names one other a b _ p q one_apart other_apart prepared takes)
        (λ a b p q prepared takes. record {
          day = takes.acts.does b prepared.ready;
          waits = leaves_kept l (path_at names one) (Some a) p q one_apart takes.acts.changes prepared.aside.waits;
          comes = leaves_kept l (path_at names other) (Some b) p q other_apart takes.acts.changes prepared.aside.home.comes;
        }) first goes
