-- Names that are taken away.
use Rattle.std.proofs.Common.{◌≡◌, List, [], ◌∷◌, ◌++◌, refl, sym, ap, subst, None, Result, Ok, Err, IfOk}
use Rattle.std.proofs.lemmas.List.Elements.{All-append, All-cons, All-nil}
use Rattle.msr_tree.specs.Acts.{Acts}
use Rattle.msr_tree.specs.Calls.{DoesStep, Goes}
use Rattle.msr_tree.specs.Steps.{Path, Removed, Step, now}
use Rattle.msr_tree.specs.declared.tree.TreeFault.{TreeFault}
use Rattle.msr_tree.proofs.Acting.{giving, goes_step, stopping, then_given, then_ok, then_stopped, told_as}
use Rattle.msr_tree.proofs.Crash.{is_self}
use Rattle.msr_tree.proofs.Deeds.{without}
use Rattle.msr_exchange.specs.Moves.{Clears}

removes : (path : Path) (old : List Step) → Clears {T = Unit {0}} (path ∷ []) old (Removed path ∷ old) tt
removes path old = record {
  gone = All-cons (λ name. now (Removed path ∷ old) name ≡ None) path [] (rw (is_self path) refl) (All-nil (λ name. now (Removed path ∷ old) name ≡ None));
  none_given = λ name none. without (Removed path) old name tt none;
}

-- a name is taken away
pub removed_one : (path given : Path) (result : Result (Unit {0}) TreeFault) (one two : List Step → Type 0) → given ≡ path → Goes one two (DoesStep (Removed given) result)
    → Goes one two (Acts (path ∷ []) (Clears {T = Unit {0}} (path ∷ [])) result)
removed_one path given result one two same goes =
    told_as {A = Unit {0}} {B = Unit {0}} (path ∷ []) (path ∷ []) _ (Clears {T = Unit {0}} (path ∷ [])) result result one two (λ is. is) (λ n none. none) (λ p q did ch. cleared result p q did)
    (goes_step {T = Unit {0}} (path ∷ []) _ (Removed path) result one two (ap (λ n. Removed n) same) (λ n none. none.0) goes)
  where
    cleared : (r : Result (Unit {0}) TreeFault) (p q : List Step) → IfOk r (λ b. q ≡ Removed path ∷ p) → IfOk r (λ b. Clears {T = Unit {0}} (path ∷ []) p q b)
    cleared (Ok tt) p q did = subst (λ (l : List Step). Clears {T = Unit {0}} (path ∷ []) p l tt) (sym did) (removes path p)
    cleared (Err why) p q did = tt

-- what is gone stays so
clears_both : (few more : List Path) (p q r : List Step) (a b c : Unit {0}) → Clears {T = Unit {0}} few p q a → Clears {T = Unit {0}} more q r b → Clears {T = Unit {0}} (few ++ more) p r c
clears_both few more p q r a b c first second = record {
  gone = All-append (λ name. now r name ≡ None) few more (λ k d inside. second.none_given _ (first.gone k d inside)) second.gone;
  none_given = λ name none. second.none_given name (first.none_given name none);
}

-- some names are taken away, and then others
module _ (names few more : List Path) (one mid two : List Step → Type 0) (first : Goes one mid (Acts names (Clears {T = Unit {0}} few) (giving tt))) where
  pub clears_more : Goes mid two (Acts names (Clears {T = Unit {0}} more) (giving tt)) → Goes one two (Acts names (Clears {T = Unit {0}} (few ++ more)) (giving tt))
  clears_more second =
      then_ok {A = Unit {0}} {B = Unit {0}} {C = Unit {0}} names (Clears few) (Clears more) (Clears (few ++ more)) tt tt tt one mid two
      (λ p q r a b x y. clears_both few more p q r tt tt tt a b) first second

  pub clears_stopped : (all : List Path) (why : TreeFault) → Goes mid two (Acts names (Clears {T = Unit {0}} more) (stopping (Unit {0}) why))
      → Goes one two (Acts names (Clears {T = Unit {0}} all) (stopping (Unit {0}) why))
  clears_stopped all why second =
      then_stopped {A = Unit {0}} {B = Unit {0}} {C = Unit {0}} names (Clears few) (Clears more) (Clears all) tt why one mid two first second

  pub clears_last : (result : Result (Unit {0}) TreeFault) → Goes mid two (Acts names (Clears {T = Unit {0}} more) result)
      → Goes one two (Acts names (Clears {T = Unit {0}} (few ++ more)) result)
  clears_last result second =
      then_given {A = Unit {0}} {B = Unit {0}} names (Clears few) (Clears more) (Clears (few ++ more)) tt result one mid two
      (λ p q r b a c x y. clears_both few more p q r tt b b a c) first second
