-- Calls that change nothing, one after another, whose failures are noted.
use Rattle.std.proofs.Common.{◌≡◌, ◌∙◌, List, [], Result, Ok, Err, IfOk, subst}
use Rattle.msr_tree.specs.Acts.{Acts}
use Rattle.msr_tree.specs.Calls.{Goes, Tells}
use Rattle.msr_tree.specs.Steps.{Step}
use Rattle.msr_tree.specs.declared.tree.TreeFault.{TreeFault}
use Rattle.msr_tree.proofs.Acting.{acts_tells, giving, goes_as, stopped_as, stopping, then_given, then_ok, told_as}
use Rattle.msr_exchange.specs.Moves.{Anything}

pub calm_tells : {A : Type 0} (Says : List Step → A → Type 0) (result : Result A TreeFault) (one two : List Step → Type 0) → Goes one two (Tells Says result)
    → Goes one two (Acts [] (Anything {T = A}) result)
calm_tells {A = A} Says result one two goes = goes_as _ _ one two (λ p q tells.
    let acts = acts_tells [] Says result p q tells in
    record { changes = acts.changes; cause = acts.cause; does = if_ok result }) goes
  where
    if_ok : {A : Type 0} (r : Result A TreeFault) → IfOk r (λ a. Unit {0})
    if_ok (Ok a) = tt
    if_ok (Err why) = tt

pub calm_told : {A B : Type 0} (a : A) (b : B) (one two : List Step → Type 0) → Goes one two (Acts [] (Anything {T = A}) (giving a)) → Goes one two (Acts [] (Anything {T = B}) (giving b))
calm_told {A = A} {B = B} a b one two goes =
    told_as {A = A} {B = B} [] [] (Anything {T = A}) (Anything {T = B}) (giving a) (giving b) one two (λ is. cc) (λ n none. none) (λ p q did changes. tt) goes

pub calm_stopped : {A B : Type 0} (why : TreeFault) (one two : List Step → Type 0) → Goes one two (Acts [] (Anything {T = A}) (stopping A why)) → Goes one two (Acts [] (Anything {T = B}) (stopping B why))
calm_stopped {A = A} {B = B} why one two goes = stopped_as {A = A} {B = B} [] (Anything {T = A}) (Anything {T = B}) why one two goes

pub calm_then : {A B : Type 0} (a : A) (result : Result B TreeFault) (one mid two : List Step → Type 0) → Goes one mid (Acts [] (Anything {T = A}) (giving a))
    → Goes mid two (Acts [] (Anything {T = B}) result) → Goes one two (Acts [] (Anything {T = B}) result)
calm_then {A = A} {B = B} a result one mid two first goes =
    then_given {A = A} {B = B} [] (Anything {T = A}) (Anything {T = B}) (Anything {T = B}) a result one mid two (λ p q r b x y c d. tt) first goes

-- what is told of the names as they are
abbrev pub Still : {A : Type 0} → (List Step → A → Type 0) → (old new : List Step) → A → Type 0
Still Says old new answer = (new ≡ old) × Says old answer

module _ {A B C : Type 0} (One : List Step → A → Type 0) (Two : List Step → B → Type 0) (Says : List Step → C → Type 0) (a : A) (one mid two : List Step → Type 0) where
  pub still_then : (b : B) (x : C) → ((past : List Step) → One past a → Two past b → Says past x) → Goes one mid (Acts [] (Still One) (giving a)) → Goes mid two (Acts [] (Still Two) (giving b))
      → Goes one two (Acts [] (Still Says) (giving x))
  still_then b x so first second =
      then_ok {A = A} {B = B} {C = C} [] (Still One) (Still Two) (Still Says) a b x one mid two
      (λ p q r f s c d. (s.0 ∙ f.0, so p f.1 (subst (λ l. Two l b) f.0 s.1))) first second
