-- The stamp of a day.
use Rattle.std.proofs.Common.{◌≡◌, Bool, true, List, [], ◌∷◌, subst, Result}
use Rattle.msr_tree.specs.Calls.{DoesStep, Goes}
use Rattle.msr_tree.specs.Folders.{ChangesFiles}
use Rattle.msr_tree.specs.Steps.{IsReady, Removed, Step}
use Rattle.msr_tree.specs.declared.facts.Facts.{Facts}
use Rattle.msr_tree.specs.declared.tree.TreeFault.{TreeFault}
use Rattle.msr_tree.proofs.Acting.{goes_as}
use Rattle.msr_tree.proofs.Filing.{acts_does, changes_more, changes_none, changes_then}
use Rattle.msr_naming.specs.Making.{WritesText}
use Rattle.msr_naming.specs.Stamp.{stamp_of, stamp_text}
use Rattle.msr_naming.specs.declared.stamp.Stamp.{Stamp}
use Rattle.msr_naming.specs.declared.stamp.StampOf.TheVariants.{Input}
use Rattle.msr_naming.proofs.FallingBack.{goes_both}
use Rattle.msr_naming.specs.declared.files.DayFiles.{DayFiles}
use Rattle.msr_making.specs.Stamping.{StampsAsked}
use Rattle.msr_making.specs.declared.answer.Left.{Left}
use Rattle.msr_making.specs.declared.answer.Left.TheVariants as left
use Rattle.msr_making.specs.declared.looks.Sight.{Sight}
use Rattle.msr_making.specs.declared.looks.Sight.TheVariants.{Found}

module _ (sight : Sight) (files : DayFiles) (is_stored : Bool) where
  pub stamps_none : (one : List Step → Type 0) → Goes one one (StampsAsked sight files is_stored left.Nothing)
  stamps_none one = record { from = λ new went. (new, went, record { changes = changes_none (files.stamp.part ∷ []) new; waits = λ is. absurd cc }) }

  pub stamps_changed : (one two : List Step → Type 0) → Goes one two (λ p q. ChangesFiles [] p q) → Goes one two (StampsAsked sight files is_stored left.Nothing)
  stamps_changed one two goes = goes_as _ _ one two (λ p q x. record { changes = changes_more [] (files.stamp.part ∷ []) p q (λ n none. tt) x; waits = λ is. absurd cc }) goes

  pub stamps_well : (facts : Facts) (stamp : Stamp) (answer : Bool) (one mid two : List Step → Type 0) → sight ≡ Found facts → is_stored ≡ true → stamp ≡ stamp_of facts → answer ≡ true
      → Goes one mid (λ p q. ChangesFiles [] p q) → Goes mid two (WritesText files.stamp.part (stamp_text Input stamp) answer) → Goes one two (StampsAsked sight files is_stored left.Stamp)
  stamps_well facts stamp answer one mid two found stored is so first second = goes_both _ _ _ one mid two
      (λ p q r x y. record {
        changes = changes_then (files.stamp.part ∷ []) p q r (changes_more [] (files.stamp.part ∷ []) p q (λ n none. tt) x) y.changes;
        waits = λ w. (stored, record { facts = facts; found = found; ready = subst (λ (s : Stamp). IsReady files.stamp.part (stamp_text Input s) r) is (y.ready so) });
      }) first second

  pub stamps_failed : {A : Type 0} (stamp : Stamp) (answer : Bool) (removed : Result A TreeFault) (rest : Left) (one two three four : List Step → Type 0) → (rest ≡ left.Stamp → ⊥)
      → Goes one two (λ p q. ChangesFiles [] p q) → Goes two three (WritesText files.stamp.part (stamp_text Input stamp) answer) → Goes three four (DoesStep (Removed files.stamp.part) removed) → Goes one four (StampsAsked sight files is_stored rest)
  stamps_failed stamp answer removed rest one two three four not first second third =
      let l = files.stamp.part ∷ [] in
      goes_both _ _ _ one two four
      (λ p q r x y. record { changes = changes_then (files.stamp.part ∷ []) p q r (changes_more [] (files.stamp.part ∷ []) p q (λ n none. tt) x) y; waits = λ is. absurd (not is) }) first
      (goes_both _ _ (λ q r. ChangesFiles (files.stamp.part ∷ []) q r) two three four
      (λ q m r x y. changes_then (files.stamp.part ∷ []) q m r x.changes (acts_does (files.stamp.part ∷ []) (Removed files.stamp.part) removed m r (λ name none. none.0) tt y).changes) second third)
