-- A day is stamped, or not, by what is told of it.
use Rattle.std.proofs.Common.{◌≢◌, List, refl}
use Rattle.msr_tree.specs.Calls.{Goes}
use Rattle.msr_tree.specs.Steps.{Step}
use Rattle.msr_tree.proofs.Acting.{goes_as}
use Rattle.msr_tree.proofs.Changes.{changes_none}
use Rattle.msr_naming.specs.declared.stamp.StampOf.TheVariants as stamped
use Rattle.msr_exchange.specs.Names.{Names, StampPlaces}
use Rattle.msr_exchange.specs.Stamped.{StampsDay, stamp_names}
use Rattle.msr_replace.specs.Stamping.{StampsRestored}
use Rattle.msr_replace.specs.declared.answers.DayRestored.{DayRestored}
use Rattle.msr_replace.specs.declared.answers.DayRestored.TheVariants.{Restored}

module _ (stamp : StampPlaces) (names : Names) where
  pub restored_stamped : (one two : List Step → Type 0) → Goes one two (StampsDay names stamp stamped.Input) → Goes one two (StampsRestored names stamp Restored)
  restored_stamped one two goes = goes_as _ _ one two (λ p q stamps. record { changes = stamps.changes; adds = λ are is. stamps.adds are; none = λ not. absurd (not refl) }) goes

  pub restored_not : (answer : DayRestored) (one : List Step → Type 0) → answer ≢ Restored → Goes one one (StampsRestored names stamp answer)
  restored_not answer one not = record {
    from = λ new went. (new, went, record { changes = changes_none (stamp_names stamp) new; adds = λ are is. absurd (not is); none = λ n. refl });
  }
