-- What is told of a day whose original was to get its place again.
use Rattle.std.proofs.Common.{◌≡◌, ℕ, List, Some, Err, refl, ap}
use Rattle.msr_tree.specs.Calls.{Goes}
use Rattle.msr_tree.specs.Steps.{Leaves, Step}
use Rattle.msr_tree.specs.declared.tree.TreeFault.{TreeFault}
use Rattle.msr_tree.specs.declared.tree.TreeFault.TheVariants as fault
use Rattle.msr_tree.proofs.Acting.{giving, goes_as, stopping}
use Rattle.msr_exchange.specs.Names.{Names}
use Rattle.msr_exchange.specs.Promise.{AreKept, HasItsPlace, Restores, Says}
use Rattle.msr_replace.specs.Restored.{PutsBackDay, restored_of}
use Rattle.msr_replace.specs.declared.answers.DayRestored.{DayRestored}
use Rattle.msr_replace.specs.declared.answers.DayRestored.TheVariants as restored
use Rattle.msr_exchange.specs.declared.names.Place.TheVariants.{Original, Records}
use Rattle.msr_exchange.specs.declared.told.Told.{Told}
use Rattle.msr_exchange.specs.declared.told.Told.TheVariants as told

module _ (names : Names) where
  abbrev Back : (a b : List ℕ) → List Step → Type 0
  Back = AreKept names Records Original

  pub restored_ok : (x : Told) (before after : List Step → Type 0) → Goes before after (Restores names Records Original Back (giving x)) → Goes before after (PutsBackDay names (giving (restored_of x)))
  restored_ok x before after goes = goes_as _ _ before after (λ p q restores. record {
    changes = restores.all_kept.keeps.changes;
    cause = λ is. cc;
    safe = restores.all_kept.keeps.safe;
    alone = restores.all_kept.alone;
    answers = λ a b kept. in_place x a b q (restores.all_kept.keeps.answers a b kept);
    gives_back = λ b none waits. ((restores.gives_back b none waits).0, has_back x b q (restores.gives_back b none waits).1);
  }) goes
    where
      in_place : (x : Told) (a b : List ℕ) (q : List Step) → Says names Records a b q x → restored_of x ≡ restored.Restored → Leaves q names.day (Some b)
      in_place told.Done a b q says is = (says.done refl).day
      in_place told.Same a b q says is = says.same refl
      in_place told.Changed a b q says is = cc
      in_place (told.Refused why) a b q says is = cc

      has_back : (x : Told) (b : List ℕ) (q : List Step) → (HasItsPlace x → Leaves q names.day (Some b)) → restored_of x ≡ restored.Restored → Leaves q names.day (Some b)
      has_back told.Done b q so is = so tt
      has_back told.Same b q so is = so tt
      has_back told.Changed b q so is = cc
      has_back (told.Refused why) b q so is = cc

  pub restored_stopped : (why : TreeFault) (before after : List Step → Type 0) → Goes before after (Restores names Records Original Back (stopping Told why)) → Goes before after (PutsBackDay names (stopping DayRestored why))
  restored_stopped why before after goes = goes_as _ _ before after (λ p q restores. record {
    changes = restores.all_kept.keeps.changes;
    cause = λ is. restores.all_kept.keeps.cause (let so : why ≡ fault.Failed = cc in ap (λ w. Err w) so);
    safe = restores.all_kept.keeps.safe;
    alone = restores.all_kept.alone;
    answers = λ a b kept. tt;
    gives_back = λ b none waits. ((restores.gives_back b none waits).0, tt);
  }) goes
