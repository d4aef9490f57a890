-- What is read under the names of a day.
use Rattle.std.proofs.Common.{◌≡◌, ℕ, List, [], Option, None, Some, Result, Ok, Err, ap, sym, ◌∙◌, subst}
use Rattle.msr_devices.specs.Device.{Device, HasLeft, unused}
use Rattle.msr_tree.specs.Acts.{Acts}
use Rattle.msr_tree.specs.Calls.{Goes, Opens, Tells}
use Rattle.msr_tree.specs.declared.tree.TreeFault.{TreeFault}
use Rattle.msr_tree.specs.declared.tree.TreeFault.TheVariants as fault
use Rattle.msr_tree.proofs.Acting.{acts_tells, giving, goes_as, stopping}
use Rattle.msr_tree.specs.Steps.{ChangesOnly, Path, Step}
use Rattle.msr_tree.proofs.Changes.{seen_kept}
use Rattle.msr_verify.specs.Day.{DayAnswers, IsShownLeast, VerifiesDay}
use Rattle.msr_verify.specs.declared.judging.Finding.{Finding}
use Rattle.msr_verify.specs.declared.judging.VerifyFault.{VerifyFault}
use Rattle.msr_replace.specs.Answers.{IsFoundDay}
use Rattle.msr_replace.specs.Judging.{FindsOpen, IsOwnLeast, LeastOf, ReadsName}
use Rattle.msr_exchange.specs.Names.{Names}

pub reads_later : (path : Path) (device : Device) (p q : List Step) → ChangesOnly [] p q → ReadsName path device p → ReadsName path device q
reads_later path device p q changes reads = record { bytes = reads.bytes; is_seen = seen_kept [] path p q tt changes ∙ reads.is_seen; gives = reads.gives }

pub reads_of : (path : Path) (device : Device) (past : List Step) → Opens path past device → ReadsName path device past
reads_of path device past opens = record { bytes = opens.0; is_seen = opens.1; gives = opens.2 }

pub left_is : (device : Device) (bytes first : List ℕ) → device ≡ unused (Some bytes) → HasLeft device first → bytes ≡ first
left_is device bytes first is left = subst (λ d. HasLeft d first) is left

module _ (names : Names) (report : Path) (past : List Step) where
  pub found_by : (own packed text : Device) (answer : Result Finding VerifyFault) → ReadsName names.day own past → ReadsName names.records packed past → ReadsName report text past
      → VerifiesDay own packed text answer → IsFoundDay names report answer past
  found_by own packed text answer file records shows verifies =
      let one : file.bytes ≡ verifies.first = left_is own file.bytes verifies.first file.gives verifies.left_file in
      let two : records.bytes ≡ verifies.second = left_is packed records.bytes verifies.second records.gives verifies.left_records in
      let three : shows.bytes ≡ verifies.text = left_is text shows.bytes verifies.text shows.gives verifies.left_report in
      record {
        file = file.bytes;
        records = records.bytes;
        text = shows.bytes;
        bytes = record { day = file.is_seen; comes = records.is_seen; shows = shows.is_seen };
        answers =
            subst (λ x. DayAnswers x records.bytes shows.bytes answer) (sym one)
            (subst (λ x. DayAnswers verifies.first x shows.bytes answer) (sym two)
            (subst (λ x. DayAnswers verifies.first verifies.second x answer) (sym three) verifies.answers));
      }

  pub least_by : (own text : Device) → ReadsName names.day own past → ReadsName report text past → LeastOf own text → IsOwnLeast names report past
  least_by own text file shows least =
      let one : file.bytes ≡ least.first = left_is own file.bytes least.first file.gives least.left_records in
      let two : shows.bytes ≡ least.text = left_is text shows.bytes least.text shows.gives least.left_report in
      record {
        file = file.bytes;
        text = shows.bytes;
        day = file.is_seen;
        shows = shows.is_seen;
        least = subst (λ x. IsShownLeast x shows.bytes) (sym one) (subst (λ x. IsShownLeast least.first x) (sym two) least.least);
      }

-- a file that is opened, or cannot be
module _ {R : Type 0} (path : Path) (device : R → Device) where
  abbrev Told : (past : List Step) → R → Type 0
  Told past reader = Opens path past (device reader)

  abbrev Finds : (old new : List Step) → Option R → Type 0
  Finds old new found = FindsOpen path device old new found

  abbrev nothing : Result (Option R) TreeFault
  nothing = Ok None

  pub opened_some : (reader : R) (one two : List Step → Type 0) → Goes one two (Tells Told (giving reader)) → Goes one two (Acts [] Finds (giving (Some reader)))
  opened_some reader one two goes = goes_as _ _ one two (λ p q tells. record {
    changes = (acts_tells [] Told (giving reader) p q tells).changes;
    cause = λ is. cc;
    does = tells.1;
  }) goes

  pub opened_none : (why : TreeFault) (one two : List Step → Type 0) → why ≡ fault.Failed → Goes one two (Tells Told (stopping R why)) → Goes one two (Acts [] Finds (nothing))
  opened_none why one two failed goes = goes_as _ _ one two (λ p q tells.
      let acts = acts_tells [] Told (stopping R why) p q tells in
      record { changes = acts.changes; cause = λ is. cc; does = acts.cause (ap (λ w. Err w) failed) }) goes

  pub opened_refused : (why : TreeFault) (one two : List Step → Type 0) → Goes one two (Tells Told (stopping R why)) → Goes one two (Acts [] Finds (stopping (Option R) fault.Memory))
  opened_refused why one two goes = goes_as _ _ one two (λ p q tells. record {
    changes = (acts_tells [] Told (stopping R why) p q tells).changes;
    cause = λ is. cc;
    does = tt;
  }) goes
