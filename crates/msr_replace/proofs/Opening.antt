-- Opening the files of a day one after another, and what they show.
use Rattle.std.proofs.Common.{◌≡◌, ◌<◌, inr, Bool, true, false, List, [], Option, None, Some, Result, Ok, Err, sym, ◌∙◌, subst}
use Rattle.msr_devices.specs.Device.{Device}
use Rattle.msr_input.specs.declared.fault.ReadFault.{ReadFault}
use Rattle.msr_tree.specs.Acts.{Acts}
use Rattle.msr_tree.specs.Calls.{Goes}
use Rattle.msr_tree.specs.Steps.{ChangesOnly, Path, Step, failures}
use Rattle.msr_tree.specs.declared.tree.TreeFault.{TreeFault}
use Rattle.msr_tree.proofs.Acting.{giving, stopped_as, stopping}
use Rattle.msr_tree.proofs.Changes.{seen_kept}
use Rattle.msr_verify.specs.Day.{VerifiesDay}
use Rattle.msr_verify.specs.declared.judging.Finding.{Finding}
use Rattle.msr_verify.specs.declared.judging.Finding.TheVariants as finding
use Rattle.msr_verify.specs.declared.judging.VerifyFault.{VerifyFault}
use Rattle.msr_replace.specs.Answers.{IsFoundDay}
use Rattle.msr_replace.specs.Judging.{FindsOpen, IsOpenedDay, IsOpenedBeside, IsOwnLeast, ReadsName, TellsKinds, kinds_refusal, opened_as_found}
use Rattle.msr_replace.specs.Kinds.{HoldsInt24, LacksInt24, TellsInt24}
use Rattle.msr_exchange.specs.Names.{Names}
use Rattle.msr_replace.specs.declared.verifying.Opened.{Opened}
use Rattle.msr_replace.specs.declared.verifying.Opened.TheVariants as opened
use Rattle.msr_exchange.specs.declared.work.DayWork.{DayWork}
use Rattle.msr_replace.proofs.Judged.{found_sooner, told_after, told_sooner, told_then}
use Rattle.msr_replace.proofs.Reading.{found_by, left_is, reads_of}

-- a file that is opened under a name
module _ {R : Type 0} (device : R → Device) (given : Path) where
  abbrev Finds : (old new : List Step) → Option R → Type 0
  Finds = FindsOpen given device

  pub opening_stopped : {B : Type 0} (Done : (old new : List Step) → B → Type 0) (why : TreeFault) (one two : List Step → Type 0) → Goes one two (Acts [] Finds (stopping (Option R) why)) → Goes one two (Acts [] Done (stopping B why))
  opening_stopped {B = B} Done why one two goes = stopped_as {A = Option R} {B = B} [] Finds Done why one two goes

  -- it cannot be opened
  pub unopened_as : {B : Type 0} (Done : (old new : List Step) → B → Type 0) (found : Option R) (b : B) (one two : List Step → Type 0) → found ≡ None → ((p q : List Step) → failures p < failures q → Done p q b) → Goes one two (Acts [] Finds (giving found)) → Goes one two (Acts [] Done (giving b))
  unopened_as Done found b one two is so goes = told_after Finds Done found b one two (λ p q ch f. so p q (subst (λ o. FindsOpen given device p q o) is f)) goes

  -- it is, and what it gives is read
  pub opened_as : {B : Type 0} (path : Path) (Done : (old new : List Step) → B → Type 0) (found : Option R) (reader : R) (b : B) (one two : List Step → Type 0) → given ≡ path → found ≡ Some reader
      → ((p q : List Step) → ReadsName path (device reader) p → Done p q b) → Goes one two (Acts [] Finds (giving found)) → Goes one two (Acts [] Done (giving b))
  opened_as path Done found reader b one two same is so goes = told_after Finds Done found b one two
      (λ p q ch f. so p q (subst (λ n. ReadsName n (device reader) p) same (reads_of given (device reader) p (subst (λ o. FindsOpen given device p q o) is f)))) goes

  -- and then
  pub opened_then : {B : Type 0} (path : Path) (Second Done : (old new : List Step) → B → Type 0) (found : Option R) (reader : R) (result : Result B TreeFault) (one mid two : List Step → Type 0) → given ≡ path → found ≡ Some reader
      → ((p q r : List Step) (b : B) → ChangesOnly [] p q → ReadsName path (device reader) p → Second q r b → Done p r b)
      → Goes one mid (Acts [] Finds (giving found)) → Goes mid two (Acts [] Second result) → Goes one two (Acts [] Done result)
  opened_then path Second Done found reader result one mid two same is so first goes = told_then Finds Second Done found result one mid two
      (λ p q r b c d f s. so p q r b c (subst (λ n. ReadsName n (device reader) p) same (reads_of given (device reader) p (subst (λ o. FindsOpen given device p q o) is f))) s) first goes

-- what verifying says
module _ (work : DayWork) (names : Names) where
  pub opened_means : (report : Path) (answer : Result Finding VerifyFault) (p q : List Step) → IsFoundDay names report answer p → IsOpenedDay work names report p q (opened_as_found answer)
  opened_means report (Ok finding.Verified) p q found = found
  opened_means report (Ok finding.NotShown) p q found = found
  opened_means report (Ok finding.Differs) p q found = found
  opened_means report (Err fault) p q found = found

  pub own_judged : (text packed own : Device) (answer : Result Finding VerifyFault) (p q : List Step) → VerifiesDay own packed text answer → ReadsName names.day own p → IsOpenedBeside work names text packed p q (opened_as_found answer)
  own_judged text packed own answer p q verifies reads report shows comes = opened_means report answer p q (found_by names report p own packed text answer reads comes shows verifies)

module _ (names : Names) where
  pub kinds_told : (records : Device) (answer : Result Bool ReadFault) (p q : List Step) → TellsInt24 records answer → ReadsName names.records records p → TellsKinds names p q (kinds_refusal answer)
  kinds_told records (Ok true) p q tells reads = λ work report none found. (
    none,
    record {
      records = reads.bytes;
      comes = reads.is_seen;
      holds = let same = left_is records reads.bytes tells.bytes reads.gives tells.left in subst (λ x. HoldsInt24 x) (sym same) tells.holds;
    },
  )
  kinds_told records (Ok false) p q tells reads = record {
    records = reads.bytes;
    comes = reads.is_seen;
    lacks = let same = left_is records reads.bytes tells.bytes reads.gives tells.left in subst (λ x. LacksInt24 x) (sym same) tells.lacks;
  }
  kinds_told records (Err why) p q tells reads = λ work report none found. inr found

-- what was opened later was there before
pub opened_sooner : (work : DayWork) (names : Names) (report : Path) (p q : List Step) → ChangesOnly [] p q → (r : List Step) (x : Opened) → IsOpenedDay work names report q r x → IsOpenedDay work names report p r x
opened_sooner work names report p q changes r opened.Verified is = found_sooner p q changes names report (Ok finding.Verified) is
opened_sooner work names report p q changes r (opened.Told x) is = told_sooner p q changes names report work x r is

pub least_sooner : (names : Names) (report : Path) (p q : List Step) → ChangesOnly [] p q → IsOwnLeast names report q → IsOwnLeast names report p
least_sooner names report p q changes least = record {
  file = least.file;
  text = least.text;
  day = sym (seen_kept [] names.day p q tt changes) ∙ least.day;
  shows = sym (seen_kept [] report p q tt changes) ∙ least.shows;
  least = least.least;
}
