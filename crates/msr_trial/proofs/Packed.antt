-- What repacking a day's file gave, put together from what was done.
use Rattle.std.proofs.Common.{◌≡◌, ◌<◌, ℕ, false, List, sym, ◌∙◌, ap, subst, length, Some, Result, Ok, Err, IfOk, option_map, arith}
use Rattle.std.specs.declared.alloc.AllocError.{AllocError}
use Rattle.msr_devices.specs.Device.{Device}
use Rattle.msr_folders.proofs.WalkedLemmas.{goes_so, goes_then}
use Rattle.msr_base.specs.declared.lengths.Length.{Length}
use Rattle.msr_making.proofs.Sights.{tells_failed}
use Rattle.msr_making.specs.declared.answer.DayFault.TheVariants.{CannotOpen, Gone, Listing}
use Rattle.msr_options.specs.Choice.{Choice}
use Rattle.msr_options.specs.Days.{in_length}
use Rattle.msr_options.specs.declared.days.DayOptions.{DayOptions}
use Rattle.msr_outcomes.specs.Entries.{IsDayOf}
use Rattle.msr_outcomes.specs.Outcomes.{IsForDay}
use Rattle.msr_outcomes.specs.declared.outcome.Outcome.{Outcome}
use Rattle.msr_outcomes.specs.declared.outcome.Outcome.TheVariants.{Refused, Skipped, Young}
use Rattle.msr_tree.proofs.Reading.{failures_read, look_reads, looks_then, now_read, tells_looks}
use Rattle.msr_tree.specs.Calls.{Goes, Looks, Opens, Tells}
use Rattle.msr_tree.specs.Reads.{OnlyLooks}
use Rattle.msr_tree.specs.Steps.{Path, Step, failures, seen}
use Rattle.msr_tree.specs.declared.tree.TreeFault.{TreeFault}
use Rattle.msr_tree.specs.declared.tree.TreeFault.TheVariants as fault
use Rattle.msr_trial.specs.Days.{IsDayTried, IsTriedThere, OpensTriedDay, TriesDay, TriesFile, WasTried, WasTriedFor}
use Rattle.msr_trial.specs.Entries.{IsTriedAs}

-- opening a file, and the look at it
module _ {R : Type 0} (path : Path) (device : R → Device) where
  abbrev Says : List Step → R → Type 0
  Says past reader = Opens path past (device reader)

  opens_err : (why : TreeFault) (old new : List Step) → Tells Says (Err why) old new → OpensTriedDay path device (Err why) old new
  opens_err fault.Failed old new tells = record { looks = tells_looks Says (Err fault.Failed) old new tells; opens = tells_failed Says old new tells }
  opens_err fault.Memory old new tells = record { looks = tells_looks Says (Err fault.Memory) old new tells; opens = tt }

  pub not_opened : (why : TreeFault) (one two : List Step → Type 0) → Goes one two (Tells Says (Err why)) → Goes one two (OpensTriedDay path device (Err why))
  not_opened why one two goes = goes_so (Tells Says (Err why)) (OpensTriedDay path device (Err why)) one two (λ old new went tells. opens_err why old new tells) goes

  look_err : (reader : R) (why : TreeFault) (old mid new : List Step) → Tells Says (Ok reader) old mid → Tells (Looks path) (Err why) mid new
      → OpensTriedDay path device (Err why) old new
  look_err reader fault.Failed old mid new opened tells = record {
    looks = looks_then old mid new (tells_looks Says (Ok reader) old mid opened) (tells_looks (Looks path) (Err fault.Failed) mid new tells);
    opens = subst (λ past. failures past < failures new) opened.0 (tells_failed (Looks path) mid new tells);
  }
  look_err reader fault.Memory old mid new opened tells = record {
    looks = looks_then old mid new (tells_looks Says (Ok reader) old mid opened) (tells_looks (Looks path) (Err fault.Memory) mid new tells);
    opens = tt;
  }

  pub not_looked : (reader : R) (why : TreeFault) (one mid two : List Step → Type 0) → Goes one mid (Tells Says (Ok reader)) → Goes mid two (Tells (Looks path) (Err why))
      → Goes one two (OpensTriedDay path device (Err why))
  not_looked reader why one mid two first second = goes_then (Tells Says (Ok reader)) (Tells (Looks path) (Err why)) (OpensTriedDay path device (Err why)) one mid two
      (λ old middle new opened tells. look_err reader why old middle new opened tells) first second

-- what was tried for a day, in its length
pub tried_for : (days asked : DayOptions) (outcome : Outcome) → IsForDay days asked → WasTried asked.options outcome → WasTriedFor days outcome
tried_for days asked Young is was = absurd was.answers
tried_for days asked outcome is was = record { asked = asked; for_day = is; was = was }

tried_there : (days asked : DayOptions) (path : Path) (outcome : Outcome) (old new : List Step) → IsForDay days asked
    → IsTriedThere asked.options path outcome old new → IsDayTried days path outcome old new
tried_there days asked path Young old new is there = absurd there.answers
tried_there days asked path outcome old new is there = record { asked = asked; for_day = is; there = there }

-- what is so of a file was so before it was only looked at
seen_sooner : (path : Path) (input : List ℕ) (old mid : List Step) → OnlyLooks old mid → seen mid path ≡ Some input → seen old path ≡ Some input
seen_sooner path input old mid looks has =
    ap (λ found. option_map (λ file. file.bytes) found) (sym (now_read old mid (look_reads old mid looks) path)) ∙ has

there_sooner : (choice : Choice) (path : Path) (outcome : Outcome) (old mid new : List Step) → OnlyLooks old mid
    → IsTriedThere choice path outcome mid new → IsTriedThere choice path outcome old new
there_sooner choice path (Refused (CannotOpen unopened)) old mid new looks there =
    let few = failures_read old mid (look_reads old mid looks) in omega (arith, few, there)
there_sooner choice path outcome old mid new looks there = record {
  input = there.input;
  records = there.records;
  text = there.text;
  has_input = seen_sooner path there.input old mid looks there.has_input;
  answers = there.answers;
}

day_of : (days asked : DayOptions) (path : Path) (result : Result Outcome AllocError) (old mid new : List Step) → IsForDay days asked → OnlyLooks old mid
    → TriesFile asked.options path result mid new → TriesDay days path result old new
day_of days asked path (Ok outcome) old mid new is looks tries = record {
  looks = looks_then old mid new looks tries.looks;
  says = tried_there days asked path outcome old new is (there_sooner asked.options path outcome old mid new looks tries.says);
}
day_of days asked path (Err e) old mid new is looks tries = record { looks = looks_then old mid new looks tries.looks; says = tt }

pub goes_looks_then : (one mid two : List Step → Type 0) → Goes one mid OnlyLooks → Goes mid two OnlyLooks → Goes one two OnlyLooks
goes_looks_then one mid two first second = goes_then OnlyLooks OnlyLooks OnlyLooks one mid two (λ old middle new a b. looks_then old middle new a b) first second

-- the day was looked at, and then its file was tried
pub day_tried : (days asked : DayOptions) (path : Path) (result : Result Outcome AllocError) (one mid two : List Step → Type 0) → IsForDay days asked
    → Goes one mid OnlyLooks → Goes mid two (TriesFile asked.options path result) → Goes one two (TriesDay days path result)
day_tried days asked path result one mid two is looks tries = goes_then OnlyLooks (TriesFile asked.options path result) (TriesDay days path result) one mid two
    (λ old middle new a b. day_of days asked path result old middle new is a b) looks tries

-- memory was refused
pub day_memory : (days : DayOptions) (path : Path) (e : AllocError) (one two : List Step → Type 0) → Goes one two OnlyLooks → Goes one two (TriesDay days path (Err e))
day_memory days path e one two looks = goes_so OnlyLooks (TriesDay days path (Err e)) one two (λ old new went is. record { looks = is; says = tt }) looks

-- what was tried of a day is told of its entry
pub tried_as : (days : DayOptions) (path channel : List ℕ) (outcome : Outcome) → IsDayOf path channel → WasTriedFor days outcome → IsTriedAs days path channel outcome
tried_as days path channel (Skipped fault) day was = absurd was.was.answers
tried_as days path channel (Refused Gone) day was = tt
tried_as days path channel (Refused Listing) day was = tt
tried_as days path channel outcome day was = record { day = day; tried = was }

-- what is asked of the day, and what was tried for it
pub for_day : (days asked : DayOptions) (record_length : Length) → asked ≡ in_length record_length days
    → (days.same_length ≡ false → record_length ≡ days.options.record_length) → IsForDay days asked
for_day days asked record_length is own = record { record_length = record_length; is = is; own = own }

pub tried_if : (days asked : DayOptions) (result : Result Outcome AllocError) → IsForDay days asked → IfOk result (WasTried asked.options)
    → IfOk result (WasTriedFor days)
tried_if days asked (Ok outcome) is was = tried_for days asked outcome is was
tried_if days asked (Err e) is was = tt
