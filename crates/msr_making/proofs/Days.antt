-- Answers about days, whatever files their bytes are of.
use Rattle.std.proofs.Common.{◌≡◌, ◌⊎◌, ⊎_elim, ℕ, refl, subst, IfOk, sym, map, List, [], Some, inl, inr, Result, Ok, Err, IsTrue}
use Rattle.std.proofs.lemmas.List.{append-nil}
use Rattle.msr_devices.specs.Device.{Device}
use Rattle.msr_options.specs.Choice.{Choice}
use Rattle.msr_options.specs.declared.days.DayOptions.{DayOptions}
use Rattle.msr_record.specs.Output.{segment_of_packed}
use Rattle.msr_report.specs.declared.report.Report.{Report}
use Rattle.msr_tool.specs.Answer.{IsRepacked, IsStopped}
use Rattle.msr_tool.specs.Tasks.{IsReported, IsReportedInPart, Reports}
use Rattle.msr_tool.specs.declared.fault.ToolFault.{ToolFault}
use Rattle.msr_tool.specs.declared.fault.ToolFault.TheVariants as fault
use Rattle.std.specs.declared.alloc.AllocError.{AllocError}
use Rattle.msr_tree.specs.declared.tree.TreeFault.{TreeFault}
use Rattle.msr_tree.specs.declared.tree.TreeFault.TheVariants as call
use Rattle.msr_making.specs.Day.{CountAnswers, HasAnswer, IsDayOutcome, IsDone, IsReadOrMemory, IsRepackedDay, PlacedAnswers, RepacksDay, RepacksPlaced, VerifiedAnswers}
use Rattle.msr_making.specs.Ending.{IsRepackedAs, NamedAs, WasHeld}
use Rattle.msr_making.specs.Shrinking.{IsStopOfReading, counts_repacked}
use Rattle.msr_making.specs.Verifying.{WasVerifiedAs}
use Rattle.msr_making.specs.Writing.{IsFit, RepackedOf, WasRepacked}
use Rattle.msr_making.specs.declared.answer.DayFault.{DayFault}
use Rattle.msr_making.specs.declared.answer.DayFault.TheVariants.{CannotOpen, Changed, ClaimedByAnother, Differs, Larger, Misplaced, NotShown, Tool}
use Rattle.msr_making.specs.declared.answer.DayOutcome.{DayOutcome}
use Rattle.msr_making.specs.declared.answer.DayOutcome.TheVariants as outcomes
use Rattle.msr_making.specs.declared.answer.Repacked.{Repacked}
use Rattle.msr_making.specs.declared.answer.Stop.{Stop}
use Rattle.msr_making.specs.declared.answer.Stop.TheVariants.{Memory, Refused}

pub day_stops : (choice : Choice) (source records0 records text0 text : Device) (why : ToolFault) →
    Reports choice source records0 records text0 text (Err why)
    → RepacksDay choice source records0 records text0 text (Err why)
day_stops choice source records0 records text0 text why does = record {
  input = does.input;
  written = does.written;
  told = does.told;
  left = does.left;
  wrote = does.wrote;
  told_all = does.told_all;
  answers = does.answers;
}

pub placed_stops : (asked : DayOptions) (source records0 records text0 text : Device) (why : ToolFault) →
    Reports asked.options source records0 records text0 text (Err why)
    → RepacksPlaced asked source records0 records text0 text (Err (Tool why))
placed_stops asked source records0 records text0 text why does = record {
  input = does.input;
  written = does.written;
  told = does.told;
  left = does.left;
  wrote = does.wrote;
  told_all = does.told_all;
  answers = does.answers;
}

-- what is not repacked for a day
pub placed_refused : (asked : DayOptions) (bytes_read : ℕ) (input records told : List ℕ) (why : DayFault) → PlacedAnswers asked input records told (Err why)
    → RepackedOf asked bytes_read input records told (Err (Refused why))
placed_refused asked bytes_read input records told (Misplaced found) is = is
placed_refused asked bytes_read input records told (Tool why) is = is
placed_refused asked bytes_read input records told why is = absurd is

pub placed_was : (asked : DayOptions) (input records told : List ℕ) (why : DayFault) → PlacedAnswers asked input records told (Err why)
    → WasRepacked asked (Err (Refused why))
placed_was asked input records told (Misplaced found) is = record { input = input; written = records; told = told; is = is }
placed_was asked input records told (Tool why) is = record { input = input; written = records; told = told; answers = is }
placed_was asked input records told why is = absurd is

-- all of a text is a part of it
pub told_whole : (choice : Choice) (input written told : List ℕ) (report : Report) →
    IsReported choice input written told report → IsReportedInPart choice input written told
told_whole choice input written told report reported =
    record { report = report; rest = []; reported = rw append-nil reported }

-- the records of what was repacked were read, and none refused
stopped_after : (choice : Choice) (input written : List ℕ) (report : Report) → IsRepacked choice input written report
    → IsStopped choice input written
stopped_after choice input written report r = record {
  records = r.records;
  rest = [];
  segments = map segment_of_packed r.packed;
  are_read = r.readable.are_read;
  are_segments = r.readable.are_segments;
  prefix = record {
    packed = r.packed;
    others = [];
    rows = r.rows;
    tail = [];
    some_first = sym (append-nil (map segment_of_packed r.packed));
    output = rw append-nil r.output;
  };
}

-- these bytes were repacked, and then a call failed, or memory was refused
pub unread_of : (choice : Choice) (input written told : List ℕ) (repacked : Repacked) (why : ToolFault) → CountAnswers choice input written told (Ok repacked)
    → IsReadOrMemory why → (rest : List ℕ) × CountAnswers choice input written rest (Err why)
unread_of choice input written told repacked why counted (inl is) =
    ([], rw is (record { stopped = stopped_after choice input written counted.report counted.reported.repacked; untold = refl }))
unread_of choice input written told repacked why counted (inr is) =
    (told, rw is (inr (told_whole choice input written told counted.report counted.reported)))

-- or what was written could not be stored
pub unwritten_of : (choice : Choice) (input written told : List ℕ) (repacked : Repacked) → CountAnswers choice input written told (Ok repacked)
    → CountAnswers choice input written told (Err fault.Write)
unwritten_of choice input written told repacked counted = inr (told_whole choice input written told counted.report counted.reported)

pub was_written : (asked : DayOptions) (repacked : Repacked) → IsFit asked repacked → WasRepacked asked (Err (Refused (Tool fault.Write)))
was_written asked repacked fit = record {
  input = fit.answer.input;
  written = fit.answer.written;
  told = fit.answer.told;
  answers = unwritten_of asked.options fit.answer.input fit.answer.written fit.answer.told repacked fit.answer.answers;
}

-- what was written is not kept
pub day_unkept : (asked : DayOptions) (repacked : Repacked) (why : DayFault) → HasAnswer asked.options (Ok repacked)
    → IsTrue asked.check → VerifiedAnswers asked.options (Err why) → IsRepackedDay asked (Err why)
day_unkept asked repacked (CannotOpen unopened) does check is = tt
day_unkept asked repacked NotShown does check is = record { check = check; unshown = is }
day_unkept asked repacked Differs does check is = record { check = check; different = is }
day_unkept asked repacked Changed does check is = record { check = check; different = is }
day_unkept asked repacked (Tool why) does check is =
    let rest = unread_of asked.options does.input does.written does.told repacked why does.answers is in
    record { input = does.input; written = does.written; told = rest.0; answers = rest.1 }
day_unkept asked repacked _ does check is = absurd is

-- what was not repacked
pub unfit_as : (asked : DayOptions) (stop : Stop) → WasRepacked asked (Err stop) → IsRepackedAs asked (Err stop)
unfit_as asked (Refused (CannotOpen unopened)) is = tt
unfit_as asked (Refused (Larger repacked)) is = is
unfit_as asked (Refused (Misplaced found)) is = is
unfit_as asked (Refused (Tool why)) is = is
unfit_as asked (Refused why) is = absurd is
unfit_as asked Memory is = tt

pub unfit_held : (asked : DayOptions) (written : Result Repacked Stop) → WasRepacked asked written → WasHeld asked written
unfit_held asked (Ok repacked) is = is
unfit_held asked (Err stop) is = unfit_as asked stop is

-- what could not be held against what an earlier walk left
untold_as : (asked : DayOptions) (repacked : Repacked) (stop : Stop) → HasAnswer asked.options (Ok repacked) → IsStopOfReading stop → IsRepackedAs asked (Err stop)
untold_as asked repacked (Refused (CannotOpen unopened)) does is = tt
untold_as asked repacked (Refused (Tool why)) does is =
    let rest = unread_of asked.options does.input does.written does.told repacked why does.answers is in
    record { input = does.input; written = does.written; told = rest.0; answers = rest.1 }
untold_as asked repacked (Refused other) does is = absurd is
untold_as asked repacked Memory does is = tt

pub has_answer : (asked : DayOptions) (repacked : Repacked) (written : Result Repacked Stop) → counts_repacked written ≡ Some repacked → WasRepacked asked written → HasAnswer asked.options (Ok repacked)
has_answer asked repacked (Ok given) of was = let same : given ≡ repacked = cc in subst (λ (r : Repacked). HasAnswer asked.options (Ok r)) same was.answer
has_answer asked repacked (Err (Refused (Larger given))) of was = let same : given ≡ repacked = cc in subst (λ (r : Repacked). HasAnswer asked.options (Ok r)) same was.answer
has_answer asked repacked (Err (Refused why)) of was = absurd cc
has_answer asked repacked (Err Memory) of was = absurd cc

pub unread_as : (asked : DayOptions) (repacked : Repacked) (written : Result Repacked Stop) (stop : Stop) → counts_repacked written ≡ Some repacked → IsStopOfReading stop → WasRepacked asked written → IsRepackedAs asked (Err stop)
unread_as asked repacked written stop of is was = untold_as asked repacked stop (has_answer asked repacked written of was) is

-- what was not verified
pub unverified_as : (asked : DayOptions) (repacked : Repacked) (stop : Stop) → IsFit asked repacked → IsTrue asked.check → WasVerifiedAs asked.options (Err stop) → IsRepackedAs asked (Err stop)
unverified_as asked repacked (Refused why) fit check is = day_unkept asked repacked why fit.answer check is
unverified_as asked repacked Memory fit check is = tt

-- what was made gets its names, or not
pub named_was : (asked : DayOptions) (repacked : Repacked) (answer : Result (Unit {0}) TreeFault) (result : Result Repacked Stop) → NamedAs repacked answer result → IsDone asked repacked → IsRepackedAs asked result
named_was asked repacked (Ok x) result is done = subst (λ (r : Result Repacked Stop). IsRepackedAs asked r) (sym is) done
named_was asked repacked (Err call.Failed) result is done = subst (λ (r : Result Repacked Stop). IsRepackedAs asked r) (sym is.2) tt
named_was asked repacked (Err call.Memory) result is done = subst (λ (r : Result Repacked Stop). IsRepackedAs asked r) (sym is) tt

-- how a day ends that is refused
pub ended_was : (asked : DayOptions) (why : DayFault) (outcome : Result DayOutcome AllocError) → IsRepackedDay asked (Err why) → IfOk outcome (λ o. (o ≡ outcomes.Refused ClaimedByAnother) ⊎ (o ≡ outcomes.Refused why)) → IfOk outcome (IsDayOutcome asked)
ended_was asked why (Ok o) refused is = ⊎_elim
    (λ other. subst (λ (x : DayOutcome). IsDayOutcome asked x) (sym other) tt)
    (λ same. subst (λ (x : DayOutcome). IsDayOutcome asked x) (sym same) refused)
    is
ended_was asked why (Err e) refused is = tt
