-- The files of a day are opened, and judged.
use Rattle.std.proofs.Common.{◌≡◌, ◌<◌, ◌∷◌, arith, inl, inr, ℕ, Bool, true, false, List, Some, refl, sym, ◌∙◌, ap, subst, Result, Ok, Err}
use Rattle.msr_devices.specs.Device.{Device, HasLeft}
use Rattle.msr_devices.specs.declared.fault.DeviceFault.{DeviceFault}
use Rattle.msr_folders.proofs.WalkedLemmas.{goes_so, goes_then}
use Rattle.msr_tree.proofs.Reading.{look_reads, looks_none, looks_then, reads_none, tells_looks, there_read}
use Rattle.msr_tree.specs.Calls.{Goes, Opens, Stops, Tells, TellsOneFile}
use Rattle.msr_tree.specs.Listing.{is_there}
use Rattle.msr_tree.specs.Reads.{OnlyLooks}
use Rattle.msr_tree.specs.Steps.{Failed, Path, Step, failures, seen}
use Rattle.msr_tree.specs.declared.tree.TreeFault.TheVariants as fault
use Rattle.msr_verify.proofs.TellingThere.{judged_there}
use Rattle.msr_verify.specs.Day.{AloneAnswers, IsShownLeast, VerifiesAlone, VerifiesDay}
use Rattle.msr_verify.specs.Entries.{judgement_alone, judgement_of}
use Rattle.msr_verify.specs.Files.{AnswerThere, DayPlaces, IsJudgementThere, JudgesDay}
use Rattle.msr_verify.specs.Opening.{AreTwoFiles, IsUnjudged, JudgesAlone, MayHave, OpensAlone, OpensDay, OpensFile}
use Rattle.msr_verify.specs.declared.day.OpenAlone.{OpenAlone}
use Rattle.msr_verify.specs.declared.day.OpenDay.{OpenDay}
use Rattle.msr_verify.specs.declared.day.Unjudged.{Unjudged}
use Rattle.msr_verify.specs.declared.day.Unjudged.TheVariants as unjudged
use Rattle.msr_verify.specs.declared.judging.Finding.{Finding}
use Rattle.msr_verify.specs.declared.judging.Finding.TheVariants as finding
use Rattle.msr_verify.specs.declared.judging.VerifyFault.{VerifyFault}
use Rattle.msr_verify.specs.declared.judgement.Judgement.{Judgement}
use Rattle.msr_verify.specs.declared.judgement.Judgement.TheVariants.{Missing, Refused}
use Rattle.msr_verify.specs.declared.judgement.Refusal.{Refusal}
use Rattle.msr_verify.specs.declared.judgement.Refusal.TheVariants.{SameFile}

-- after a call that changed nothing
pub goes_past : (P : List Step → Type 0) (R : (old new : List Step) → Type 0) (before mid after : List Step → Type 0)
    → Goes before mid (λ old new. (new ≡ old) × P old) → Goes mid after R → Goes before after (λ old new. P old × R old new)
goes_past P R before mid after one two = goes_then _ _ _ before mid after (λ old middle new first second.
    (first.1, subst (λ l. R l new) first.0 second)) one two

-- a file that was not opened
pub unopened : {R : Type 0} (places : DayPlaces) (path : Path) (refusal : Refusal) (device : R → Device) (why : Unjudged) (old new : List Step)
    → (failures old < failures new → IsJudgementThere places (Refused refusal) old new) → OpensFile path refusal device (Err why) old new → IsUnjudged places why old new
unopened places path refusal device (unjudged.Refused found) old new so is =
    (is.0, subst (λ r. IsJudgementThere places (Refused r) old new) (sym is.1) (so is.2))
unopened places path refusal device unjudged.Memory old new so is = subst (λ l. OnlyLooks old l) (sym is) (looks_none old)

-- what a source has is what was opened
pub left_is : (past : List Step) (path : Path) (source : Device) (bytes : List ℕ) → Opens path past source → HasLeft source bytes → seen past path ≡ Some bytes
left_is past path source bytes opens left =
    let same : opens.0 ≡ bytes = subst (λ (d : Device). HasLeft d bytes) opens.2 left in
    opens.1 ∙ ap (λ b. Some b) same

pub answer_of : {R : Type 0} (places : DayPlaces) (device : R → Device) (day : OpenDay R) (answer : Result Finding VerifyFault) (old new : List Step)
    → OpensDay places device (Ok day) old new → VerifiesDay (device day.file) (device day.records) (device day.report) answer
    → AnswerThere places old answer
answer_of places device day answer old new opens found = record {
  file = found.first;
  records = found.second;
  text = found.text;
  has_file = left_is old places.file (device day.file) found.first opens.2 found.left_file;
  has_records = left_is old places.records (device day.records) found.second opens.3 found.left_records;
  has_report = left_is old places.report (device day.report) found.text opens.4 found.left_report;
  answers = found.answers;
  apart = opens.1;
}

-- what is told of a day with an answer
told_there : (places : DayPlaces) (answer : Result Finding VerifyFault) (old new : List Step) → AnswerThere places old answer → IsJudgementThere places (judgement_of answer) old new
told_there places (Ok finding.Verified) old new has = has
told_there places (Ok finding.NotShown) old new has = has
told_there places (Ok finding.Differs) old new has = has
told_there places (Err fault) old new has = inl has

-- the report is missing
pub missing_report : (places : DayPlaces) (old new : List Step) → MayHave places.report (Ok false) old new → JudgesDay places (Ok Missing) old new
missing_report places old new has = record { looks = has.looks; says = inl (has.no refl) }

-- nothing was answered
pub no_answer : (places : DayPlaces) (fault : DeviceFault) (old new : List Step) → OnlyLooks old new → JudgesDay places (Err fault) old new
no_answer places fault old new looks = record { looks = looks; says = tt }

-- both are there, as far as the tree tells, and the day is judged
pub judged_after : (places : DayPlaces) (result : Result Judgement DeviceFault) (old mid new : List Step) → OnlyLooks old mid → JudgesDay places result mid new → JudgesDay places result old new
judged_after places (Ok judgement) old mid new looks judges = record {
  looks = looks_then old mid new looks judges.looks;
  says = judged_there old mid new new (look_reads old mid looks) (reads_none new) places judgement judges.says;
}
judged_after places (Err fault) old mid new looks judges = record { looks = looks_then old mid new looks judges.looks; says = tt }

pub judged_open : {R : Type 0} (places : DayPlaces) (device : R → Device) (day : OpenDay R) (answer : Result Finding VerifyFault) (old new : List Step)
    → OpensDay places device (Ok day) old new → VerifiesDay (device day.file) (device day.records) (device day.report) answer
    → JudgesDay places (Ok (judgement_of answer)) old new
judged_open places device day answer old new opens found = record {
  looks = subst (λ l. OnlyLooks old l) (sym opens.0) (looks_none old);
  says = told_there places answer old new (answer_of places device day answer old new opens found);
}

-- a call that failed
failed_more : (old new : List Step) → Stops fault.Failed (λ left. left ≡ old) old new → failures old < failures new
failed_more old new stops = subst (λ l. failures old < failures l) (sym (stops.2 ∙ ap (λ l. Failed ∷ l) stops.1)) (omega arith)

pub has_failed : (path : Path) (before after : List Step → Type 0)
    → Goes before after (Tells (λ past answer. answer ≡ is_there past path) (Err fault.Failed)) → Goes before after (MayHave path (Ok true))
has_failed path before after goes = goes_so _ _ before after (λ old new went stops. record {
  looks = tells_looks (λ past answer. answer ≡ is_there past path) (Err fault.Failed) old new stops;
  no = λ is. absurd cc;
  yes = λ is. inr (failed_more old new stops);
}) goes

pub open_failed : {R : Type 0} (path : Path) (refusal : Refusal) (device : R → Device) (before after : List Step → Type 0)
    → Goes before after (Tells (λ past reader. Opens path past (device reader)) (Err fault.Failed))
    → Goes before after (OpensFile path refusal device (Err (unjudged.Refused refusal)))
open_failed path refusal device before after goes = goes_so _ _ before after (λ old new went stops.
    (tells_looks (λ past reader. Opens path past (device reader)) (Err fault.Failed) old new stops, refl, failed_more old new stops)) goes

pub apart_failed : (file records : Path) (before after : List Step → Type 0)
    → Goes before after (Tells (TellsOneFile file records) (Err fault.Failed))
    → Goes before after (AreTwoFiles file records (Err (unjudged.Refused SameFile)))
apart_failed file records before after goes = goes_so _ _ before after (λ old new went stops.
    (tells_looks (TellsOneFile file records) (Err fault.Failed) old new stops, refl, inr (failed_more old new stops))) goes

-- The same of trees that may have gone so far.
pub may_have_none : (places : DayPlaces) (path : Path) (fault : DeviceFault) (before after : List Step → Type 0)
    → Goes before after (MayHave path (Err fault)) → Goes before after (JudgesDay places (Err fault))
may_have_none places path fault before after goes =
    goes_so _ _ before after (λ old new went is. no_answer places fault old new is.looks) goes

pub report_missing : (places : DayPlaces) (before after : List Step → Type 0) → Goes before after (MayHave places.report (Ok false))
    → Goes before after (JudgesDay places (Ok Missing))
report_missing places before after goes = goes_so _ _ before after (λ old new went is. missing_report places old new is) goes

pub judged_later : (places : DayPlaces) (path : Path) (result : Result Judgement DeviceFault) (before mid after : List Step → Type 0)
    → Goes before mid (MayHave path (Ok true)) → Goes mid after (JudgesDay places result) → Goes before after (JudgesDay places result)
judged_later places path result before mid after one two =
    goes_then _ _ _ before mid after (λ old middle new first second. judged_after places result old middle new first.looks second) one two

pub not_opened : {R : Type 0} (places : DayPlaces) (path : Path) (refusal : Refusal) (device : R → Device) (why : Unjudged) (before after : List Step → Type 0)
    → ((old new : List Step) → failures old < failures new → IsJudgementThere places (Refused refusal) old new)
    → Goes before after (OpensFile path refusal device (Err why)) → Goes before after (IsUnjudged places why)
not_opened places path refusal device why before after so goes =
    goes_so _ _ before after (λ old new went is. unopened places path refusal device why old new (so old new) is) goes

-- after a call that changed nothing
pub still_then : (P : List Step → Type 0) (R : (old new : List Step) → Type 0) (before mid after : List Step → Type 0)
    → Goes before mid (λ old new. (new ≡ old) × P old) → Goes mid after R → Goes before after R
still_then P R before mid after one two = goes_so _ _ before after (λ old new went both. both.1) (goes_past P R before mid after one two)

-- and judged
pub opened_judged : {R : Type 0} (places : DayPlaces) (device : R → Device) (day : OpenDay R) (answer : Result Finding VerifyFault) (before after : List Step → Type 0)
    → Goes before after (OpensDay places device (Ok day)) → VerifiesDay (device day.file) (device day.records) (device day.report) answer
    → Goes before after (JudgesDay places (Ok (judgement_of answer)))
opened_judged places device day answer before after goes found =
    goes_so _ _ before after (λ old new went is. judged_open places device day answer old new is found) goes

-- Of a day without records.
pub alone_later : (places : DayPlaces) (result : Result Judgement DeviceFault) (before mid after : List Step → Type 0)
    → Goes before mid (MayHave places.records (Ok false)) → Goes mid after (JudgesAlone places result) → Goes before after (JudgesDay places result)
alone_later places result before mid after one two =
    goes_then _ _ _ before mid after (λ old middle new first second.
    judged_after places result old middle new first.looks (second (there_read old middle (look_reads old middle first.looks) places.records ∙ first.no refl))) one two

one_bytes : (past : List Step) (path : Path) (one other : List ℕ) → seen past path ≡ Some one → seen past path ≡ Some other → one ≡ other
one_bytes past path one other a b = let e : Some one ≡ Some other = sym a ∙ b in cc

alone_there : (places : DayPlaces) (own text : List ℕ) (answer : Result Bool VerifyFault) (old new : List Step) → is_there old places.records ≡ false → seen old places.file ≡ Some own
    → seen old places.report ≡ Some text → AloneAnswers own text answer → IsJudgementThere places (judgement_alone answer) old new
alone_there places own text (Ok true) old new none file report is = (none, record { file = own; text = text; has_file = file; has_report = report; shown = is })
alone_there places own text (Ok false) old new none file report is = inr (record {
  no_records = none;
  unshown = inl (λ place. is
      (subst (λ (b : List ℕ). IsShownLeast b text) (one_bytes old places.file place.file own place.has_file file)
      (subst (λ (b : List ℕ). IsShownLeast place.file b) (one_bytes old places.report place.text text place.has_report report) place.shown)));
})
alone_there places own text (Err fault) old new none file report is = inr (record { no_records = none; cut = is })

pub opened_alone : {R : Type 0} (places : DayPlaces) (device : R → Device) (day : OpenAlone R) (answer : Result Bool VerifyFault) (before after : List Step → Type 0)
    → Goes before after (OpensAlone places device (Ok day)) → VerifiesAlone (device day.file) (device day.report) answer
    → Goes before after (JudgesAlone places (Ok (judgement_alone answer)))
opened_alone places device day answer before after goes found = goes_so _ _ before after (λ old new went opens. λ none. record {
  looks = subst (λ l. OnlyLooks old l) (sym opens.0) (looks_none old);
  says = alone_there places found.own found.text answer old new none (left_is old places.file (device day.file) found.own opens.1 found.left_file)
      (left_is old places.report (device day.report) found.text opens.2 found.left_report) found.answers;
}) goes

pub unopened_alone : {R : Type 0} (places : DayPlaces) (device : R → Device) (why : Refusal) (before after : List Step → Type 0)
    → Goes before after (OpensAlone {R = R} places device (Err (unjudged.Refused why))) → Goes before after (JudgesAlone places (Ok Missing))
unopened_alone places device why before after goes = goes_so _ _ before after (λ old new went opens. λ none. record {
  looks = opens.0;
  says = inr (record { no_records = none; unshown = inr opens.1 });
}) goes

pub stopped_alone : {R : Type 0} (places : DayPlaces) (device : R → Device) (fault : DeviceFault) (before after : List Step → Type 0)
    → Goes before after (OpensAlone {R = R} places device (Err unjudged.Memory)) → Goes before after (JudgesAlone places (Err fault))
stopped_alone places device fault before after goes = goes_so _ _ before after (λ old new went looks. λ none. record { looks = looks; says = tt }) goes

pub not_opened_alone : {R : Type 0} (places : DayPlaces) (path : Path) (refusal : Refusal) (device : R → Device) (why : Unjudged) (before after : List Step → Type 0)
    → Goes before after (OpensFile path refusal device (Err why)) → Goes before after (OpensAlone places device (Err why))
not_opened_alone places path refusal device why before after goes = goes_so _ _ before after (λ old new went is. by why old new is) goes
  where
    by : (u : Unjudged) (old new : List Step) → OpensFile path refusal device (Err u) old new → OpensAlone places device (Err u) old new
    by (unjudged.Refused found) old new is = (is.0, is.2)
    by unjudged.Memory old new is = subst (λ l. OnlyLooks old l) (sym is) (looks_none old)
