-- Where the input of a task comes from, and what its output has.
use Rattle.std.specs.Prelude.{IfOk}
use Rattle.std.proofs.Common.{◌≡◌, ◌⊎◌, ◌∙◌, ◌∷◌, [], ap, inl, inr, refl, subst, List, ℕ, Result, Some, Err, Ok}
use Rattle.msr_devices.specs.Device.{Device, HasLeft, Takes, unused}
use Rattle.msr_tree.specs.Calls.{Goes}
use Rattle.msr_tree.specs.Steps.{ChangesOnly, Made, Path, Step, seen}
use Rattle.msr_tree.proofs.Changes.{changes_none, changes_then}
use Rattle.msr_tree.proofs.Crash.{is_self}
use Rattle.msr_command.specs.declared.task_fault.TaskFault.{TaskFault}
use Rattle.msr_command.specs.declared.task_fault.TaskFault.TheVariants.{CannotOpen, Input, Failed, SameFile, SameOutput, Overlap, Closed, Tool}
use Rattle.msr_command.specs.Ends.{HasOpened, IsUnread}
use Rattle.msr_command.specs.Named.{Comes, Cuts, Empties, HasOnly, IsBlank, IsReaderOf, KeepsTaken, LeadsTo, MakesOutput, OpensUncut}

-- what stops a task before anything is read

pub unread_unopened : (stop : TaskFault) → IsUnread stop → HasOpened (Err stop) → ⊥
unread_unopened (CannotOpen name why) is opened = opened
unread_unopened SameFile is opened = opened
unread_unopened (Input name why) is opened = is
unread_unopened (Failed path why) is opened = is
unread_unopened SameOutput is opened = is
unread_unopened Overlap is opened = is
unread_unopened Closed is opened = is
unread_unopened (Tool why) is opened = is

-- a file of that name was opened

pub leads_to : {went : List Step → Type 0} {name : Path} {device : Device} {input : List ℕ} → IsReaderOf went name device →
    HasLeft device input → LeadsTo went name input
leads_to {went} {name} {device} {input} reader left = record {
  leads = λ past is.
      let o = reader.opens past is in
      let same : o.0 ≡ input = subst (λ it. HasLeft it input) o.2 left in
      o.1 ∙ ap (λ bytes. Some bytes) same;
}

pub comes_file : {is_standard : Type 0} {went : List Step → Type 0} {name : Path} {standard device : Device} {input : List ℕ} →
    (is_standard → ⊥) → IsReaderOf went name device → HasLeft device input → Comes is_standard went name standard input
comes_file not reader left =
    record { from_standard = λ is. absurd (not is); from_file = λ no. leads_to reader left }

-- standard input was read
pub comes_standard : {is_standard : Type 0} {went : List Step → Type 0} {name : Path} {standard : Device} {input : List ℕ} →
    is_standard → HasLeft standard input → Comes is_standard went name standard input
comes_standard is left = record { from_standard = λ known. left; from_file = λ no. absurd (no is) }

-- the other input of two is standard input only if the first one is not
pub comes_other : {one other : Type 0} {went : List Step → Type 0} {name : Path} {standard : Device} {input : List ℕ} →
    (one → ⊥) → Comes other went name standard input → Comes ((one → ⊥) × other) went name standard input
comes_other no_one comes = record {
  from_standard = λ is. comes.from_standard is.1;
  from_file = λ no. comes.from_file (λ is. no (no_one, is));
}

-- files of which no steps are known
pub unknown : (R : List Step → List Step → Type 0) → Goes (λ _. ⊥) (λ _. ⊥) R
unknown R = record { from = λ past none. absurd none }

-- what is said of the steps before and after holds if something else does
pub goes_so : {R S : (old new : List Step) → Type 0} {one two : List Step → Type 0} → ((old new : List Step) → R old new → S old new) →
    Goes one two R → Goes one two S
goes_so so goes = record { from = λ new went. let before = goes.from new went in (before.0, before.1, so before.0 new before.2) }

-- one call, and then another
pub goes_on : {R S T : (old new : List Step) → Type 0} {one mid two : List Step → Type 0} →
    ((old between new : List Step) → R old between → S between new → T old new) → Goes one mid R → Goes mid two S → Goes one two T
goes_on so first second = record {
  from = λ new went.
      let later = second.from new went in
      let sooner = first.from later.0 later.1 in
      (sooner.0, sooner.1, so sooner.0 later.0 new sooner.2 later.2);
}

-- nothing was done
pub goes_still : {one : List Step → Type 0} → Goes one one (λ old new. new ≡ old)
goes_still = record { from = λ new went. (new, went, refl) }

pub still_only : {one : List Step → Type 0} (name : Path) → Goes one one (ChangesOnly (name ∷ []))
still_only name = record { from = λ new went. (new, went, changes_none (name ∷ []) new) }

-- a file was made with that name, and nothing else changed

made_only : (name : Path) (bytes : List ℕ) (old new : List Step) → new ≡ Made name bytes ∷ old → ChangesOnly (name ∷ []) old new
made_only name bytes old new is =
    record { made = Made name bytes ∷ []; since = is; spares = λ other none. (tt, none.0) }

seen_made : (name : Path) (bytes : List ℕ) (past : List Step) → seen (Made name bytes ∷ past) name ≡ Some bytes
seen_made name bytes past = rw (is_self name) refl

pub has_made : (name : Path) (bytes : List ℕ) (old between new : List Step) → ChangesOnly (name ∷ []) old between →
    new ≡ Made name bytes ∷ between → HasOnly name bytes old new
has_made name bytes old between new changes is = record {
  has = rw is (seen_made name bytes between);
  others = changes_then (name ∷ []) old between new changes (made_only name bytes between new is);
}

pub opens_only : (name : Path) (old new : List Step) → OpensUncut name old new → ChangesOnly (name ∷ []) old new
opens_only name old new (inl same) = rw same (changes_none (name ∷ []) old)
opens_only name old new (inr made) = made_only name [] old new made.1

-- an output was opened and cut, or not

pub makes_output : {T E F : Type 0} (name : Path) (device : T → Device) (result : Result T E) (told : Result T F)
    (old between new : List Step) → IfOk told (λ writer. result ≡ Ok writer) → OpensUncut name old between
    → Cuts name device result between new → MakesOutput name device told old new
makes_output name device (Ok writer) (Ok other) old between new same opens cuts =
    let is : writer ≡ other = cc in
    (has_made name [] old between new (opens_only name old between opens) cuts.0, subst (λ it. device it ≡ unused (Some [])) is cuts.1)
makes_output name device (Err why) (Ok other) old between new same opens cuts = cc
makes_output name device (Ok writer) (Err stop) old between new same opens cuts =
    (has_made name [] old between new (opens_only name old between opens) cuts.0).others
makes_output name device (Err why) (Err stop) old between new same opens (inl none) =
    rw none (opens_only name old between opens)
makes_output name device (Err why) (Err stop) old between new same opens (inr made) =
    (has_made name [] old between new (opens_only name old between opens) made).others

-- what a writer took that had nothing, its name has once it is left

pub took_all : (device0 device : Device) (written bytes : List ℕ) → device0 ≡ unused (Some []) → Takes device0 device written →
    device.bytes ≡ Some bytes → bytes ≡ written
took_all device0 device written bytes was takes is =
    let start : device0.bytes ≡ Some [] = ap (λ it. it.bytes) was in
    let ended : device.bytes ≡ Some written = takes.back [] start in
    cc

pub output_left : (name : Path) (device0 device : Device) (written : List ℕ) (old between new : List Step) →
    Takes device0 device written → IsBlank name device0 old between → KeepsTaken name device between new → HasOnly name written old new
output_left name device0 device written old between new takes begun keeps =
    let same = took_all device0 device written keeps.0 begun.1 takes keeps.1 in
    subst (λ bytes. HasOnly name bytes old new) same (has_made name keeps.0 old between new begun.0.others keeps.2)

pub output_emptied : (name : Path) (device0 device : Device) (written : List ℕ) (old between new : List Step) →
    Takes device0 device written → IsBlank name device0 old between → Empties name device between new →
    HasOnly name [] old new ⊎ HasOnly name written old new
output_emptied name device0 device written old between new takes begun (inl none) =
    inl (has_made name [] old between new begun.0.others none)
output_emptied name device0 device written old between new takes begun (inr keeps) =
    inr (output_left name device0 device written old between new takes begun keeps)
