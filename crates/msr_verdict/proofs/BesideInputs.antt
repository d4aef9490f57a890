-- What is answered of packed records and another input that were read side by side.
use Rattle.std.proofs.Common.{◌≡◌, ◌↔◌, ◌∙◌, ap, refl, sym, List, ℕ, Result, Ok, Err, IsErrOf}
use Rattle.msr_report.specs.declared.report.Report.{Report}
use Rattle.msr_input.specs.declared.fault.ReadFault.TheVariants as fault
use Rattle.msr_compare.specs.Answers.{CompareAnswers}
use Rattle.msr_compare.specs.Seen.{AllSeen, SeenIfRead, Sight}
use Rattle.msr_compare.specs.declared.comparison.Comparison.{Comparison}
use Rattle.msr_compare.specs.declared.comparison.Comparison.TheVariants.{Same, Differ}
use Rattle.msr_compare.specs.declared.fault.CompareFault.{CompareFault}
use Rattle.msr_compare.specs.declared.fault.CompareFault.TheVariants.{One, Other}
use Rattle.msr_verdict.specs.Beside.{BesideAnswers, beside_answer}
use Rattle.msr_verdict.specs.Packed.{VerifyAnswers, settings_by}
use Rattle.msr_verdict.specs.declared.verdict.Verdict.{Verdict}
use Rattle.msr_verdict.specs.declared.verdict.Verdict.TheVariants.{Least, NotShown}

module _ (report : Report) (records other : List ℕ) (seen : Sight) where
  -- what was compared, if all records were seen
  compared_so : (verdict : Verdict) (comparison : Comparison)
      → CompareAnswers (settings_by report) records other (Ok comparison) → VerifyAnswers report records (Ok verdict)
      → BesideAnswers report records other (beside_answer verdict (Ok comparison))
  compared_so Least (Same told) said shown = record { shown = shown; same = said }
  compared_so Least (Differ difference) said shown = record { shown = shown; differ = said }
  compared_so NotShown comparison said unshown = unshown

  pub answered_beside : (verdict : Verdict) (answer : Result Comparison CompareFault)
      → CompareAnswers (settings_by report) records other answer
      → SeenIfRead seen (settings_by report) records answer
      → (AllSeen seen (settings_by report) records → VerifyAnswers report records (Ok verdict))
      → BesideAnswers report records other (beside_answer verdict answer)
  answered_beside verdict (Ok comparison) said all judged = compared_so verdict comparison said (judged all)
  answered_beside Least (Err (Other (fault.Input found))) said all judged =
      record { shown = judged all; faulty = said }
  answered_beside NotShown (Err (Other (fault.Input found))) said all judged = judged all
  answered_beside Least (Err (One (fault.Input found))) said all judged = said
  answered_beside NotShown (Err (One (fault.Input found))) said all judged = said
  answered_beside Least (Err (One fault.Read)) said all judged = tt
  answered_beside NotShown (Err (One fault.Read)) said all judged = tt
  answered_beside Least (Err (One fault.Memory)) said all judged = tt
  answered_beside NotShown (Err (One fault.Memory)) said all judged = tt
  answered_beside Least (Err (Other fault.Read)) said all judged = tt
  answered_beside NotShown (Err (Other fault.Read)) said all judged = tt
  answered_beside Least (Err (Other fault.Memory)) said all judged = tt
  answered_beside NotShown (Err (Other fault.Memory)) said all judged = tt

through : {A B C : Type 0} → A ↔ B → B ↔ C → A ↔ C
through first second = (λ a. second.0 (first.0 a), λ c. first.1 (second.1 c))

same_error : {T U : Type 0} (why told : CompareFault) → IsErrOf {T = T} (Err why) told → IsErrOf {T = U} (Err why) told
same_error why told e = let same : why ≡ told = cc in ap (λ (w : CompareFault). Err w) same

-- a failed read of either is answered as such, and nothing else is
error_told : (verdict : Verdict) (why told : CompareFault) → beside_answer verdict (Err why) ≡ Err why
    → IsErrOf (beside_answer verdict (Err why)) told ↔ IsErrOf {T = Comparison} (Err why) told
error_told verdict why told same =
    (λ e. same_error why told (sym same ∙ e), λ e. same ∙ same_error why told e)

first_failed : (verdict : Verdict) (answer : Result Comparison CompareFault)
    → IsErrOf (beside_answer verdict answer) (One fault.Read) ↔ IsErrOf answer (One fault.Read)
first_failed Least (Ok comparison) = (λ e. absurd cc, λ e. absurd cc)
first_failed NotShown (Ok comparison) = (λ e. absurd cc, λ e. absurd cc)
first_failed Least (Err why) = error_told Least why (One fault.Read) refl
first_failed NotShown (Err (One why)) = error_told NotShown (One why) (One fault.Read) refl
first_failed NotShown (Err (Other (fault.Input found))) = (λ e. absurd cc, λ e. absurd cc)
first_failed NotShown (Err (Other fault.Read)) = error_told NotShown (Other fault.Read) (One fault.Read) refl
first_failed NotShown (Err (Other fault.Memory)) = error_told NotShown (Other fault.Memory) (One fault.Read) refl

other_failed : (verdict : Verdict) (answer : Result Comparison CompareFault)
    → IsErrOf (beside_answer verdict answer) (Other fault.Read) ↔ IsErrOf answer (Other fault.Read)
other_failed Least (Ok comparison) = (λ e. absurd cc, λ e. absurd cc)
other_failed NotShown (Ok comparison) = (λ e. absurd cc, λ e. absurd cc)
other_failed Least (Err why) = error_told Least why (Other fault.Read) refl
other_failed NotShown (Err (One why)) = error_told NotShown (One why) (Other fault.Read) refl
other_failed NotShown (Err (Other (fault.Input found))) = (λ e. absurd cc, λ e. absurd cc)
other_failed NotShown (Err (Other fault.Read)) = error_told NotShown (Other fault.Read) (Other fault.Read) refl
other_failed NotShown (Err (Other fault.Memory)) = error_told NotShown (Other fault.Memory) (Other fault.Read) refl

pub one_told : {P : Type 0} (verdict : Verdict) (answer : Result Comparison CompareFault)
    → IsErrOf answer (One fault.Read) ↔ P → IsErrOf (beside_answer verdict answer) (One fault.Read) ↔ P
one_told verdict answer exact = through (first_failed verdict answer) exact

pub other_told : {P : Type 0} (verdict : Verdict) (answer : Result Comparison CompareFault)
    → IsErrOf answer (Other fault.Read) ↔ P → IsErrOf (beside_answer verdict answer) (Other fault.Read) ↔ P
other_told verdict answer exact = through (other_failed verdict answer) exact
