-- Why a folder is left alone.
use Rattle.std.proofs.Common.{◌≡◌, ◌≢◌, Bool, false, List, Option, None, Some, Ok, Err, IfSome, refl, sym, subst}
use Rattle.msr_exchange.specs.declared.work.DayWork.{DayWork}
use Rattle.msr_tree.specs.Steps.{Path, Step}
use Rattle.msr_tree.specs.declared.tree.TreeFault.TheVariants as fault
use Rattle.msr_replace.specs.Entries.{IsExchangeOf}
use Rattle.msr_replace.specs.Said.{IsWhyPassed, PassesFolder}
use Rattle.msr_replace.specs.Ways.{BeginsFolder, LeadsBack}
use Rattle.msr_replace.specs.declared.lines.EntryRefusal.TheVariants as refusal
use Rattle.msr_replace.specs.declared.lines.Outcome.{Outcome}
use Rattle.msr_replace.specs.declared.lines.Outcome.TheVariants.{FolderFailed, Refused}
use Rattle.msr_replace.specs.declared.replacer.Course.{Course}
use Rattle.msr_replace.specs.declared.replacer.Course.TheVariants as course

module _ (on : Course) (work : DayWork) (folder : Path) (old new : List Step) where
  -- no way leads there
  pub passed_so : (leads : Bool) (passed : Option Outcome) → BeginsFolder work folder (Ok leads) old new
      → IfSome passed (λ outcome. (outcome ≡ Refused refusal.NoFolder) × (on ≢ course.Root) × (leads ≡ false))
      → IfSome passed (λ outcome. PassesFolder on work folder outcome old new)
  passed_so leads None is so = tt
  passed_so leads (Some outcome) is so = record {
    why = subst (λ o. IsWhyPassed on work folder o old new) (sym so.0) (so.1, subst (λ b. LeadsBack work folder old b) so.2 is.leads);
    changes = is.changes;
  }

  -- a call failed
  pub passed_failed : BeginsFolder work folder (Err fault.Failed) old new → PassesFolder on work folder FolderFailed old new
  passed_failed is = record { why = is.cause refl; changes = is.changes }

pub passed_of : (folder : Path) (passed : Option Outcome) (on : Course) (leads : Bool) → IfSome passed (λ outcome. (outcome ≡ Refused refusal.NoFolder) × (on ≢ course.Root) × (leads ≡ false)) → IfSome passed (IsExchangeOf folder)
passed_of folder None on leads so = tt
passed_of folder (Some outcome) on leads so = subst (λ o. IsExchangeOf folder o) (sym so.0) tt
