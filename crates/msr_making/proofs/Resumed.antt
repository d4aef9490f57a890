-- What a day is that is left as it is.
use Rattle.std.proofs.Common.{◌≡◌, ℕ, Bool, true, List, Option, Some, IfSome, IsSomeAnd, subst}
use Rattle.msr_making.specs.Resuming.{LeftDayIsStamped}
use Rattle.msr_naming.specs.Stamp.{stamp_text}
use Rattle.msr_naming.specs.declared.stamp.StampOf.TheVariants.{Input}
use Rattle.msr_tree.proofs.Crash.{leaves_seen}
use Rattle.msr_tree.specs.Steps.{seen}

-- a stamp and a report that are seen
of_seen : (is_of : (stamp records report : List ℕ) → Bool) (stamp report : Option (List ℕ)) (s p : List ℕ) (records : Option (List ℕ)) → stamp ≡ Some s → report ≡ Some p
    → IfSome stamp (λ s. IsSomeAnd records (λ r. IsSomeAnd report (λ p. is_of s r p ≡ true))) → IsSomeAnd records (λ r. is_of s r p ≡ true)
of_seen is_of stamp report s p records is told has =
    subst (λ (q : Option (List ℕ)). IsSomeAnd records (λ r. IsSomeAnd q (λ p. is_of s r p ≡ true))) told
    (subst (λ (q : Option (List ℕ)). IfSome q (λ s. IsSomeAnd records (λ r. IsSomeAnd report (λ p. is_of s r p ≡ true)))) is has)

pub stamped : LeftDayIsStamped
stamped asked input files repacked past is_own is_of has left =
    of_seen is_of (seen past files.stamp.path) (seen past files.report.path) (stamp_text Input left.stamp) left.kept.report.text (seen past files.records.path)
    left.has_stamp left.has_report
    (has.stamp (seen past files.stamp.path) (seen past files.records.path) (seen past files.report.path)
    (leaves_seen past files.stamp.path) (leaves_seen past files.records.path) (leaves_seen past files.report.path))
