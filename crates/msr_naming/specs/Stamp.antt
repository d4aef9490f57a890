-- The text of a stamp.
use Rattle.std.specs.Prelude.{List, ℕ, ◌++◌, codes}
use Rattle.std.specs.Fmt.{decimal, signed_decimal}
use Rattle.msr_tree.specs.declared.facts.Facts.{Facts}
use Rattle.msr_naming.specs.declared.stamp.Stamp.{Stamp}
use Rattle.msr_naming.specs.declared.stamp.StampOf.{StampOf}
use Rattle.msr_naming.specs.declared.stamp.StampOf.TheVariants.{Input, Records}

abbrev pub stamp_word : StampOf → List ℕ
stamp_word Input = codes "input"
stamp_word Records = codes "records"

-- which file it is of, how many bytes that has, and when it was last changed
abbrev pub stamp_text : StampOf → Stamp → List ℕ
stamp_text of stamp =
    stamp_word of ++ (codes " " ++ (decimal stamp.bytes ++ (codes " bytes, changed at "
    ++ (signed_decimal stamp.seconds ++ (codes " s " ++ (signed_decimal stamp.nanoseconds ++ codes " ns\n"))))))

-- that of what a look found
abbrev pub stamp_of : Facts → Stamp
stamp_of facts = record { bytes = facts.bytes; seconds = facts.changed.seconds; nanoseconds = facts.changed.nanoseconds }
