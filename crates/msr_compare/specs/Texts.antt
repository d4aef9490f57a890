-- The texts of an answer. Numbers are decimal; segments are counted from 1, and samples from 0.
use Rattle.std.specs.Prelude.{ℕ, List, ◌++◌, codes}
use Rattle.std.specs.Fmt.{decimal, signed_decimal}
use Rattle.msr_compare.specs.declared.comparison.Which.{Which}
use Rattle.msr_compare.specs.declared.comparison.Which.TheVariants.{One, Other}
use Rattle.msr_compare.specs.declared.comparison.Comparison.{Comparison}
use Rattle.msr_compare.specs.declared.comparison.Comparison.TheVariants.{Same, Differ}
use Rattle.msr_compare.specs.declared.comparison.SameSegments.{SameSegments}
use Rattle.msr_compare.specs.declared.comparison.Difference.{Difference}
use Rattle.msr_compare.specs.declared.comparison.DifferenceKind.{DifferenceKind}
use Rattle.msr_compare.specs.declared.comparison.DifferenceKind.TheVariants as kind

abbrev pub which_text : Which → List ℕ
which_text One = codes "ONE"
which_text Other = codes "OTHER"

abbrev pub same_text : SameSegments → List ℕ
same_text told =
    codes "same segments " ++ (decimal told.segments ++ (codes " samples " ++ (decimal told.samples
    ++ (codes "\nmoved " ++ (decimal told.moved_one ++ (codes " " ++ decimal told.moved_other))))))

abbrev pub kind_text : DifferenceKind → List ℕ
kind_text kind.Key = codes "key"
kind_text kind.Start = codes "start"
kind_text (kind.Sample number one other) =
    codes "sample " ++ (decimal number ++ (codes " values " ++ (signed_decimal one
    ++ (codes " " ++ signed_decimal other))))
kind_text (kind.SampleOnlyIn number which) =
    codes "sample " ++ (decimal number ++ (codes " only in " ++ which_text which))
kind_text (kind.SegmentOnlyIn which) = codes "only in " ++ which_text which

abbrev pub difference_text : Difference → List ℕ
difference_text difference =
    codes "differ segment " ++ (decimal difference.segment ++ (codes " " ++ kind_text difference.kind))

abbrev pub comparison_text : Comparison → List ℕ
comparison_text (Same told) = same_text told
comparison_text (Differ difference) = difference_text difference
