-- Where two lists of segments first differ.
use Rattle.std.specs.Prelude.{◌≡◌, ◌≢◌, ℕ, ◌+◌, List, [], ◌∷◌, ◌++◌, length, ℤ}
use Rattle.msr_segments.specs.declared.joiner.Segment.{Segment}
use Rattle.msr_compare.specs.declared.comparison.Which.TheVariants.{One, Other}
use Rattle.msr_compare.specs.declared.comparison.Difference.{Difference}
use Rattle.msr_compare.specs.declared.comparison.DifferenceKind.{DifferenceKind}
use Rattle.msr_compare.specs.declared.comparison.DifferenceKind.TheVariants as kind

-- how many samples segments have in all
abbrev pub samples_in : List Segment → ℕ
samples_in [] = 0
samples_in (segment ∷ segments) = length segment.samples + samples_in segments

-- both segments have the same key and start, and their first samples are the same; then they go on so
pub record BeginAlike (one other : Segment) (front ones others : List ℤ) : Type 0 where
  pub key : one.key ≡ other.key
  pub start : one.start ≡ other.start
  pub one_is : one.samples ≡ front ++ ones
  pub other_is : other.samples ≡ front ++ others

-- the samples of that number, counted from 0, are the first that differ
pub record SamplesDiffer (one other : Segment) (number : ℕ) (value other_value : ℤ) : Type 0 where
  pub front : List ℤ
  pub ones : List ℤ
  pub others : List ℤ
  pub alike : BeginAlike one other front (value ∷ ones) (other_value ∷ others)
  pub number_is : number ≡ length front
  pub differ : value ≢ other_value

-- the first segment has more samples, the first of them of that number; all samples of the other are the same
pub record IsLonger (longer shorter : Segment) (number : ℕ) : Type 0 where
  pub sample : ℤ
  pub rest : List ℤ
  pub alike : BeginAlike longer shorter shorter.samples (sample ∷ rest) []
  pub number_is : number ≡ length shorter.samples

-- two segments differ so, in the first of key, start, samples and number of samples in which they differ
abbrev pub SegmentsDiffer : Segment → Segment → DifferenceKind → Type 0
SegmentsDiffer one other kind.Key = one.key ≢ other.key
SegmentsDiffer one other kind.Start = (one.key ≡ other.key) × (one.start ≢ other.start)
SegmentsDiffer one other (kind.Sample number value other_value) = SamplesDiffer one other number value other_value
SegmentsDiffer one other (kind.SampleOnlyIn number One) = IsLonger one other number
SegmentsDiffer one other (kind.SampleOnlyIn number Other) = IsLonger other one number
SegmentsDiffer one other (kind.SegmentOnlyIn which) = ⊥

-- two lists of which each has a segment differ so in their first segments
pub record FirstsDiffer (ones others : List Segment) (how : DifferenceKind) : Type 0 where
  pub one : Segment
  pub other : Segment
  pub ones_after : List Segment
  pub others_after : List Segment
  pub ones_are : ones ≡ one ∷ ones_after
  pub others_are : others ≡ other ∷ others_after
  pub differ : SegmentsDiffer one other how

-- one list has a segment, and the other has none
pub record IsOnlyIn (ones others : List Segment) : Type 0 where
  pub one : Segment
  pub after : List Segment
  pub ones_are : ones ≡ one ∷ after
  pub none : others ≡ []

-- two lists of segments differ so at their first place
abbrev pub ListsDiffer : List Segment → List Segment → DifferenceKind → Type 0
ListsDiffer ones others (kind.SegmentOnlyIn One) = IsOnlyIn ones others
ListsDiffer ones others (kind.SegmentOnlyIn Other) = IsOnlyIn others ones
ListsDiffer ones others how = FirstsDiffer ones others how

-- The first difference of two lists of segments: the segments before it are the same. Segments are counted from 1.
pub record IsFirstDifference (ones others : List Segment) (difference : Difference) : Type 0 where
  pub same : List Segment
  pub ones_left : List Segment
  pub others_left : List Segment
  pub ones_are : ones ≡ same ++ ones_left
  pub others_are : others ≡ same ++ others_left
  pub segment_is : difference.segment ≡ length same + 1
  pub differ : ListsDiffer ones_left others_left difference.kind
