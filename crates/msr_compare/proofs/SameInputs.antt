-- Inputs that are the same, and that two inputs have one answer.
use Rattle.std.proofs.Common.{◌≡◌, ℕ, List, [], ◌∷◌, ◌++◌, length, refl, sym, ap, subst, ◌∙◌, arith, length-append, ℤ, Ok, Err}
use Rattle.std.proofs.lemmas.List.{append_cancel_left}
use Rattle.msr_segments.specs.declared.joiner.Segment.{Segment}
use Rattle.msr_input.specs.Input.{HasFirstFault}
use Rattle.msr_input.specs.declared.settings.Settings.{Settings}
use Rattle.msr_input.specs.declared.fault.Fault.{Fault}
use Rattle.msr_input.specs.declared.fault.ReadFault.TheVariants as fault
use Rattle.msr_input.proofs.OneReading.{one_list_of_records, readable_has_no_fault}
use Rattle.msr_compare.specs.Differences.{FirstsDiffer, IsFirstDifference, ListsDiffer, SegmentsDiffer}
use Rattle.msr_compare.specs.declared.comparison.Which.TheVariants as which
use Rattle.msr_compare.specs.declared.comparison.Comparison.TheVariants.{Same, Differ}
use Rattle.msr_compare.specs.declared.comparison.Difference.{Difference}
use Rattle.msr_compare.specs.declared.comparison.DifferenceKind.{DifferenceKind}
use Rattle.msr_compare.specs.declared.comparison.DifferenceKind.TheVariants as kind
use Rattle.msr_compare.specs.declared.fault.CompareFault.TheVariants.{One, Other}
use Rattle.msr_compare.specs.Answers.{HasSegments, SameIsExact, SameIsReflexive, SameIsSymmetric, SameIsTransitive}

-- an input has one list of segments
pub one_list : (settings : Settings) (input : List ℕ) (segments others : List Segment)
    → HasSegments settings input segments → HasSegments settings input others → segments ≡ others
one_list settings input segments others a b =
    (one_list_of_records settings input a.records b.records segments others a.readable b.readable).1

pub no_fault : (settings : Settings) (input : List ℕ) (segments : List Segment) (found : Fault)
    → HasSegments settings input segments → HasFirstFault settings input found → ⊥
no_fault settings input segments found a b =
    readable_has_no_fault settings input a.records b.records segments found a.readable b.first

pub reflexive : SameIsReflexive
reflexive settings input segments has = record { segments = segments; one_has = has; other_has = has }

pub symmetric : SameIsSymmetric
symmetric settings one other told s = record {
  same = record {
    segments = s.same.segments;
    one_has = s.same.other_has;
    other_has = s.same.one_has;
  };
  segments_are = s.segments_are;
  samples_are = s.samples_are;
  one_moved = s.other_moved;
  other_moved = s.one_moved;
}

pub transitive : SameIsTransitive
transitive settings one other third first second s t = record {
  same = record {
    segments = s.same.segments;
    one_has = s.same.one_has;
    other_has = subst (λ (l : List Segment). HasSegments settings third l)
        (one_list settings other t.same.segments s.same.segments t.same.one_has s.same.other_has) t.same.other_has;
  };
  segments_are = s.segments_are;
  samples_are = s.samples_are;
  one_moved = s.one_moved;
  other_moved = t.other_moved;
}

pub heads_same : (front : List ℤ) (x y : ℤ) (xs ys : List ℤ) → front ++ x ∷ xs ≡ front ++ y ∷ ys → x ≡ y
heads_same front x y xs ys e = let heads = append_cancel_left front (x ∷ xs) (y ∷ ys) e in cc

not_longer : (xs : List ℤ) (sample : ℤ) (rest : List ℤ) → xs ≡ xs ++ sample ∷ rest → ⊥
not_longer xs sample rest e = omega (arith, ap length e, length-append xs (sample ∷ rest))

-- a segment does not differ from itself
not_itself : (segment : Segment) (how : DifferenceKind) → SegmentsDiffer segment segment how → ⊥
not_itself segment kind.Key d = d refl
not_itself segment kind.Start d = d.1 refl
not_itself segment (kind.Sample number value other_value) d =
    d.differ (heads_same d.front value other_value d.ones d.others (sym d.alike.one_is ∙ d.alike.other_is))
not_itself segment (kind.SampleOnlyIn number which.One) d = not_longer segment.samples d.sample d.rest d.alike.one_is
not_itself segment (kind.SampleOnlyIn number which) d = not_longer segment.samples d.sample d.rest d.alike.one_is
not_itself segment (kind.SegmentOnlyIn which) d = d

-- lists that both have a first segment differ in it
firsts : (x y : Segment) (xs ys : List Segment) (how : DifferenceKind) → FirstsDiffer (x ∷ xs) (y ∷ ys) how
    → SegmentsDiffer x y how
firsts x y xs ys how d =
    let one : x ≡ d.one = let e = d.ones_are in cc in
    let other : y ≡ d.other = let e = d.others_are in cc in
    rw (one, other) d.differ

pub both_have : (x y : Segment) (xs ys : List Segment) (how : DifferenceKind) → ListsDiffer (x ∷ xs) (y ∷ ys) how
    → SegmentsDiffer x y how
both_have x y xs ys (kind.SegmentOnlyIn which.One) d = let e = d.none in cc
both_have x y xs ys (kind.SegmentOnlyIn which.Other) d = let e = d.none in cc
both_have x y xs ys how d = firsts x y xs ys how d

pub not_first : (first : Segment) (ones others : List Segment) (how : DifferenceKind)
    → ListsDiffer (first ∷ ones) (first ∷ others) how → ⊥
not_first first ones others how d = not_itself first how (both_have first first ones others how d)

pub none_differ : (how : DifferenceKind) → ListsDiffer [] [] how → ⊥
none_differ (kind.SegmentOnlyIn which.One) d = let e = d.ones_are in cc
none_differ how d = let e = d.ones_are in cc

lists_same : (all : List Segment) (how : DifferenceKind) → ListsDiffer all all how → ⊥
lists_same [] how d = none_differ how d
lists_same (x ∷ xs) how d = not_first x xs xs how d

-- lists of segments that are the same have no first difference
pub same_no_difference : (all : List Segment) (difference : Difference) → IsFirstDifference all all difference → ⊥
same_no_difference all difference d =
    let same = append_cancel_left d.same d.ones_left d.others_left (sym d.ones_are ∙ d.others_are) in
    lists_same d.ones_left difference.kind (rw (← same) at d.differ)

pub exact : SameIsExact
exact settings one other (Ok (Same told)) of_inputs answers same = (told, refl)
exact settings one other (Ok (Differ difference)) of_inputs answers same =
    let ones = one_list settings one answers.ones same.segments answers.one_has same.one_has in
    let others = one_list settings other answers.others same.segments answers.other_has same.other_has in
    absurd (same_no_difference same.segments difference (rw (ones, others) at answers.first))
exact settings one other (Err (One (fault.Input found))) of_inputs answers same =
    absurd (no_fault settings one same.segments found same.one_has answers)
exact settings one other (Err (Other (fault.Input found))) of_inputs answers same =
    absurd (no_fault settings other same.segments found same.other_has answers.faulty)
exact settings one other answer of_inputs answers same = absurd of_inputs
