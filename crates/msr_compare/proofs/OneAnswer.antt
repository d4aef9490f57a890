-- Two lists of segments have one first difference, and two inputs one answer.
use Rattle.std.proofs.Common.{◌≡◌, ◌≢◌, ℕ, List, [], ◌∷◌, ◌++◌, length, refl, sym, ap, ap₂, ◌∙◌, arith, append_assoc, length-append, ℤ, Result, Ok, Err}
use Rattle.msr_segments.specs.declared.joiner.Segment.{Segment}
use Rattle.msr_input.specs.Input.{HasFirstFault}
use Rattle.msr_input.specs.declared.settings.Settings.{Settings}
use Rattle.msr_input.specs.declared.fault.Fault.{Fault}
use Rattle.msr_input.specs.declared.fault.ReadFault.TheVariants as fault
use Rattle.msr_input.proofs.OneReading.{one_first_fault, one_list_of_records}
use Rattle.msr_compare.specs.Differences.{IsFirstDifference, IsLonger, ListsDiffer, SamplesDiffer, SegmentsDiffer, samples_in}
use Rattle.msr_compare.specs.declared.comparison.Which.TheVariants as which
use Rattle.msr_compare.specs.declared.comparison.Comparison.{Comparison}
use Rattle.msr_compare.specs.declared.comparison.Comparison.TheVariants.{Same, Differ}
use Rattle.msr_compare.specs.declared.comparison.SameSegments.{SameSegments}
use Rattle.msr_compare.specs.declared.comparison.Difference.{Difference}
use Rattle.msr_compare.specs.declared.comparison.DifferenceKind.{DifferenceKind}
use Rattle.msr_compare.specs.declared.comparison.DifferenceKind.TheVariants as kind
use Rattle.msr_compare.specs.declared.fault.CompareFault.{CompareFault}
use Rattle.msr_compare.specs.declared.fault.CompareFault.TheVariants.{One, Other}
use Rattle.msr_compare.specs.Answers.{AreSame, CompareAnswers, DifferFirst, HasMoved, HaveOneAnswer, IsOfInputs}
use Rattle.msr_compare.proofs.SameInputs.{both_have, exact, heads_same, no_fault, none_differ, not_first, one_list}

-- where two lists of samples first differ
samples_once : (front other_front ones others ones' others' : List ℤ) (x y x' y' : ℤ)
    → front ++ x ∷ ones ≡ other_front ++ x' ∷ ones' → front ++ y ∷ others ≡ other_front ++ y' ∷ others' → x ≢ y
    → x' ≢ y' → (length front ≡ length other_front) × (x ≡ x') × (y ≡ y')
samples_once [] [] ones others ones' others' x y x' y' e f differ differ' = (refl, cc, cc)
samples_once [] (z ∷ other_front) ones others ones' others' x y x' y' e f differ differ' = absurd (differ cc)
samples_once (z ∷ front) [] ones others ones' others' x y x' y' e f differ differ' = absurd (differ' cc)
samples_once (z ∷ front) (w ∷ other_front) ones others ones' others' x y x' y' e f differ differ' =
    let one : front ++ x ∷ ones ≡ other_front ++ x' ∷ ones' = cc in
    let other : front ++ y ∷ others ≡ other_front ++ y' ∷ others' = cc in
    let rest = samples_once front other_front ones others ones' others' x y x' y' one other differ differ' in
    (omega (arith, rest.0), rest.1, rest.2)

values_once : (one other : Segment) (n m : ℕ) (x y x' y' : ℤ) → SamplesDiffer one other n x y
    → SamplesDiffer one other m x' y' → ◌≡◌ {A = DifferenceKind} (kind.Sample n x y) (kind.Sample m x' y')
values_once one other n m x y x' y' d e =
    let s = samples_once d.front e.front d.ones d.others e.ones e.others x y x' y'
    (sym d.alike.one_is ∙ e.alike.one_is) (sym d.alike.other_is ∙ e.alike.other_is) d.differ e.differ in
    cc (d.number_is, s.0, e.number_is, s.1, s.2)

-- of two lists that differ in a sample, neither begins with the other
not_longer_one : (one other : Segment) (n m : ℕ) (x y : ℤ) → SamplesDiffer one other n x y → IsLonger one other m → ⊥
not_longer_one one other n m x y d l =
    d.differ (heads_same d.front x y d.ones (d.others ++ l.sample ∷ l.rest)
    (sym d.alike.one_is ∙ l.alike.one_is ∙ ap (λ (s : List ℤ). s ++ l.sample ∷ l.rest) d.alike.other_is
    ∙ append_assoc d.front (y ∷ d.others) (l.sample ∷ l.rest)))

not_longer_other : (one other : Segment) (n m : ℕ) (x y : ℤ) → SamplesDiffer one other n x y → IsLonger other one m → ⊥
not_longer_other one other n m x y d l =
    d.differ (sym (heads_same d.front y x d.others (d.ones ++ l.sample ∷ l.rest)
    (sym d.alike.other_is ∙ l.alike.one_is ∙ ap (λ (s : List ℤ). s ++ l.sample ∷ l.rest) d.alike.one_is
    ∙ append_assoc d.front (x ∷ d.ones) (l.sample ∷ l.rest))))

not_both : (one other : Segment) (n m : ℕ) → IsLonger one other n → IsLonger other one m → ⊥
not_both one other n m a b =
    omega (
      arith,
      ap length a.alike.one_is,
      length-append other.samples (a.sample ∷ a.rest),
      ap length b.alike.one_is,
      length-append one.samples (b.sample ∷ b.rest),
    )

-- in what two segments first differ
kinds_once : (one other : Segment) (how again : DifferenceKind) → SegmentsDiffer one other how
    → SegmentsDiffer one other again → how ≡ again
kinds_once one other kind.Key kind.Key d e = refl
kinds_once one other kind.Start kind.Start d e = refl
kinds_once one other (kind.Sample n x y) (kind.Sample m x' y') d e = values_once one other n m x y x' y' d e
kinds_once one other (kind.SampleOnlyIn n which.One) (kind.SampleOnlyIn m which.One) d e =
    ap (λ (k : ℕ). kind.SampleOnlyIn k which.One) (d.number_is ∙ sym e.number_is)
kinds_once one other (kind.SampleOnlyIn n which.Other) (kind.SampleOnlyIn m which.Other) d e =
    ap (λ (k : ℕ). kind.SampleOnlyIn k which.Other) (d.number_is ∙ sym e.number_is)
kinds_once one other (kind.Sample n x y) (kind.SampleOnlyIn m which.One) d e =
    absurd (not_longer_one one other n m x y d e)
kinds_once one other (kind.Sample n x y) (kind.SampleOnlyIn m which.Other) d e =
    absurd (not_longer_other one other n m x y d e)
kinds_once one other (kind.SampleOnlyIn n which.One) (kind.Sample m x y) d e =
    absurd (not_longer_one one other m n x y e d)
kinds_once one other (kind.SampleOnlyIn n which.One) (kind.SampleOnlyIn m which.Other) d e =
    absurd (not_both one other n m d e)
kinds_once one other (kind.SampleOnlyIn n which.Other) (kind.Sample m x y) d e =
    absurd (not_longer_other one other m n x y e d)
kinds_once one other (kind.SampleOnlyIn n which.Other) (kind.SampleOnlyIn m which.One) d e =
    absurd (not_both one other m n e d)
kinds_once one other how again d e = absurd (grind arith)

-- lists of which only one has segments
one_has : (x : Segment) (xs : List Segment) (how : DifferenceKind) → ListsDiffer (x ∷ xs) [] how
    → how ≡ kind.SegmentOnlyIn which.One
one_has x xs (kind.SegmentOnlyIn which.One) d = refl
one_has x xs (kind.SegmentOnlyIn which.Other) d = let e = d.none in cc
one_has x xs how d = let e = d.others_are in cc

other_has : (y : Segment) (ys : List Segment) (how : DifferenceKind) → ListsDiffer [] (y ∷ ys) how
    → how ≡ kind.SegmentOnlyIn which.Other
other_has y ys (kind.SegmentOnlyIn which.One) d = let e = d.none in cc
other_has y ys (kind.SegmentOnlyIn which.Other) d = refl
other_has y ys how d = let e = d.ones_are in cc

lists_once : (ones others : List Segment) (how again : DifferenceKind) → ListsDiffer ones others how
    → ListsDiffer ones others again → how ≡ again
lists_once [] [] how again d e = absurd (none_differ how d)
lists_once (x ∷ xs) [] how again d e = one_has x xs how d ∙ sym (one_has x xs again e)
lists_once [] (y ∷ ys) how again d e = other_has y ys how d ∙ sym (other_has y ys again e)
lists_once (x ∷ xs) (y ∷ ys) how again d e =
    kinds_once x y how again (both_have x y xs ys how d) (both_have x y xs ys again e)

-- where two lists first differ, after which segments
places_once : (same again ones others ones' others' : List Segment) (how how' : DifferenceKind)
    → same ++ ones ≡ again ++ ones' → same ++ others ≡ again ++ others' → ListsDiffer ones others how
    → ListsDiffer ones' others' how' → (length same ≡ length again) × (how ≡ how')
places_once [] [] ones others ones' others' how how' e f d k =
    (refl, lists_once ones others how how' d (rw (e, f) k))
places_once [] (s ∷ again) ones others ones' others' how how' e f d k =
    absurd (not_first s (again ++ ones') (again ++ others') how (rw (e, f) at d))
places_once (s ∷ same) [] ones others ones' others' how how' e f d k =
    absurd (not_first s (same ++ ones) (same ++ others) how' (rw (← e, ← f) at k))
places_once (s ∷ same) (t ∷ again) ones others ones' others' how how' e f d k =
    let one : same ++ ones ≡ again ++ ones' = cc in
    let other : same ++ others ≡ again ++ others' = cc in
    let rest = places_once same again ones others ones' others' how how' one other d k in
    (omega (arith, rest.0), rest.1)

pub one_difference : (ones others : List Segment) (difference again : Difference)
    → IsFirstDifference ones others difference → IsFirstDifference ones others again → difference ≡ again
one_difference ones others difference again d e =
    let p = places_once d.same e.same d.ones_left d.others_left e.ones_left e.others_left difference.kind again.kind
    (sym d.ones_are ∙ e.ones_are) (sym d.others_are ∙ e.others_are) d.differ e.differ in
    ap₂ (λ (n : ℕ) (how : DifferenceKind). record { segment = n; kind = how })
    (omega (arith, d.segment_is, e.segment_is, p.0)) p.1

-- how far the records of an input have moved
moved_once : (settings : Settings) (input : List ℕ) (micros again : ℕ) → HasMoved settings input micros
    → HasMoved settings input again → micros ≡ again
moved_once settings input micros again a b =
    let same = (one_list_of_records settings input a.records b.records a.segments b.segments a.readable b.readable).0 in
    let g = rw same at a.greatest in
    omega (arith, g.least again b.greatest.within, b.greatest.least micros g.within)

told_is : {s n o p s' n' o' p' : ℕ} → s ≡ s' → n ≡ n' → o ≡ o' → p ≡ p'
    → ◌≡◌ {A = SameSegments} (record { segments = s; samples = n; moved_one = o; moved_other = p })
    (record { segments = s'; samples = n'; moved_one = o'; moved_other = p' })
told_is e f g h = cc

told_once : (settings : Settings) (one other : List ℕ) (told again : SameSegments) → AreSame settings one other told
    → AreSame settings one other again → told ≡ again
told_once settings one other told again s t =
    let same = one_list settings one s.same.segments t.same.segments s.same.one_has t.same.one_has in
    told_is (s.segments_are ∙ ap length same ∙ sym t.segments_are)
    (s.samples_are ∙ ap samples_in same ∙ sym t.samples_are)
    (moved_once settings one told.moved_one again.moved_one s.one_moved t.one_moved)
    (moved_once settings other told.moved_other again.moved_other s.other_moved t.other_moved)

fault_once : (settings : Settings) (input : List ℕ) (found again : Fault) → HasFirstFault settings input found
    → HasFirstFault settings input again → found ≡ again
fault_once settings input found again a b =
    (one_first_fault settings input a.records b.records found again a.first b.first).1

same_once : (settings : Settings) (one other : List ℕ) (told : SameSegments) (again : Result Comparison CompareFault)
    → IsOfInputs again → AreSame settings one other told → CompareAnswers settings one other again
    → Ok (Same told) ≡ again
same_once settings one other told again of_inputs s answers =
    let x = exact settings one other again of_inputs answers s.same in
    let also = rw x.1 at answers in
    ap (λ (t : SameSegments). Ok (Same t)) (told_once settings one other told x.0 s also) ∙ sym x.1

differ_once : (settings : Settings) (one other : List ℕ) (difference again : Difference)
    → DifferFirst settings one other difference → DifferFirst settings one other again → difference ≡ again
differ_once settings one other difference again d e =
    let ones = one_list settings one d.ones e.ones d.one_has e.one_has in
    let others = one_list settings other d.others e.others d.other_has e.other_has in
    one_difference e.ones e.others difference again (rw (ones, others) at d.first) e.first

pub one_answer : HaveOneAnswer
one_answer settings one other (Ok (Same told)) again of of' a b = same_once settings one other told again of' a b
one_answer settings one other answer (Ok (Same told)) of of' a b =
    sym (same_once settings one other told answer of b a)
one_answer settings one other (Ok (Differ d)) (Ok (Differ e)) of of' a b =
    ap (λ (x : Difference). Ok (Differ x)) (differ_once settings one other d e a b)
one_answer settings one other (Ok (Differ d)) (Err (One (fault.Input found))) of of' a b =
    absurd (no_fault settings one a.ones found a.one_has b)
one_answer settings one other (Ok (Differ d)) (Err (Other (fault.Input found))) of of' a b =
    absurd (no_fault settings other a.others found a.other_has b.faulty)
one_answer settings one other (Err (One (fault.Input found))) (Ok (Differ d)) of of' a b =
    absurd (no_fault settings one b.ones found b.one_has a)
one_answer settings one other (Err (One (fault.Input found))) (Err (One (fault.Input again))) of of' a b =
    ap (λ (f : Fault). Err (One (fault.Input f))) (fault_once settings one found again a b)
one_answer settings one other (Err (One (fault.Input found))) (Err (Other (fault.Input again))) of of' a b =
    absurd (no_fault settings one b.segments found b.one_has a)
one_answer settings one other (Err (Other (fault.Input found))) (Ok (Differ d)) of of' a b =
    absurd (no_fault settings other b.others found b.other_has a.faulty)
one_answer settings one other (Err (Other (fault.Input found))) (Err (One (fault.Input again))) of of' a b =
    absurd (no_fault settings one a.segments again a.one_has b)
one_answer settings one other (Err (Other (fault.Input found))) (Err (Other (fault.Input again))) of of' a b =
    ap (λ (f : Fault). Err (Other (fault.Input f))) (fault_once settings other found again a.faulty b.faulty)
one_answer settings one other answer again of of' a b = absurd assumption
