-- From the first symbols that differ to the first difference of segments.
use Rattle.std.proofs.Common.{◌≡◌, ◌≢◌, ℕ, ◌+◌, List, [], ◌∷◌, ◌++◌, length, map, refl, sym, ap, ap₂, ◌∙◌, arith, append_assoc, length-append, ℤ}
use Rattle.std.proofs.lemmas.List.{append-nil}
use Rattle.msr_rows.specs.declared.row.Key.{Key}
use Rattle.msr_segments.specs.declared.joiner.Segment.{Segment}
use Rattle.msr_compare.specs.Differences.{IsFirstDifference, ListsDiffer, SegmentsDiffer}
use Rattle.msr_compare.specs.declared.comparison.Which.TheVariants as which
use Rattle.msr_compare.specs.declared.comparison.DifferenceKind.{DifferenceKind}
use Rattle.msr_compare.specs.declared.comparison.DifferenceKind.TheVariants as kind
use Rattle.msr_compare.specs.Symbols.{Symbol, Opens, Holds, symbols_of, count_after}
use Rattle.msr_compare.specs.Meetings.{HoldsNone}
use Rattle.msr_compare.proofs.Symbols.{opened_in, segment_so, opens_next, opens_so, holds_so, no_sample_first, no_symbols}

-- Symbols as segments: those that are whole, and the last one, of whose samples these are the first.
pub record Begun : Type 0 where
  pub whole : List Segment
  pub key : Key
  pub start : ℤ
  pub front : List ℤ

-- the symbols after the beginning of a segment and some samples of it
abbrev pub begun : Key → ℤ → List ℤ → List Symbol → Begun
begun key start front [] = record { whole = []; key = key; start = start; front = front }
begun key start front (Holds x ∷ done) = begun key start (front ++ x ∷ []) done
begun key start front (Opens k t ∷ done) =
    let b : Begun = begun k t [] done in
    record b { whole = segment_so key start front ∷ b.whole }

begun_opened : (key : Key) (start : ℤ) (front : List ℤ) (done : List Symbol)
    → opened_in done ≡ length (begun key start front done).whole
begun_opened key start front [] = refl
begun_opened key start front (Holds x ∷ done) = begun_opened key start (front ++ x ∷ []) done
begun_opened key start front (Opens k t ∷ done) = omega (arith, begun_opened k t [] done)

begun_count : (key : Key) (start : ℤ) (front : List ℤ) (done : List Symbol)
    → count_after (length front) done ≡ length (begun key start front done).front
begun_count key start front [] = refl
begun_count key start front (Holds x ∷ done) =
    let size : length front + 1 ≡ length (front ++ x ∷ []) = omega (arith, length-append front (x ∷ [])) in
    ap (λ (n : ℕ). count_after n done) size ∙ begun_count key start (front ++ x ∷ []) done
begun_count key start front (Opens k t ∷ done) = begun_count k t [] done

-- segments with these first symbols, and what is ahead of them
record GoesOn (b : Begun) (segments : List Segment) (ahead : List Symbol) : Type 0 where
  pub left : List ℤ
  pub after : List Segment
  pub are : segments ≡ b.whole ++ segment_so b.key b.start (b.front ++ left) ∷ after
  pub ahead_is : map Holds left ++ symbols_of after ≡ ahead

goes_on : {ahead : List Symbol} (key : Key) (start : ℤ) (front : List ℤ) (done : List Symbol) (left : List ℤ)
    (after : List Segment) → map Holds left ++ symbols_of after ≡ done ++ ahead
    → GoesOn (begun key start front done) (segment_so key start (front ++ left) ∷ after) ahead
goes_on key start front [] left after e = record { left = left; after = after; are = refl; ahead_is = e }
goes_on key start front (Holds x ∷ done) left after e =
    let h = holds_so left after e in
    let g = goes_on key start (front ++ x ∷ []) done h.after after h.rest_is in
    rw (h.are, ← append_assoc front (x ∷ []) h.after) g
goes_on key start front (Opens k t ∷ done) left after e =
    let o = opens_next left after e in
    let g = goes_on k t [] done o.1.samples o.1.after o.1.rest_is in
    record {
      left = g.left;
      after = g.after;
      are = ap₂ (λ (l : List ℤ) (a : List Segment). segment_so key start (front ++ l) ∷ a) o.0 o.1.are
          ∙ ap₂ (λ (l : List ℤ) (a : List Segment). segment_so key start l ∷ a) (append-nil front) g.are;
      ahead_is = g.ahead_is;
    }

from_start : {ahead : List Symbol} (key : Key) (start : ℤ) (done : List Symbol) (segments : List Segment)
    → symbols_of segments ≡ Opens key start ∷ (done ++ ahead) → GoesOn (begun key start [] done) segments ahead
from_start key start done segments e =
    let o = opens_so segments e in
    rw o.are (goes_on key start [] done o.samples o.after o.rest_is)

-- where a sample comes next
record HoldsAt (b : Begun) (segments : List Segment) (sample : ℤ) : Type 0 where
  pub left : List ℤ
  pub after : List Segment
  pub are : segments ≡ b.whole ++ segment_so b.key b.start (b.front ++ sample ∷ left) ∷ after

holds_at : {sample : ℤ} (key : Key) (start : ℤ) (done rest : List Symbol) (segments : List Segment)
    → symbols_of segments ≡ Opens key start ∷ (done ++ Holds sample ∷ rest)
    → HoldsAt (begun key start [] done) segments sample
holds_at key start done rest segments e =
    let g = from_start key start done segments e in
    let h = holds_so g.left g.after g.ahead_is in
    record { left = h.after; after = g.after; are = rw h.are at g.are }

-- where no sample comes next, none is left before the next segment
none_left : (left : List ℤ) (after : List Segment) (ahead : List Symbol) → map Holds left ++ symbols_of after ≡ ahead
    → HoldsNone ahead → left ≡ []
none_left [] after ahead e none = refl
none_left (x ∷ left) after ahead e none = absurd (none x (map Holds left ++ symbols_of after) (sym e))

record EndsSo (b : Begun) (segments : List Segment) (ahead : List Symbol) : Type 0 where
  pub after : List Segment
  pub are : segments ≡ b.whole ++ segment_so b.key b.start b.front ∷ after
  pub ahead_is : symbols_of after ≡ ahead

ends_so : {ahead : List Symbol} (key : Key) (start : ℤ) (done : List Symbol) (segments : List Segment)
    → symbols_of segments ≡ Opens key start ∷ (done ++ ahead) → HoldsNone ahead
    → EndsSo (begun key start [] done) segments ahead
ends_so {ahead} key start done segments e none =
    let b : Begun = begun key start [] done in
    let g = from_start key start done segments e in
    let empty = none_left g.left g.after ahead g.ahead_is none in
    record { after = g.after; are = rw (empty, append-nil b.front) at g.are; ahead_is = rw empty at g.ahead_is }

-- the segments of symbols of which the first is a beginning
abbrev pub whole_in : List Symbol → List Segment
whole_in [] = []
whole_in (Holds x ∷ done) = whole_in done
whole_in (Opens key start ∷ done) =
    let b : Begun = begun key start [] done in
    b.whole ++ segment_so b.key b.start b.front ∷ []

whole_opened : (done : List Symbol) → opened_in done ≡ length (whole_in done)
whole_opened [] = refl
whole_opened (Holds x ∷ done) = whole_opened done
whole_opened (Opens key start ∷ done) =
    let b : Begun = begun key start [] done in
    omega (arith, begun_opened key start [] done, length-append b.whole (segment_so b.key b.start b.front ∷ []))

-- segments with these first symbols, after which no sample comes: they begin with the segments of the symbols
record GoesPast (done : List Symbol) (segments : List Segment) (ahead : List Symbol) : Type 0 where
  pub left : List Segment
  pub are : segments ≡ whole_in done ++ left
  pub ahead_is : symbols_of left ≡ ahead

goes_past : {ahead : List Symbol} (done : List Symbol) (segments : List Segment) → symbols_of segments ≡ done ++ ahead
    → HoldsNone ahead → GoesPast done segments ahead
goes_past [] segments e none = record { left = segments; are = refl; ahead_is = e }
goes_past {ahead} (Holds x ∷ done) segments e none = absurd (no_sample_first segments x (done ++ ahead) e)
goes_past (Opens key start ∷ done) segments e none =
    let g = ends_so key start done segments e none in
    record { left = g.after; are = rw append_assoc g.are; ahead_is = g.ahead_is }

-- where a segment begins next
record BeginsAt (done : List Symbol) (segments : List Segment) (key : Key) (start : ℤ) : Type 0 where
  pub samples : List ℤ
  pub after : List Segment
  pub are : segments ≡ whole_in done ++ segment_so key start samples ∷ after

begins_at : {key : Key} {start : ℤ} (done rest : List Symbol) (segments : List Segment)
    → symbols_of segments ≡ done ++ Opens key start ∷ rest → BeginsAt done segments key start
begins_at done rest segments e =
    let p = goes_past done segments e (λ sample after h. cc) in
    let o = opens_so p.left p.ahead_is in
    record { samples = o.samples; after = o.after; are = rw o.are at p.are }

-- lists that go on with two segments that differ
lists_differ : (how : DifferenceKind) (one other : Segment) (after other_after : List Segment)
    → SegmentsDiffer one other how → ListsDiffer (one ∷ after) (other ∷ other_after) how
lists_differ (kind.SegmentOnlyIn w) one other after other_after d = absurd d
lists_differ how one other after other_after d = record {
  one = one;
  other = other;
  ones_after = after;
  others_after = other_after;
  ones_are = refl;
  others_are = refl;
  differ = d;
}

firsts_so : {ones others : List Segment} {segment : ℕ} (how : DifferenceKind) (same : List Segment)
    (one other : Segment) (after other_after : List Segment) → ones ≡ same ++ one ∷ after
    → others ≡ same ++ other ∷ other_after → segment ≡ length same + 1 → SegmentsDiffer one other how
    → IsFirstDifference ones others (record { segment = segment; kind = how })
firsts_so how same one other after other_after e f number differ = record {
  same = same;
  ones_left = one ∷ after;
  others_left = other ∷ other_after;
  ones_are = e;
  others_are = f;
  segment_is = number;
  differ = lists_differ how one other after other_after differ;
}

-- keys or starts that differ
pub begins_first : {ones others : List Segment} {segment : ℕ} (how : DifferenceKind) (key other_key : Key)
    (start other_start : ℤ) (done rest other_rest : List Symbol) → symbols_of ones ≡ done ++ Opens key start ∷ rest
    → symbols_of others ≡ done ++ Opens other_key other_start ∷ other_rest → segment ≡ opened_in done + 1
    → ((samples other_samples : List ℤ)
    → SegmentsDiffer (segment_so key start samples) (segment_so other_key other_start other_samples) how)
    → IsFirstDifference ones others (record { segment = segment; kind = how })
begins_first {ones} {others} how key other_key start other_start done rest other_rest e f number differ =
    let one = begins_at done rest ones e in
    let other = begins_at done other_rest others f in
    firsts_so how (whole_in done) _ _ one.after other.after one.are other.are
    (omega (arith, number, whole_opened done)) (differ one.samples other.samples)

-- a segment that only the first list has
pub only_first : {ones others : List Segment} {segment : ℕ} (key : Key) (start : ℤ) (done rest : List Symbol)
    → symbols_of ones ≡ done ++ Opens key start ∷ rest → symbols_of others ≡ done ++ []
    → segment ≡ opened_in done + 1
    → IsFirstDifference ones others (record { segment = segment; kind = kind.SegmentOnlyIn which.One })
only_first {ones} {others} key start done rest e f number =
    let one = begins_at done rest ones e in
    let other = goes_past done others f (λ sample after h. cc) in
    record {
      same = whole_in done;
      ones_left = segment_so key start one.samples ∷ one.after;
      others_left = other.left;
      ones_are = one.are;
      others_are = other.are;
      segment_is = omega (arith, number, whole_opened done);
      differ = record {
        one = segment_so key start one.samples;
        after = one.after;
        ones_are = refl;
        none = no_symbols other.left other.ahead_is;
      };
    }

-- samples that differ
pub values_first : {ones others : List Segment} {value other_value : ℤ} {segment number : ℕ}
    (done rest other_rest : List Symbol) → symbols_of ones ≡ done ++ Holds value ∷ rest
    → symbols_of others ≡ done ++ Holds other_value ∷ other_rest → value ≢ other_value → segment ≡ opened_in done
    → number ≡ count_after 0 done
    → IsFirstDifference ones others (record { segment = segment; kind = kind.Sample number value other_value })
values_first {ones} {others} {value} {other_value} {number = number} (Opens key start ∷ done) rest other_rest e f differ
    segment_is number_is =
    let b : Begun = begun key start [] done in
    let one = holds_at key start done rest ones e in
    let other = holds_at key start done other_rest others f in
    firsts_so (kind.Sample number value other_value) b.whole _ _ one.after other.after one.are other.are
    (omega (arith, segment_is, begun_opened key start [] done)) (record {
      front = b.front;
      ones = one.left;
      others = other.left;
      alike = record { key = refl; start = refl; one_is = refl; other_is = refl };
      number_is = number_is ∙ begun_count key start [] done;
      differ = differ;
    })
values_first {ones} done rest other_rest e f differ segment_is number_is = absurd (no_sample_first ones _ _ e)

-- samples that only the first list has
pub longer_first : {ones others : List Segment} {segment number : ℕ} (sample : ℤ) (done rest ahead : List Symbol)
    → symbols_of ones ≡ done ++ Holds sample ∷ rest → symbols_of others ≡ done ++ ahead → HoldsNone ahead
    → segment ≡ opened_in done → number ≡ count_after 0 done
    → IsFirstDifference ones others (record { segment = segment; kind = kind.SampleOnlyIn number which.One })
longer_first {ones} {others} {number = number} sample (Opens key start ∷ done) rest ahead e f none segment_is
    number_is =
    let b : Begun = begun key start [] done in
    let one = holds_at key start done rest ones e in
    let other = ends_so key start done others f none in
    firsts_so (kind.SampleOnlyIn number which.One) b.whole _ _ one.after other.after one.are other.are
    (omega (arith, segment_is, begun_opened key start [] done)) (record {
      sample = sample;
      rest = one.left;
      alike = record { key = refl; start = refl; one_is = refl; other_is = sym (append-nil b.front) };
      number_is = number_is ∙ begun_count key start [] done;
    })
longer_first {ones} sample done rest ahead e f none segment_is number_is = absurd (no_sample_first ones _ _ e)

-- what is found of two lists, of the same in the other order
pub turned : {ones others : List Segment} {segment : ℕ} {how : DifferenceKind} (again : DifferenceKind)
    (d : IsFirstDifference ones others (record { segment = segment; kind = how }))
    → ListsDiffer d.others_left d.ones_left again
    → IsFirstDifference others ones (record { segment = segment; kind = again })
turned again d differ = record {
  same = d.same;
  ones_left = d.others_left;
  others_left = d.ones_left;
  ones_are = d.others_are;
  others_are = d.ones_are;
  segment_is = d.segment_is;
  differ = differ;
}
