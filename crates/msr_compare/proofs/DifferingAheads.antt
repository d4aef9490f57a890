-- The first difference of what is ahead of two sides is that of the segments of their inputs.
use Rattle.std.proofs.Common.{◌≡◌, ℕ, ◌+◌, ◌^◌, ◌<◌, ◌≤◌, List, [], ◌∷◌, ◌++◌, length, map, refl, sym, ap, ◌∙◌, arith, append_assoc, length-append, ℤ, Option, Some, None}
use Rattle.std.specs.Option.{option_to_list}
use Rattle.std.proofs.lemmas.List.{length-map, map-append}
use Rattle.msr_rows.specs.declared.row.Key.{Key}
use Rattle.msr_devices.specs.Device.{Device}
use Rattle.msr_segments.specs.Segments.{segment_of}
use Rattle.msr_segments.specs.declared.joiner.Segment.{Segment}
use Rattle.msr_segments.proofs.Divisions.{no_parts}
use Rattle.msr_input.specs.declared.settings.Settings.{Settings}
use Rattle.msr_compare.specs.Differences.{IsFirstDifference, SegmentsDiffer}
use Rattle.msr_compare.specs.declared.comparison.Which.TheVariants.{One, Other}
use Rattle.msr_compare.specs.declared.comparison.DifferenceKind.{DifferenceKind}
use Rattle.msr_compare.specs.declared.comparison.DifferenceKind.TheVariants as kind
use Rattle.msr_compare.specs.Seen.{Sight}
use Rattle.msr_compare.specs.Symbols.{Symbol, Holds, symbols_of, held_in, count_after}
use Rattle.msr_compare.specs.Sides.{Standing, HasTaken}
use Rattle.msr_compare.specs.Meetings.{AheadsDiffer, BeginsMore, BeginsNext, HoldsMore, ValuesDiffer, place_of, side_of}
use Rattle.msr_compare.proofs.Symbols.{opened_in, segment_so, count_append, count_held, count_last, held_map, opened_append, opened_held, opened_symbols}
use Rattle.msr_compare.proofs.Aheads.{none_held_more}
use Rattle.msr_compare.proofs.FirstDifferences.{begins_first, longer_first, only_first, turned, values_first}

-- The tally of a side counts the symbols so far and those ahead.
pub record Counted (done : List Symbol) (side : Standing) : Type 0 where
  pub segments : side.tally.segments ≡ opened_in done + opened_in side.ahead
  pub count : 1 ≤ length (done ++ side.ahead) → side.tally.count ≡ count_after (count_after 0 done) side.ahead
  pub few : side.tally.count < 2 ^ 64

counted_so : {seen : Sight} {settings : Settings} {start now : Device} {side : Standing} {done : List Symbol}
    (h : HasTaken seen settings start now side done) (current : Option Segment) → h.joining.current ≡ current
    → 1 ≤ length (done ++ side.ahead) → side.tally.count ≡ count_after (count_after 0 done) side.ahead
counted_so {side = side} {done = done} h (Some s) e some =
    let whole = rw e at h.symbols in
    (h.tallied.at_open s e).1 ∙ sym (count_last 0 h.given s) ∙ ap (count_after 0) whole
    ∙ count_append 0 done side.ahead
counted_so h None e some =
    let are = rw (h.joined.begun e) at h.joined.segments in
    let none : h.given ++ option_to_list h.joining.current ≡ [] =
    are.each ∙ ap (map segment_of) (no_parts are.parts are.division.whole) in
    absurd (omega (arith, some, ap length (sym h.symbols ∙ ap symbols_of none)))

pub counted : {seen : Sight} {settings : Settings} {start now : Device} {side : Standing} {done : List Symbol}
    → HasTaken seen settings start now side done → Counted done side
counted {side = side} {done = done} h = record {
  segments = h.tallied.segments_are ∙ sym (opened_symbols (h.given ++ option_to_list h.joining.current))
      ∙ ap opened_in h.symbols ∙ opened_append done side.ahead;
  count = counted_so h h.joining.current refl;
  few = h.tallied.few_count;
}

-- where samples are ahead: the segment's number, and how many of its samples were compared
counted_held : {done : List Symbol} {side : Standing} (samples : List ℤ) → Counted done side
    → side.ahead ≡ map Holds samples → 1 ≤ length samples
    → (side.tally.segments ≡ opened_in done) × (side.tally.count ≡ count_after 0 done + length samples)
    × (place_of side ≡ count_after 0 done)
counted_held {done} {side} samples c ahead some =
    let opened = ap opened_in ahead ∙ opened_held samples in
    let size = ap length ahead ∙ length-map samples Holds in
    let whole = length-append done side.ahead in
    let count = c.count (omega (arith, some, size, whole)) ∙ ap (count_after (count_after 0 done)) ahead
    ∙ count_held (count_after 0 done) samples in
    let held = ap length (ap held_in ahead ∙ held_map samples) in
    (omega (arith, c.segments, opened), count, omega (arith, count, held))

-- All symbols of an input are those so far, those ahead and more. These are the first ones ahead.
regrouped : {all ahead first : List Symbol} (done more : List Symbol) → all ≡ (done ++ ahead) ++ more → ahead ≡ first
    → all ≡ done ++ (first ++ more)
regrouped {first = first} done more e is = rw (e, is) (append_assoc done first more)

-- both begin a segment, with another key or start
begins_so : {ones others : List Segment} {one : Standing} {ahead : List Symbol} {key other_key : Key}
    {start other_start : ℤ} {segment : ℕ} (how : DifferenceKind) (done more other_more : List Symbol)
    → Counted done one → segment ≡ one.tally.segments → (b : BeginsNext key start one.ahead)
    → (k : BeginsNext other_key other_start ahead) → symbols_of ones ≡ (done ++ one.ahead) ++ more
    → symbols_of others ≡ (done ++ ahead) ++ other_more
    → ((samples other_samples : List ℤ)
    → SegmentsDiffer (segment_so key start samples) (segment_so other_key other_start other_samples) how)
    → IsFirstDifference ones others (record { segment = segment; kind = how })
begins_so how done more other_more c number b k e f differ =
    begins_first how _ _ _ _ done (map Holds b.samples ++ more) (map Holds k.samples ++ other_more)
    (regrouped done more e b.ahead_is) (regrouped done other_more f k.ahead_is)
    (omega (arith, number, c.segments, ap opened_in b.ahead_is, opened_held b.samples)) differ

-- samples ahead, of which some are the same
held_after : {all ahead : List Symbol} {samples : List ℤ} (done more : List Symbol) (front after : List ℤ) (sample : ℤ)
    → all ≡ (done ++ ahead) ++ more → ahead ≡ map Holds samples → samples ≡ front ++ sample ∷ after
    → all ≡ (done ++ map Holds front) ++ Holds sample ∷ (map Holds after ++ more)
held_after done more front after sample e is split =
    rw (e, is, split, map-append Holds front (sample ∷ after)) (simp append_assoc)

values_so : {ones others : List Segment} {one other : Standing} {segment number : ℕ} {value other_value : ℤ}
    (done more other_more : List Symbol) → Counted done one → segment ≡ one.tally.segments
    → ValuesDiffer one other number value other_value → symbols_of ones ≡ (done ++ one.ahead) ++ more
    → symbols_of others ≡ (done ++ other.ahead) ++ other_more
    → IsFirstDifference ones others (record { segment = segment; kind = kind.Sample number value other_value })
values_so {value = value} {other_value = other_value} done more other_more c segment_is v e f =
    let u = v.unequal in
    let size = ap length u.ones_are ∙ length-append u.front (value ∷ u.ones_after) in
    let held = counted_held v.ones c v.one_is (omega (arith, size)) in
    let opened = opened_append done (map Holds u.front) in
    let count = count_append 0 done (map Holds u.front) ∙ count_held (count_after 0 done) u.front in
    let placed = v.number_is (omega (arith, held.1, held.2, u.at_is, size, c.few)) in
    values_first (done ++ map Holds u.front) (map Holds u.ones_after ++ more) (map Holds u.others_after ++ other_more)
    (held_after done more u.front u.ones_after value e v.one_is u.ones_are)
    (held_after done other_more u.front u.others_after other_value f v.other_is u.others_are) u.differ
    (omega (arith, segment_is, held.0, opened, opened_held u.front)) (omega (arith, placed, held.2, count, u.at_is))

-- samples are ahead of the first side only
more_so : {ones others : List Segment} {one other : Standing} {segment number : ℕ} (done more other_more : List Symbol)
    → Counted done one → segment ≡ one.tally.segments → HoldsMore one other number
    → symbols_of ones ≡ (done ++ one.ahead) ++ more → symbols_of others ≡ (done ++ other.ahead) ++ other_more
    → (other.ahead ≡ [] → other_more ≡ [])
    → IsFirstDifference ones others (record { segment = segment; kind = kind.SampleOnlyIn number One })
more_so {other = other} done more other_more c segment_is h e f end =
    let held = counted_held (h.holds.sample ∷ h.holds.samples) c h.holds.ahead_is (omega arith) in
    longer_first h.holds.sample done (map Holds h.holds.samples ++ more) (other.ahead ++ other_more)
    (regrouped done more e h.holds.ahead_is) (f ∙ append_assoc done other.ahead other_more)
    (none_held_more other.ahead other_more h.none end) (segment_is ∙ held.0) (h.number_is ∙ held.2)

-- a segment begins ahead of the first side only
only_so : {ones others : List Segment} {one other : Standing} {segment : ℕ} (done more other_more : List Symbol)
    → Counted done one → segment ≡ one.tally.segments → BeginsMore one other
    → symbols_of ones ≡ (done ++ one.ahead) ++ more → symbols_of others ≡ (done ++ other.ahead) ++ other_more
    → (other.ahead ≡ [] → other_more ≡ [])
    → IsFirstDifference ones others (record { segment = segment; kind = kind.SegmentOnlyIn One })
only_so done more other_more c number h e f end =
    let b = h.begins in
    only_first _ _ done (map Holds b.samples ++ more) (regrouped done more e b.ahead_is)
    (regrouped done other_more f h.none ∙ ap (λ (l : List Symbol). done ++ l) (end h.none))
    (omega (arith, number, c.segments, ap opened_in b.ahead_is, opened_held b.samples))

pub first_so : {ones others : List Segment} {one other : Standing} {segment : ℕ} (how : DifferenceKind)
    (done more other_more : List Symbol) → Counted done one → Counted done other
    → segment ≡ (side_of how one other).tally.segments → AheadsDiffer one other how
    → symbols_of ones ≡ (done ++ one.ahead) ++ more → symbols_of others ≡ (done ++ other.ahead) ++ other_more
    → (one.ahead ≡ [] → more ≡ []) → (other.ahead ≡ [] → other_more ≡ [])
    → IsFirstDifference ones others (record { segment = segment; kind = how })
first_so kind.Key done more other_more c d number k e f end other_end =
    begins_so kind.Key done more other_more c number k.begins k.other_begins e f (λ samples other_samples. k.differ)
first_so kind.Start done more other_more c d number k e f end other_end =
    begins_so kind.Start done more other_more c number k.begins k.other_begins e f
    (λ samples other_samples. (refl, k.differ))
first_so (kind.Sample at value other_value) done more other_more c d number k e f end other_end =
    values_so done more other_more c number k e f
first_so (kind.SampleOnlyIn at One) done more other_more c d number k e f end other_end =
    more_so done more other_more c number k e f other_end
first_so (kind.SampleOnlyIn at Other) done more other_more c d number k e f end other_end =
    let m = more_so done other_more more d number k f e end in
    turned (kind.SampleOnlyIn at Other) m (record {
      one = m.differ.other;
      other = m.differ.one;
      ones_after = m.differ.others_after;
      others_after = m.differ.ones_after;
      ones_are = m.differ.others_are;
      others_are = m.differ.ones_are;
      differ = m.differ.differ;
    })
first_so (kind.SegmentOnlyIn One) done more other_more c d number k e f end other_end =
    only_so done more other_more c number k e f other_end
first_so (kind.SegmentOnlyIn Other) done more other_more c d number k e f end other_end =
    let m = only_so done other_more more d number k f e end in
    turned (kind.SegmentOnlyIn Other) m m.differ
