-- What is known of a side, and how a record more changes it.
use Rattle.std.proofs.Common.{◌≡◌, ℕ, ◌+◌, ◌*◌, ◌^◌, ◌<◌, ◌≤◌, inl, inr, max, List, [], ◌∷◌, ◌++◌, length, map, refl, sym, ap, subst, ◌∙◌, arith, append_assoc, length-append, Option, Some, None}
use Rattle.std.specs.Option.{option_to_list}
use Rattle.std.specs.Prelude.{option_map}
use Rattle.std.proofs.lemmas.List.{append-nil, map-append}
use Rattle.msr_time.specs.SampleRate.{IsNear}
use Rattle.msr_rows.specs.declared.row.Record.{Record}
use Rattle.msr_rows.specs.declared.row.Row.{Row}
use Rattle.msr_rows.specs.declared.row.Key.{Key}
use Rattle.msr_segments.specs.Spans.{Following, IsInBounds, TakesStep}
use Rattle.msr_segments.specs.Segments.{AreSegments, ContinuesSegment, row_span, row_segment, segment_span, with_row}
use Rattle.msr_segments.specs.Joining.{Joining, HasJoined, BeginsRow, IsPushTold, JoinsRow, following_of}
use Rattle.msr_segments.specs.declared.follow.Step.{Step}
use Rattle.msr_segments.specs.declared.follow.Step.TheVariants.{Begins, Joins}
use Rattle.msr_segments.specs.declared.joiner.Segment.{Segment}
use Rattle.msr_segments.proofs.Divisions.{cases_last, last_same, no_empty}
use Rattle.msr_segments.proofs.DivisionLaws.{one_list}
use Rattle.msr_segments.proofs.Histories.{no_segments}
use Rattle.msr_segments.proofs.StepLaws.{pushes_grow, steps_push}
use Rattle.msr_input.specs.Input.{rows_of_records}
use Rattle.msr_input.proofs.Histories.{rows_with}
use Rattle.msr_compare.specs.declared.tally.RowTally.{RowTally}
use Rattle.msr_compare.specs.Moves.{IsDistance, LieWithin, IsGreatestMove}
use Rattle.msr_compare.specs.Differences.{samples_in}
use Rattle.msr_compare.specs.Symbols.{Holds, symbols_of, row_symbols}
use Rattle.msr_compare.specs.Tallies.{TellsDistance, TalliesRow}
use Rattle.msr_compare.specs.Sides.{IsTallied}
use Rattle.msr_compare.proofs.Symbols.{symbols_snoc}

pub samples_append : (xs ys : List Segment) → samples_in (xs ++ ys) ≡ samples_in xs + samples_in ys
samples_append [] ys = omega arith
samples_append (x ∷ xs) ys = omega (arith, samples_append xs ys)

-- of no rows none joins
pub no_move : (tolerance : ℕ) → IsGreatestMove tolerance [] 0
no_move tolerance = record {
  within = λ before after row segments last e are k. absurd (no_empty before after row e);
  least = λ other within. omega arith;
}

-- the rows before lie within what all do
within_before : (tolerance : ℕ) (rows : List Row) (row : Row) (micros : ℕ) → LieWithin tolerance (rows ++ row ∷ []) micros
    → LieWithin tolerance rows micros
within_before tolerance rows row micros within before after other segments last e =
    within before (after ++ row ∷ []) other segments last
    (ap (λ (rs : List Row). rs ++ row ∷ []) e ∙ append_assoc before (other ∷ after) (row ∷ []))

-- a distance at most so great is within
pub near_more : (near far apart den : ℕ) → near ≤ far → apart ≤ near * den → apart ≤ far * den
near_more near far apart den le h = grind (arith, le, h)

-- a row more, if it is known how far it lies where it joins
within_snoc : (tolerance : ℕ) (rows : List Row) (row : Row) (near micros : ℕ) → near ≤ micros
    → LieWithin tolerance rows near
    → ((segments : List Segment) (last : Segment) → AreSegments tolerance rows (segments ++ last ∷ [])
    → ContinuesSegment tolerance last row
    → IsNear last.key.rate last.start (length last.samples) row.start micros)
    → LieWithin tolerance (rows ++ row ∷ []) micros
within_snoc tolerance rows row near micros le within joins before after other segments last e are k =
    elim (cases_last rows before after row other e) [
      | inl w ↦ rw (← w.2) (joins segments last (rw w.1 are) (rw w.2 k))
      | inr w ↦ near_more near micros _ _ le (within before w.0 other segments last w.2 are k)
    ]

-- the last segment of the rows is the joiner's
last_so : {tolerance : ℕ} {rows : List Row} (given : List Segment) (current : Option Segment)
    → AreSegments tolerance rows (given ++ option_to_list current) → (current ≡ None → rows ≡ [])
    → (segments : List Segment) (last : Segment) → AreSegments tolerance rows (segments ++ last ∷ [])
    → current ≡ Some last
last_so {tolerance} given None a begun segments last are =
    absurd (no_segments tolerance segments last (rw (begun refl) at are))
last_so {tolerance} {rows} given (Some s) a begun segments last are =
    ap (λ (x : Segment). Some x) (last_same given segments s last (one_list tolerance rows _ _ a are))

-- a row that begins a segment moves nothing
move_begins : (old : Joining) (rows : List Row) (given : List Segment) (row : Row) (micros : ℕ)
    → HasJoined old rows given
    → ((segment : Segment) → old.current ≡ Some segment → ContinuesSegment old.tolerance segment row → ⊥)
    → IsGreatestMove old.tolerance rows micros → IsGreatestMove old.tolerance (rows ++ row ∷ []) micros
move_begins old rows given row micros h breaks greatest = record {
  within = within_snoc old.tolerance rows row micros micros (omega arith) greatest.within
      (λ segments last are k. absurd (breaks last (last_so given old.current h.segments h.begun segments last are) k));
  least = λ other within. greatest.least other (within_before old.tolerance rows row other within);
}

-- of a row that joins, its distance counts
move_joins : (old : Joining) (rows : List Row) (given : List Segment) (row : Row) (segment : Segment)
    (micros distance new : ℕ) → HasJoined old rows given → old.current ≡ Some segment
    → ContinuesSegment old.tolerance segment row
    → IsDistance segment.key.rate segment.start (length segment.samples) row.start distance
    → IsGreatestMove old.tolerance rows micros → new ≡ max micros distance
    → IsGreatestMove old.tolerance (rows ++ row ∷ []) new
move_joins old rows given row segment micros distance new h current k is greatest e =
    let distance_le : distance ≤ new = omega (arith, e) in
    let are = rw current at h.segments in
    record {
      within = within_snoc old.tolerance rows row micros new (omega (arith, e)) greatest.within
          (λ segments last others goes.
          let same : segment ≡ last = cc (current, last_so given old.current h.segments h.begun segments last others) in
          rw (← same) (near_more distance new _ _ distance_le is.near));
      least = λ other within.
          let first = greatest.least other (within_before old.tolerance rows row other within) in
          let second = is.least other (within rows [] row given segment refl are k) in
          omega (arith, e, first, second);
    }

-- what a row more makes of a joiner and its segments
pub record Grown (old : Joining) (rows : List Row) (given : List Segment) (row : Row) (answer : Step) (next : Following)
    : Type 0 where
  pub joining : Joining
  pub ended : Option Segment
  pub push : IsPushTold answer old row ended joining
  pub joined : HasJoined joining (rows ++ row ∷ []) (given ++ option_to_list ended)
  pub stands : next ≡ following_of joining

pub grown : {old : Joining} {rows : List Row} {given : List Segment} (row : Row) (answer : Step) (was next : Following)
    → HasJoined old rows given → was ≡ following_of old → TakesStep was (row_span row) answer next
    → Grown old rows given row answer next
grown {old} {rows} {given} row answer was next h at step =
    let p = steps_push old row answer next (subst (λ (f : Following). TakesStep f (row_span row) answer next) at step) in
    let joined = pushes_grow old p.0 rows given row p.1 h p.3 in
    record { joining = p.0; ended = p.1; push = p.2; joined = joined; stands = p.4 }

-- all segments after a row
whole_begins : {old new : Joining} {row : Row} {ended : Option Segment} (given : List Segment)
    → BeginsRow old row ended new
    → (given ++ option_to_list ended) ++ option_to_list new.current
    ≡ (given ++ option_to_list old.current) ++ row_segment row ∷ []
whole_begins given k = rw (k.ended, k.after) refl

whole_joins : {old new : Joining} {row : Row} {ended : Option Segment} (given : List Segment)
    (k : JoinsRow old row ended new)
    → (given ++ option_to_list ended) ++ option_to_list new.current ≡ given ++ with_row k.segment row ∷ []
whole_joins given k = rw (k.none, k.after, append-nil given) refl

was_joined : {old new : Joining} {row : Row} {ended : Option Segment} (given : List Segment)
    (k : JoinsRow old row ended new) → given ++ option_to_list old.current ≡ given ++ k.segment ∷ []
was_joined given k = ap (λ (c : Option Segment). given ++ option_to_list c) k.current

joins_whole : (given : List Segment) (segment : Segment) (row : Row)
    → symbols_of (given ++ with_row segment row ∷ []) ≡ symbols_of (given ++ segment ∷ []) ++ map Holds row.samples
joins_whole given segment row =
    rw (
      symbols_snoc given (with_row segment row),
      symbols_snoc given segment,
      append_assoc,
      map-append Holds segment.samples row.samples,
    ) refl

-- the distance that was told of a row that joins
told_distance : (tolerance : ℕ) (segment : Segment) (row : Row) (tally : RowTally) (told : ℕ) → tolerance ≤ 1_000_000
    → ContinuesSegment tolerance segment row → tally.start ≡ segment.start → tally.count ≡ length segment.samples
    → TellsDistance row.key.rate tally.start tally.count row.start told
    → IsDistance segment.key.rate segment.start (length segment.samples) row.start told
told_distance tolerance segment row tally told bounded k start count tells =
    let rate = ap (λ (key : Key). key.rate) k.key in
    let is = rw (rate, start, count) at tells.is_distance in
    let small = is.least tolerance k.time in
    rw (tells.told_is (omega (arith, small, bounded))) is

pub grown_symbols : {old : Joining} {rows : List Row} {given : List Segment} {row : Row} {next : Following}
    (answer : Step) (g : Grown old rows given row answer next)
    → symbols_of ((given ++ option_to_list g.ended) ++ option_to_list g.joining.current)
    ≡ symbols_of (given ++ option_to_list old.current) ++ row_symbols answer row
grown_symbols {old} {given = given} {row} Begins g =
    ap symbols_of (whole_begins given g.push) ∙ symbols_snoc (given ++ option_to_list old.current) (row_segment row)
grown_symbols {given = given} {row} Joins g =
    ap symbols_of (whole_joins given g.push) ∙ joins_whole given g.push.segment row
    ∙ ap (λ (l : List Segment). symbols_of l ++ map Holds row.samples) (sym (was_joined given g.push))

-- the tally counts the record more
pub tallied_more : {old : Joining} {records : List Record} {given : List Segment} {row : Row} {next : Following}
    {before after : RowTally} (answer : Step) (found : Record)
    (g : Grown old (rows_of_records records) given row answer next) → found.row ≡ Some row
    → HasJoined old (rows_of_records records) given
    → IsTallied records old.tolerance (given ++ option_to_list old.current) old.current before
    → old.tolerance ≤ 1_000_000 → IsInBounds next.current → length (records ++ found ∷ []) < 2 ^ 64
    → length row.samples ≤ 65_535 → TalliesRow answer before row after
    → IsTallied (records ++ found ∷ []) old.tolerance
    ((given ++ option_to_list g.ended) ++ option_to_list g.joining.current) g.joining.current after
tallied_more {old} {records} {given} {row} {before = before} Begins found g some h b bounded bounds few short t =
    let k = g.push in
    let all = given ++ option_to_list old.current in
    let current : g.joining.current ≡ Some (row_segment row) = ap (λ (j : Joining). j.current) k.after in
    let whole = whole_begins given k in
    let size = length-append records (found ∷ []) in
    let count = ap length whole ∙ length-append all (row_segment row ∷ []) in
    let sum = ap samples_in whole ∙ samples_append all (row_segment row ∷ []) in
    let segments = t.segments (omega (arith, b.few_segments, few, size)) in
    let samples = t.samples (omega (arith, b.few_samples, few, size, short)) in
    let greatest = move_begins old (rows_of_records records) given row before.moved h k.breaks b.greatest in
    record {
      segments_are = omega (arith, segments, b.segments_are, count);
      samples_are = omega (arith, samples, b.samples_are, sum);
      few_segments = omega (arith, segments, b.few_segments, size);
      few_samples = omega (arith, samples, b.few_samples, short, size);
      few_count = omega (arith, t.count, short);
      at_open = λ segment e.
          let same : row_segment row ≡ segment = cc (current, e) in
          (t.start ∙ ap (λ (x : Segment). x.start) same, t.count ∙ ap (λ (x : Segment). length x.samples) same);
      greatest = rw (rows_with records found row some, t.moved) greatest;
    }
tallied_more {old} {records} {given} {row} {next} {before} {after} Joins found g some h b bounded bounds few short t =
    let k = g.push in
    let longer = with_row k.segment row in
    let open_at = b.at_open k.segment k.current in
    let current : g.joining.current ≡ Some longer = ap (λ (j : Joining). j.current) k.after in
    let whole = whole_joins given k in
    let was = was_joined given k in
    let size = length-append records (found ∷ []) in
    let count = ap length whole ∙ length-append given (longer ∷ []) in
    let count_was = ap length was ∙ length-append given (k.segment ∷ []) in
    let sum = ap samples_in whole ∙ samples_append given (longer ∷ []) in
    let sum_was = ap samples_in was ∙ samples_append given (k.segment ∷ []) in
    let parts = length-append k.segment.samples row.samples in
    let limit = (bounds (segment_span longer) (ap (λ (f : Following). f.current) g.stands
    ∙ ap (option_map segment_span) current)).1 in
    let counted = t.count (omega (arith, open_at.1, parts, limit)) in
    let samples = t.samples (omega (arith, b.few_samples, few, size, short)) in
    let greatest = move_joins old (rows_of_records records) given row k.segment before.moved t.distance after.moved h
    k.current k.continues (told_distance old.tolerance k.segment row before t.distance bounded k.continues open_at.0
    open_at.1 t.tells) b.greatest t.moved in
    record {
      segments_are = omega (arith, t.segments, b.segments_are, count, count_was);
      samples_are = omega (arith, samples, b.samples_are, sum, sum_was, parts);
      few_segments = omega (arith, t.segments, b.few_segments, size);
      few_samples = omega (arith, samples, b.few_samples, short, size);
      few_count = omega (arith, counted, open_at.1, parts, limit);
      at_open = λ segment e.
          let same : longer ≡ segment = cc (current, e) in (
            t.start ∙ open_at.0 ∙ ap (λ (x : Segment). x.start) same,
            counted ∙ ap (λ (n : ℕ). n + length row.samples) open_at.1 ∙ sym parts
                ∙ ap (λ (x : Segment). length x.samples) same,
          );
      greatest = rw (rows_with records found row some) greatest;
    }
