-- A writer in the middle of a segment.
use Rattle.std.proofs.Common.{◌≡◌, ℕ, ◌+◌, ◌-◌, ◌<◌, ◌≤◌, ◌^◌, Bool, true, false, ℤ, List, [], ◌∷◌, ◌++◌, ◌∙◌, length, map, drop, arith, refl, sym, ap, subst, append_assoc, append-nil, length-append, length-take, length-drop, FitsSigned, Result, Ok, Err, MatchResult}
use Rattle.std.specs.Prelude.{All}
use Rattle.std.specs.Int.{w32}
use Rattle.std.specs.List.{flat_map}
use Rattle.std.proofs.lemmas.List.{map-append}
use Rattle.std.proofs.lemmas.List.Elements.{All-append, All-head, All-nil, All-push, All-weaker}
use Rattle.msr_devices.specs.Device.{Device, HasFailed, IsCalm}
use Rattle.msr_devices.specs.WriteBuffer.{Passes}
use Rattle.msr_devices.proofs.Chaining.{calm_calm, calm_failed, takes_append}
use Rattle.msr_words.specs.declared.kinds.Run.{Run}
use Rattle.msr_words.specs.Fit.{FitsIn, IsRun, records_of}
use Rattle.msr_words.specs.Packing.{IsCanonical}
use Rattle.msr_base.specs.declared.forms.Form.{Form}
use Rattle.msr_base.specs.Lengths.{bytes_of}
use Rattle.msr_packer.specs.Blocks.{Holding, Packs, pushed}
use Rattle.msr_packer.specs.HeldSamples.{ShowsPiece}
use Rattle.msr_packer.specs.declared.held.Piece.{Piece}
use Rattle.msr_packer.proofs.PackingsExist.{HasRest}
use Rattle.msr_packer.proofs.Holding.{begins_all, begins_rest}
use Rattle.msr_packer.proofs.InBlocks.{last_begin}
use Rattle.msr_packer.proofs.Least.{found}
use Rattle.msr_record.specs.Written.{IsWritableKey}
use Rattle.msr_rows.specs.declared.row.Key.{Key}
use Rattle.msr_rows.specs.declared.row.Row.{Row}
use Rattle.msr_segments.specs.Spans.{SpanIsInTime, span_of}
use Rattle.msr_segments.specs.declared.joiner.Segment.{Segment}
use Rattle.msr_record.specs.Opened.{AppendsMore, AppendsSome, CanEncode, CanGoOn, GivesRuns, HasBegun, IsOpen, Opened, empty_segment, longer_by}
use Rattle.msr_record.specs.Output.{AreWritten, Cut, IsPrefixOfOutput, IsPacked, IsWritableSegment, Packed, cuts_at, cuts_of, next_number, number_after, segment_of_packed}
use Rattle.msr_record.specs.Writing.{AppendsRecordOfRun, HasWritten, StopsWriting, Writing}
use Rattle.msr_devices.specs.declared.fault.DeviceFault.TheVariants.{Failed, Memory}
use Rattle.msr_record.proofs.Appending.{appends_more, appends_nothing, cuts_further, number_after-append, written_append}
use Rattle.msr_record.proofs.Existing.{all_left, all_right, prefix_of_output, is_packed_by, written_longer}
use Rattle.msr_record.proofs.BetweenSegments.{more_whole, short_sum}
use Rattle.msr_record.proofs.Runs.{points_of_run}

-- ---- the runs that were given

-- they begin the packing of the samples
pub gives_rest : (whole : Bool) (form : Form) (samples : List ℤ) (runs : List Run) (separators : List ℕ)
    (packer : Holding) → GivesRuns whole form samples runs separators packer
    → HasRest (records_of form) samples runs separators
gives_rest false form samples runs separators packer p =
    begins_rest (records_of form) form.length.least samples runs separators packer.held packer.offset packer.current
    p.holds
gives_rest true form samples runs separators packer p =
    last_begin (records_of form) form.length.least samples runs separators packer packer.ended p.left

pub record FitsThere (form : Form) (samples : List ℤ) (run : Run) : Type 0 where
  pub some : run.start < run.end
  pub fits : IsRun (FitsIn run.kind (records_of form)) samples run.start run.end

-- so each is a run that fits
pub given_fits : (form : Form) (samples : List ℤ) (runs : List Run) (run : Run) (separators : List ℕ)
    → HasRest (records_of form) samples (runs ++ run ∷ []) separators → FitsThere form samples run
given_fits form samples runs run separators rest =
    let f = found (records_of form) samples form.length.least ((runs ++ run ∷ []) ++ rest.others)
    (separators ++ rest.places) rest.canonical in
    let same : (runs ++ run ∷ []) ++ rest.others ≡ runs ++ run ∷ rest.others =
    append_assoc runs (run ∷ []) rest.others in
    let somes : All (λ r. r.start < r.end) (runs ++ run ∷ rest.others) =
    subst (All (λ r. r.start < r.end)) same f.packing.none_empty in
    let fits : All (λ r. IsRun (FitsIn r.kind (records_of form)) samples r.start r.end) (runs ++ run ∷ rest.others) =
    subst (All (λ r. IsRun (FitsIn r.kind (records_of form)) samples r.start r.end)) same f.packing.each_fits in
    record {
      some = All-head (λ r. r.start < r.end) run rest.others
          (all_right (λ r. r.start < r.end) runs (run ∷ rest.others) somes);
      fits = All-head (λ r. IsRun (FitsIn r.kind (records_of form)) samples r.start r.end) run rest.others
          (all_right (λ r. IsRun (FitsIn r.kind (records_of form)) samples r.start r.end) runs (run ∷ rest.others)
          fits);
    }

-- and can be encoded when it is shown
pub can_encode : (whole : Bool) (opened : Opened) (piece : Piece) (separators : List ℕ) (packer : Holding)
    → (can : CanGoOn whole opened) → GivesRuns whole opened.form can.segment.samples
    (can.runs ++ piece.run ∷ []) separators packer
    → ShowsPiece can.segment.samples packer.shown packer.before packer.groups piece
    → CanEncode (bytes_of opened.form.length) opened.key opened.start packer piece.run
can_encode whole opened piece separators packer can gives shows =
    let samples = can.segment.samples in
    let f = given_fits opened.form samples can.runs piece.run separators
    (gives_rest whole opened.form samples (can.runs ++ piece.run ∷ []) separators packer gives) in
    let some = f.some in
    let within = f.fits.1 in
    let width = piece.run.end - piece.run.start in
    let left = length-drop piece.run.start samples in
    let long = length-take width (drop piece.run.start samples) in
    let first : piece.run.start ≤ length samples = omega arith in
    record {
      quality = can.writable.quality;
      normal = can.writable.normal;
      count = length samples;
      inside = omega arith;
      in_time = rw (can.is_open.key, can.is_open.start) can.in_time;
      some = rw shows.run (omega arith);
      fits = rw (
        shows.run,
        shows.before_run,
        points_of_run samples
            piece.run.start piece.run.end first,
      ) f.fits.2.1;
      sizes = shows.sizes;
    }

-- the runs that were given lie in the samples
pub runs_within : (form : Form) (samples : List ℤ) (runs : List Run) (separators : List ℕ)
    → HasRest (records_of form) samples runs separators → All
    (λ run. (run.start ≤ run.end) × (run.end ≤ length samples)) runs
runs_within form samples runs separators rest =
    let f = found (records_of form) samples form.length.least (runs ++ rest.others) (separators ++ rest.places)
    rest.canonical in
    All-weaker (λ r. IsRun (FitsIn r.kind (records_of form)) samples r.start r.end)
    (λ r. (r.start ≤ r.end) × (r.end ≤ length samples)) (λ r is. (is.0, is.1)) runs
    (all_left (λ r. IsRun (FitsIn r.kind (records_of form)) samples r.start r.end) runs rest.others f.packing.each_fits)

-- ---- the segment grows

records_longer : (size n : ℕ) (cuts : List Cut) (segment : Segment) (more : List ℤ) (runs : List Run)
    (rows : List Row) (bytes : List ℕ) → All (λ run. (run.start ≤ run.end) × (run.end ≤ length segment.samples)) runs
    → AreWritten size n (cuts ++ cuts_at segment runs) rows bytes
    → AreWritten size n (cuts ++ cuts_at (longer_by segment more) runs) rows bytes
records_longer size n [] segment more runs rows bytes within are =
    written_longer size n segment more runs rows bytes within are
records_longer size n (cut ∷ cuts) segment more runs rows bytes within are =
    (are.0, are.1, are.2, records_longer size (next_number n) cuts segment more runs are.0 are.1 within are.3)

number_at : (n : ℕ) (segment other : Segment) (runs : List Run)
    → number_after n (cuts_at segment runs) ≡ number_after n (cuts_at other runs)
number_at n segment other [] = refl
number_at n segment other (run ∷ runs) = number_at (next_number n) segment other runs

number_longer : (n : ℕ) (cuts : List Cut) (segment other : Segment) (runs : List Run)
    → number_after n (cuts ++ cuts_at segment runs) ≡ number_after n (cuts ++ cuts_at other runs)
number_longer n [] segment other runs = number_at n segment other runs
number_longer n (cut ∷ cuts) segment other runs = number_longer (next_number n) cuts segment other runs

-- ---- a writer with an open segment

pub begun_empty : (start now : Device) (w : Writing) (packed : List Packed) (rows : List Row) (opened : Opened)
    (key : Key) (t : ℤ) → opened.form ≡ w.form → IsOpen false (empty_segment key t) [] opened
    → HasWritten start now w packed rows → HasBegun start now w packed (empty_segment key t) opened
begun_empty start now w packed rows opened key t form is_open h = record {
  runs = [];
  rows = rows;
  bytes = h.bytes;
  taken = h.taken;
  form = form;
  is_open = is_open;
  samples = All-nil (FitsSigned w32);
  packings = h.output.packings;
  records = rw (append-nil (flat_map cuts_of packed)) h.output.records;
  next = rw (append-nil (flat_map cuts_of packed)) h.next;
  takes = h.takes;
  whole = h.whole;
  moved = h.moved;
  short = h.short;
  calm = h.calm;
}

pub begun_longer : (start now : Device) (w : Writing) (packed : List Packed) (segment : Segment) (more : List ℤ)
    (opened other : Opened) → (h : HasBegun start now w packed segment opened)
    → All (FitsSigned w32) more → other.form ≡ opened.form → IsOpen false (longer_by segment more) h.runs other
    → HasBegun start now w packed (longer_by segment more) other
begun_longer start now w packed segment more opened other h fits form is_open =
    let rest = gives_rest false w.form segment.samples h.runs opened.separators opened.packer
    (rw h.form at h.is_open.gives) in
    let within = runs_within w.form segment.samples h.runs opened.separators rest in
    record {
      runs = h.runs;
      rows = h.rows;
      bytes = h.bytes;
      taken = h.taken;
      form = form ∙ h.form;
      is_open = is_open;
      samples = All-append (FitsSigned w32) segment.samples more h.samples fits;
      packings = h.packings;
      records = records_longer (bytes_of w.form.length) 1 (flat_map cuts_of packed) segment more h.runs h.rows
          h.bytes within h.records;
      next = h.next ∙ number_longer 1 (flat_map cuts_of packed) segment (longer_by segment more) h.runs;
      takes = h.takes;
      whole = h.whole;
      moved = h.moved;
      short = h.short;
      calm = h.calm;
    }

cuts_more : (cuts : List Cut) (segment : Segment) (runs more : List Run)
    → cuts ++ cuts_at segment (runs ++ more) ≡ (cuts ++ cuts_at segment runs) ++ cuts_at segment more
cuts_more cuts segment runs more =
    ap (λ (l : List Cut). cuts ++ l) (map-append (λ (r : Run). record { segment = segment; run = r }) runs more)
    ∙ sym (append_assoc cuts (cuts_at segment runs) (cuts_at segment more))

-- the records of further runs
records_more : (start now : Device) (w : Writing) (packed : List Packed) (segment : Segment)
    (opened other : Opened) (whole : Bool) (filled : List ℕ) (next : ℕ) → other.form ≡ opened.form
    → (h : HasBegun start now w packed segment opened)
    → (a : AppendsSome whole segment h.runs other w.number w.waiting filled next)
    → AreWritten (bytes_of w.form.length) 1 (flat_map cuts_of packed ++ cuts_at segment (h.runs ++ a.more))
    (h.rows ++ a.appends.rows) (h.bytes ++ a.appends.bytes)
records_more start now w packed segment opened other whole filled next form h a =
    let cuts = flat_map cuts_of packed ++ cuts_at segment h.runs in
    let more : AreWritten (bytes_of w.form.length) w.number (cuts_at segment a.more) a.appends.rows a.appends.bytes =
    rw (form ∙ h.form) at a.appends.written in
    rw (cuts_more (flat_map cuts_of packed) segment h.runs a.more)
    (written_append (bytes_of w.form.length) 1 cuts
    (cuts_at segment a.more) h.rows a.appends.rows h.bytes a.appends.bytes h.records (rw (← h.next) more))

next_more : (start now : Device) (w : Writing) (packed : List Packed) (segment : Segment) (opened other : Opened)
    (whole : Bool) (filled : List ℕ) (next : ℕ) → (h : HasBegun start now w packed segment opened)
    → (a : AppendsSome whole segment h.runs other w.number w.waiting filled next)
    → next ≡ number_after 1 (flat_map cuts_of packed ++ cuts_at segment (h.runs ++ a.more))
next_more start now w packed segment opened other whole filled next h a =
    let cuts = flat_map cuts_of packed ++ cuts_at segment h.runs in
    a.appends.after ∙ ap (λ (n : ℕ). number_after n (cuts_at segment a.more)) h.next
    ∙ sym (number_after-append 1 cuts (cuts_at segment a.more))
    ∙ ap (number_after 1) (sym (cuts_more (flat_map cuts_of packed) segment h.runs a.more))

pub begun_more : (start old now : Device) (w : Writing) (packed : List Packed) (segment : Segment)
    (opened other : Opened) (filled left : List ℕ) (next : ℕ) → other.form ≡ opened.form
    → (h : HasBegun start old w packed segment opened)
    → AppendsSome false segment h.runs other w.number w.waiting filled next
    → Passes old now filled [] left → IsCalm old now
    → HasBegun start now (record { form = w.form; number = next; waiting = left }) packed segment other
begun_more start old now w packed segment opened other filled left next form h a p calm = record {
  runs = h.runs ++ a.more;
  rows = h.rows ++ a.appends.rows;
  bytes = h.bytes ++ a.appends.bytes;
  taken = h.taken ++ p.taken;
  form = form ∙ h.form;
  is_open = a.is_open;
  samples = h.samples;
  packings = h.packings;
  records = records_more start old w packed segment opened other false filled next form h a;
  next = next_more start old w packed segment opened other false filled next h a;
  takes = takes_append start old now h.taken p.taken h.takes p.takes;
  whole = more_whole old now h.bytes h.taken w.waiting a.appends.bytes filled left h.whole a.appends.joined p;
  moved = omega (arith, h.moved, p.moved, length-append h.taken p.taken);
  short = λ some. short_sum old.moved now.moved (2 ^ 64) (length h.taken) (length p.taken) p.moved h.short p.short
      (omega (arith, some, length-append h.taken p.taken));
  calm = calm_calm start old now h.calm calm;
}

-- ---- when it stops

prefix_shorter : (form : Form) (segments : List Segment) (bytes more : List ℕ)
    → IsPrefixOfOutput form segments (bytes ++ more) → IsPrefixOfOutput form segments bytes
prefix_shorter form segments bytes more f = record {
  packed = f.packed;
  others = f.others;
  rows = f.rows;
  tail = more ++ f.tail;
  some_first = f.some_first;
  output = rw (← append_assoc bytes more f.tail) f.output;
}

-- the sink failed
pub begun_failed : (start old now : Device) (w : Writing) (packed : List Packed) (segment : Segment)
    (opened other : Opened) (whole : Bool) (filled left : List ℕ) (next : ℕ)
    → IsWritableSegment segment → other.form ≡ opened.form → (h : HasBegun start old w packed segment opened)
    → AppendsSome whole segment h.runs other w.number w.waiting filled next
    → Passes old now filled [] left → HasFailed old now
    → StopsWriting w.form start now (map segment_of_packed packed ++ segment ∷ []) Failed
begun_failed start old now w packed segment opened other whole filled left next writable form h a p failed =
    let rest = gives_rest whole w.form segment.samples
    (h.runs ++ a.more) other.separators other.packer (rw (form ∙ h.form) at a.is_open.gives) in
    let all = prefix_of_output w.form packed segment (h.runs ++ a.more) rest.others
    (other.separators ++ rest.places) [] (h.rows ++ a.appends.rows)
    (h.bytes ++ a.appends.bytes) h.packings writable rest.canonical
    (records_more start old w packed segment opened other whole filled next form h a) in (
      record {
        taken = h.taken ++ p.taken;
        takes = takes_append start old now h.taken p.taken h.takes p.takes;
        prefix = prefix_shorter w.form (map segment_of_packed packed ++ segment ∷ []) (h.taken ++ p.taken) left
            (rw (more_whole old now h.bytes h.taken w.waiting a.appends.bytes filled left h.whole a.appends.joined
            p) at all);
      },
      calm_failed start old now h.calm failed,
    )

-- memory was refused, and no byte went through the sink since; the segment may have more samples by then
pub begun_refused : (start now : Device) (w : Writing) (packed : List Packed) (segment target : Segment)
    (opened : Opened) → IsWritableSegment target
    → (h : HasBegun start now w packed segment opened)
    → AreWritten (bytes_of w.form.length) 1 (flat_map cuts_of packed ++ cuts_at target h.runs) h.rows h.bytes
    → HasRest (records_of w.form) target.samples h.runs opened.separators
    → StopsWriting w.form start now (map segment_of_packed packed ++ target ∷ []) Memory
begun_refused start now w packed segment target opened writable h records rest =
    let all = prefix_of_output w.form packed target h.runs rest.others (opened.separators ++ rest.places)
    [] h.rows h.bytes h.packings writable rest.canonical records in (
      record {
        taken = h.taken;
        takes = h.takes;
        prefix = prefix_shorter w.form (map segment_of_packed packed ++ target ∷ []) h.taken w.waiting
            (rw h.whole at all);
      },
      h.calm.steady,
    )

pub refused_longer : (start now : Device) (w : Writing) (packed : List Packed) (segment : Segment) (more : List ℤ)
    (opened : Opened) → IsWritableSegment (longer_by segment more)
    → HasBegun start now w packed segment opened
    → StopsWriting w.form start now (map segment_of_packed packed ++ longer_by segment more ∷ []) Memory
refused_longer start now w packed segment more opened writable h =
    let p = rw h.form at h.is_open.gives in
    let within = runs_within w.form segment.samples h.runs opened.separators
    (gives_rest false w.form segment.samples h.runs opened.separators opened.packer p) in
    let b = begins_all (records_of w.form) w.form.length.least segment.samples h.runs opened.separators
    opened.packer.held
    opened.packer.offset opened.packer.current p.holds p.stays more in
    begun_refused start now w packed segment (longer_by segment more) opened writable h
    (records_longer (bytes_of w.form.length) 1 (flat_map cuts_of packed) segment more h.runs h.rows h.bytes within
    h.records)
    (record { others = b.0; places = b.1; canonical = b.2 })

pub refused_now : (start now : Device) (w : Writing) (packed : List Packed) (segment : Segment) (opened : Opened)
    → IsWritableSegment segment → HasBegun start now w packed segment opened
    → StopsWriting w.form start now (map segment_of_packed packed ++ segment ∷ []) Memory
refused_now start now w packed segment opened writable h =
    begun_refused start now w packed segment segment opened writable h h.records
    (gives_rest false w.form segment.samples h.runs opened.separators opened.packer
    (rw h.form at h.is_open.gives))

-- ---- what can be written

pub packs_count : (form : Form) (samples : List ℤ) (runs : List Run) (separators : List ℕ) (packer : Holding)
    → Packs (records_of form) samples runs separators packer → pushed packer ≡ length samples
packs_count form samples runs separators packer p =
    let within = p.holds.within in
    let long = ap length p.holds.window ∙ length-drop packer.offset samples in
    omega arith

pub writable_longer : (opened : Opened) (segment : Segment) (runs : List Run) (more : List ℤ)
    → IsOpen false segment runs opened → IsWritableKey opened.key → All (FitsSigned w32) segment.samples
    → All (FitsSigned w32) more
    → SpanIsInTime (span_of opened.key opened.start (pushed opened.packer + length more))
    → IsWritableSegment (longer_by segment more)
writable_longer opened segment runs more o key samples fits in_time =
    let count : pushed opened.packer + length more ≡ length (segment.samples ++ more) =
    omega (
      arith,
      packs_count opened.form segment.samples runs opened.separators opened.packer o.gives,
      length-append segment.samples more,
    ) in
    record {
      key = rw o.key at key;
      samples = All-append (FitsSigned w32) segment.samples more samples fits;
      in_time = rw (o.key, o.start, count) at in_time;
    }

pub writable_now : (opened : Opened) (can : CanGoOn false opened) (segment : Segment) (runs : List Run)
    → IsOpen false segment runs opened → All (FitsSigned w32) segment.samples → IsWritableSegment segment
writable_now opened can segment runs o samples =
    let count : length can.segment.samples ≡ length segment.samples =
    sym (packs_count opened.form can.segment.samples can.runs opened.separators opened.packer
    can.is_open.gives) ∙ packs_count opened.form segment.samples runs opened.separators opened.packer o.gives in
    record {
      key = rw o.key at can.writable;
      samples = samples;
      in_time = rw (sym can.is_open.key ∙ o.key, sym can.is_open.start ∙ o.start, count) at can.in_time;
    }

pub can_longer : (opened other : Opened) (can : CanGoOn false opened) (more : List ℤ)
    → IsOpen false (longer_by can.segment more) can.runs other → other.key ≡ opened.key
    → SpanIsInTime (span_of opened.key opened.start (pushed opened.packer + length more)) → CanGoOn false other
can_longer opened other can more o key in_time =
    let was = can.is_open in
    let count : pushed opened.packer + length more ≡ length (can.segment.samples ++ more) =
    omega (
      arith,
      packs_count opened.form can.segment.samples can.runs opened.separators opened.packer
          was.gives,
      length-append can.segment.samples more,
    ) in
    record {
      segment = longer_by can.segment more;
      runs = can.runs;
      is_open = o;
      writable = rw key can.writable;
      in_time = rw (was.key, was.start, count) at in_time;
    }

-- no sample follows
pub open_end : (segment : Segment) (runs : List Run) (opened : Opened) → IsOpen false segment runs opened
    → IsOpen true segment runs opened
open_end segment runs opened o = let p = o.gives in
    record { key = o.key; start = o.start; gives = record { of_form = p.of_form; left = rw p.goes_on p.holds } }

-- ---- when the segment ends

pub begun_whole : (start old now : Device) (w : Writing) (packed : List Packed) (segment : Segment)
    (opened other : Opened) (filled left : List ℕ) (next : ℕ) → other.form ≡ opened.form
    → (h : HasBegun start old w packed segment opened)
    → (a : AppendsSome true segment h.runs other w.number w.waiting filled next)
    → IsCanonical (records_of w.form) segment.samples (h.runs ++ a.more) other.separators
    → Passes old now filled [] left → IsCalm old now
    → HasWritten start now (record { form = w.form; number = next; waiting = left })
    (packed ++ record { segment = segment; runs = h.runs ++ a.more; separators = other.separators } ∷ [])
    (h.rows ++ a.appends.rows)
begun_whole start old now w packed segment opened other filled left next form h a canonical p calm =
    let one : Packed = record { segment = segment; runs = h.runs ++ a.more; separators = other.separators } in
    let is = is_packed_by w.form segment (h.runs ++ a.more) other.separators canonical in
    record {
      bytes = h.bytes ++ a.appends.bytes;
      taken = h.taken ++ p.taken;
      output = record {
        packings = All-push (IsPacked w.form) packed one h.packings is;
        records = rw (cuts_further packed one)
            (records_more start old w packed segment opened other true filled next form h a);
      };
      next = rw (cuts_further packed one) (next_more start old w packed segment opened other true filled next h a);
      takes = takes_append start old now h.taken p.taken h.takes p.takes;
      whole = more_whole old now h.bytes h.taken w.waiting a.appends.bytes filled left h.whole a.appends.joined p;
      moved = omega (arith, h.moved, p.moved, length-append h.taken p.taken);
      short = λ some. short_sum old.moved now.moved (2 ^ 64) (length h.taken)
          (length p.taken) p.moved h.short p.short (omega (arith, some, length-append h.taken p.taken));
      calm = calm_calm start old now h.calm calm;
    }

-- ---- records one after another

pub appends_none : (whole : Bool) (segment : Segment) (runs : List Run) (opened : Opened) (number : ℕ)
    (old : List ℕ) → IsOpen whole segment runs opened → AppendsSome whole segment runs opened number old old number
appends_none whole segment runs opened number old is_open = record {
  more = [];
  is_open = subst (λ r. IsOpen whole segment r opened) (sym (append-nil runs)) is_open;
  appends = appends_nothing (bytes_of opened.form.length) number old;
}

pub appends_one : (whole : Bool) (segment : Segment) (runs : List Run) (opened other : Opened)
    (first number next : ℕ) (old mid new : List ℕ)
    → (a : AppendsSome whole segment runs opened first old mid number) → (run : Run) → other.form ≡ opened.form
    → IsOpen whole segment ((runs ++ a.more) ++ run ∷ []) other
    → AppendsRecordOfRun (bytes_of other.form.length) number segment run mid new → next ≡ next_number number
    → AppendsSome whole segment runs other first old new next
appends_one whole segment runs opened other first number next old mid new a run form is_open one is = record {
  more = a.more ++ run ∷ [];
  is_open = subst (λ r. IsOpen whole segment r other) (append_assoc runs a.more (run ∷ [])) is_open;
  appends = rw is (appends_more (bytes_of other.form.length) first number segment a.more run old mid new
      (rw (← form) at a.appends) one);
}

-- and no further one
pub appends_last : (whole : Bool) (segment : Segment) (runs : List Run) (opened other : Opened) (first number : ℕ)
    (old mid new : List ℕ) → (a : AppendsSome whole segment runs opened first old mid number)
    → other.form ≡ opened.form → IsOpen whole segment (runs ++ a.more) other
    → new ≡ mid → (whole ≡ true → IsCanonical (records_of other.form) segment.samples (runs ++ a.more) other.separators)
    → AppendsMore whole segment runs other first old new number
appends_last whole segment runs opened other first number old mid new a form is_open same all = record {
  some = record {
    more = a.more;
    is_open = is_open;
    appends = rw (same, form) a.appends;
  };
  all = all;
}

-- ---- answers

pub match_as : {T E A B C D : Type 0} (r : Result T E) → (A → C) → (B → D) → MatchResult r (λ _. A) (λ _. B)
    → MatchResult r (λ _. C) (λ _. D)
match_as (Ok x) f g p = f p
match_as (Err e) f g p = g p
