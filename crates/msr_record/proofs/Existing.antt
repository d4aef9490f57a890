-- Segments have an output, and the records of some first runs are a prefix of one.
use Rattle.std.proofs.Common.{◌≡◌, ℕ, zero, suc, ◌+◌, ◌-◌, ◌*◌, ◌/◌, ◌<◌, ◌≤◌, List, [], ◌∷◌, ◌++◌, ◌∙◌, length, map, take, drop, arith, refl, sym, ap, subst, append_assoc, length-take, length-drop, ℤ, pos, ◌+ℤ◌, FitsSigned}
use Rattle.std.specs.Prelude.{All, slice_range, slice_get}
use Rattle.std.specs.Int.{w32}
use Rattle.std.specs.List.{flat_map}
use Rattle.std.proofs.lemmas.List.{map-append, take-append-le, drop-append-le}
use Rattle.std.proofs.lemmas.List.Elements.{All-nil, All-cons, All-head, All-tail, All-push, All-take, All-drop}
use Rattle.msr_time.specs.SampleRate.{SampleRate, period_of, IsRoundedNominal}
use Rattle.msr_time.proofs.RateLemmas.{nominal_is, quotient_bounds}
use Rattle.msr_words.specs.declared.kinds.Run.{Run}
use Rattle.msr_words.specs.Fit.{Fits, records_of}
use Rattle.msr_words.specs.Packing.{IsCanonical}
use Rattle.msr_base.specs.declared.forms.Form.{Form}
use Rattle.msr_base.specs.Lengths.{bytes_of}
use Rattle.msr_base.specs.RecordLength.{IsRecordLength}
use Rattle.msr_words.specs.Segment.{points}
use Rattle.msr_packer.proofs.PackingsExist.{has_packing}
use Rattle.msr_packer.proofs.Least.{found}
use Rattle.msr_rows.specs.declared.row.Row.{Row}
use Rattle.msr_record.proofs.ExistingRecord.{has_record}
use Rattle.msr_segments.specs.declared.joiner.Segment.{Segment}
use Rattle.msr_record.specs.Output.{Packed, IsPacked, Cut, IsRecordOfRun, IsWritableSegment, AreWritten, IsOutput, IsPrefixOfOutput, next_number, number_after, cuts_at, cuts_of, segment_of_packed}
use Rattle.msr_record.proofs.Appending.{written_append, cuts_further}
use Rattle.msr_record.proofs.CutRows.{IsFitting}
use Rattle.msr_record.proofs.Runs.{points_of_run, record_of_run}
use Rattle.msr_record.proofs.Times.{nominal_between}
use Rattle.msr_time.proofs.NominalLemmas.{rounded_parts}
use Rattle.msr_packer.specs.HeldSamples.{before_place}

-- if one sample has a rounded instant, each has
nominal_exists : (rate : SampleRate) (t0 last : ℤ) (n m : ℕ) → IsRoundedNominal rate t0 m last
    → (q : ℤ) × IsRoundedNominal rate t0 n q
nominal_exists rate t0 last n m h =
    let num = (period_of rate).0 in
    let den = (period_of rate).1 in
    let a = rounded_parts rate t0 m last h in
    let some : 0 < den = omega arith in
    let twice : 0 < 2 * den = omega arith in
    let q = (2 * (n * num) + den) / (2 * den) in
    let bounds = quotient_bounds (2 * (n * num) + den) (2 * den) twice in
    (t0 +ℤ pos q, nominal_is rate t0 n q bounds.0 bounds.1)

-- the length of a form is one that records have
form_length : (form : Form) → IsRecordLength (bytes_of form.length)
form_length form =
    let own = form.length in
    record { exponent = own.exponent; least = own.from; most = own.to; power = own.power }

-- ---- the records of runs

record HasRecords (size n : ℕ) (cuts : List Cut) : Type 0 where
  rows : List Row
  bytes : List ℕ
  written : AreWritten size n cuts rows bytes

no_records : (size n : ℕ) → HasRecords size n []
no_records size n = record { rows = []; bytes = []; written = (refl, refl) }

more_records : (size n : ℕ) (xs ys : List Cut) → HasRecords size n xs → HasRecords size (number_after n xs) ys
    → HasRecords size n (xs ++ ys)
more_records size n xs ys first second = record {
  rows = first.rows ++ second.rows;
  bytes = first.bytes ++ second.bytes;
  written = written_append size n xs ys first.rows second.rows first.bytes second.bytes first.written second.written;
}

abbrev IsSome : Run → Type 0
IsSome run = run.start < run.end

record HasOne (size n : ℕ) (segment : Segment) (run : Run) : Type 0 where
  row : Row
  bytes : List ℕ
  is_record : IsRecordOfRun size n segment run row bytes

one_record : (form : Form) (n : ℕ) (segment : Segment) (run : Run) → IsWritableSegment segment
    → IsSome run → IsFitting form segment.samples run → HasOne (bytes_of form.length) n segment run
one_record form n segment run writable some fits =
    let size = bytes_of form.length in
    let in_time = writable.in_time in
    let rate = segment.key.rate in
    let count = length segment.samples in
    let nominal = nominal_exists rate segment.start in_time.last run.start (count - 1) in_time.nominal in
    let within : run.end ≤ count = fits.1 in
    let earlier : run.start ≤ count - 1 = omega arith in
    let instant = nominal_between rate segment.start nominal.0 in_time.last run.start
    (count - 1) earlier nominal.1 in_time.nominal in_time.first_in in_time.last_in in
    let samples = slice_range segment.samples run.start run.end in
    let before = before_place segment.samples run.start in
    let left : length (drop run.start segment.samples) ≡ count - run.start = length-drop run.start segment.samples in
    let long : 1 ≤ length samples = omega (arith, length-take (run.end - run.start) (drop run.start segment.samples)) in
    let fit : All (FitsSigned w32) samples = All-take (FitsSigned w32) (run.end - run.start)
    (drop run.start segment.samples) (All-drop (FitsSigned w32) run.start segment.samples writable.samples) in
    let fits_points : Fits run.kind size (points before samples) =
    subst (Fits run.kind size) (sym (points_of_run segment.samples run.start run.end (omega arith))) fits.2.1 in
    let r = has_record [] segment.key nominal.0 n before samples run.kind size (form_length form) writable.key.is_key
    writable.key.quality writable.key.normal instant long fit fits_points in
    let a = record_of_run size n segment run nominal.0 [] ([] ++ r.bytes) nominal.1 r.appended in
    record { row = a.row; bytes = a.bytes; is_record = a.is_record }

run_records : (form : Form) (n : ℕ) (segment : Segment) (runs : List Run) → IsWritableSegment segment
    → All IsSome runs → All (IsFitting form segment.samples) runs
    → HasRecords (bytes_of form.length) n (cuts_at segment runs)
run_records form n segment [] writable some fits = no_records (bytes_of form.length) n
run_records form n segment (run ∷ runs) writable some fits =
    let one = one_record form n segment run writable (All-head IsSome run runs some)
    (All-head (IsFitting form segment.samples) run runs fits) in
    let rest = run_records form (next_number n) segment runs writable (All-tail IsSome run runs some)
    (All-tail (IsFitting form segment.samples) run runs fits) in
    record {
      rows = one.row ∷ rest.rows;
      bytes = one.bytes ++ rest.bytes;
      written = (
        rest.rows,
        rest.bytes,
        record {
          row = one.row;
          first = one.bytes;
          is_record = one.is_record;
          all_rows = refl;
          all_bytes = refl;
        },
        rest.written,
      );
    }

-- ---- the output of segments

record HasPacked (form : Form) (segment : Segment) : Type 0 where
  packed : Packed
  same : packed.segment ≡ segment
  is_packed : IsPacked form packed

pub is_packed_by : (form : Form) (segment : Segment) (runs : List Run) (separators : List ℕ)
    → IsCanonical (records_of form) segment.samples runs separators
    → IsPacked form (record { segment = segment; runs = runs; separators = separators })
is_packed_by form segment runs separators canonical =
    let f = found (records_of form) segment.samples form.length.least runs separators canonical in
    record {
      packing = f.packing;
      least = f.least;
      separating = f.separating;
      as_many = f.as_many;
      canonical = f.canonical;
    }

packed_of : (form : Form) (segment : Segment) → HasPacked form segment
packed_of form segment =
    let p = has_packing (records_of form) segment.samples form.length.least in
    record {
      packed = record { segment = segment; runs = p.others; separators = p.places };
      same = refl;
      is_packed = is_packed_by form segment p.others p.places p.canonical;
    }

record HasOutputFrom (form : Form) (n : ℕ) (segments : List Segment) : Type 0 where
  packed : List Packed
  same : map segment_of_packed packed ≡ segments
  packings : All (IsPacked form) packed
  records : HasRecords (bytes_of form.length) n (flat_map cuts_of packed)

output_from : (form : Form) (n : ℕ) (segments : List Segment) → All IsWritableSegment segments
    → HasOutputFrom form n segments
output_from form n [] writable = record {
  packed = [];
  same = refl;
  packings = All-nil (IsPacked form);
  records = no_records (bytes_of form.length) n;
}
output_from form n (segment ∷ segments) writable =
    let p = packed_of form segment in
    let is = p.is_packed in
    let packing = is.packing in
    let here : IsWritableSegment p.packed.segment =
    subst IsWritableSegment (sym p.same) (All-head IsWritableSegment segment segments writable) in
    let rest = output_from form (number_after n (cuts_of p.packed)) segments
    (All-tail IsWritableSegment segment segments writable) in
    record {
      packed = p.packed ∷ rest.packed;
      same = ap (λ (s : Segment). s ∷ map segment_of_packed rest.packed) p.same
          ∙ ap (λ (l : List Segment). segment ∷ l) rest.same;
      packings = All-cons (IsPacked form) p.packed rest.packed is rest.packings;
      records = more_records (bytes_of form.length) n (cuts_of p.packed) (flat_map cuts_of rest.packed)
          (run_records form n p.packed.segment p.packed.runs here packing.none_empty packing.each_fits)
          rest.records;
    }

pub record HasOutput (form : Form) (segments : List Segment) : Type 0 where
  pub packed : List Packed
  pub rows : List Row
  pub bytes : List ℕ
  pub same : map segment_of_packed packed ≡ segments
  pub output : IsOutput form packed rows bytes

pub has_output : (form : Form) (segments : List Segment) → All IsWritableSegment segments → HasOutput form segments
has_output form segments writable =
    let o = output_from form 1 segments writable in
    record {
      packed = o.packed;
      rows = o.records.rows;
      bytes = o.records.bytes;
      same = o.same;
      output = record { packings = o.packings; records = o.records.written };
    }

-- ---- the prefix of an output

pub all_left : {X : Type 0} (P : X → Type 0) (xs ys : List X) → All P (xs ++ ys) → All P xs
all_left P [] ys all = All-nil P
all_left P (x ∷ xs) ys all = All-cons P x xs (All-head P x (xs ++ ys) all)
    (all_left P xs ys (All-tail P x (xs ++ ys) all))

pub all_right : {X : Type 0} (P : X → Type 0) (xs ys : List X) → All P (xs ++ ys) → All P ys
all_right P [] ys all = all
all_right P (x ∷ xs) ys all = all_right P xs ys (All-tail P x (xs ++ ys) all)

pub prefix_of_output : (form : Form) (packed : List Packed) (segment : Segment) (runs others : List Run)
    (separators : List ℕ) (more : List Segment) (rows : List Row) (bytes : List ℕ)
    → All (IsPacked form) packed → IsWritableSegment segment
    → IsCanonical (records_of form) segment.samples (runs ++ others) separators
    → AreWritten (bytes_of form.length) 1 (flat_map cuts_of packed ++ cuts_at segment runs) rows bytes
    → IsPrefixOfOutput form (map segment_of_packed packed ++ segment ∷ more) bytes
prefix_of_output form packed segment runs others separators more rows bytes packings writable canonical written =
    let one : Packed = record { segment = segment; runs = runs ++ others; separators = separators } in
    let is : IsPacked form one = is_packed_by form segment (runs ++ others) separators canonical in
    let packing = is.packing in
    let so_far = flat_map cuts_of packed ++ cuts_at segment runs in
    let rest = run_records form (number_after 1 so_far) segment others writable
    (all_right IsSome runs others packing.none_empty)
    (all_right (IsFitting form segment.samples) runs others packing.each_fits) in
    let both = written_append (bytes_of form.length) 1 so_far
    (cuts_at segment others) rows rest.rows bytes rest.bytes written rest.written in
    let cuts : flat_map cuts_of (packed ++ one ∷ []) ≡ so_far ++ cuts_at segment others =
    cuts_further packed one
    ∙ ap (λ (l : List Cut). flat_map cuts_of packed ++ l)
    (map-append (λ (r : Run). record { segment = segment; run = r }) runs others)
    ∙ sym (append_assoc (flat_map cuts_of packed) (cuts_at segment runs) (cuts_at segment others)) in
    record {
      packed = packed ++ one ∷ [];
      others = more;
      rows = rows ++ rest.rows;
      tail = rest.bytes;
      some_first = sym (ap (λ (l : List Segment). l ++ more) (map-append segment_of_packed packed (one ∷ []))
          ∙ append_assoc (map segment_of_packed packed) (segment ∷ []) more);
      output = record {
        packings = All-push (IsPacked form) packed one packings is;
        records = rw cuts both;
      };
    }

-- ---- a segment that grows

range_longer : (xs ys : List ℤ) (a b : ℕ) → a ≤ b → b ≤ length xs → slice_range (xs ++ ys) a b ≡ slice_range xs a b
range_longer xs ys a b order within =
    let left : length (drop a xs) ≡ length xs - a = length-drop a xs in
    ap (take (b - a)) (drop-append-le a xs ys (omega arith)) ∙ take-append-le (b - a) (drop a xs) ys (omega arith)

get_longer : (xs ys : List ℤ) (i : ℕ) → i < length xs → slice_get (xs ++ ys) i ≡ slice_get xs i
get_longer [] ys i lt = absurd (omega arith)
get_longer (x ∷ xs) ys zero lt = refl
get_longer (x ∷ xs) ys (suc i) lt = get_longer xs ys i (omega arith)

before_longer : (xs ys : List ℤ) (a : ℕ) → a ≤ length xs → before_place (xs ++ ys) a ≡ before_place xs a
before_longer xs ys zero le = refl
before_longer xs ys (suc i) le = get_longer xs ys i (omega arith)

-- the records of runs of a segment stay those of its runs when it grows
pub written_longer : (size n : ℕ) (segment : Segment) (more : List ℤ) (runs : List Run) (rows : List Row)
    (bytes : List ℕ) → All (λ run. (run.start ≤ run.end) × (run.end ≤ length segment.samples)) runs
    → AreWritten size n (cuts_at segment runs) rows bytes
    → AreWritten size n (cuts_at (record {
      key = segment.key;
      start = segment.start;
      samples = segment.samples ++ more;
    }) runs) rows bytes
written_longer size n segment more [] rows bytes within are = are
written_longer size n segment more (run ∷ runs) rows bytes within are =
    let w = are.2 in
    let r = w.is_record in
    let row = r.of_run in
    let inside = All-head (λ run. (run.start ≤ run.end) × (run.end ≤ length segment.samples)) run runs within in
    let before = before_longer segment.samples more run.start (omega (arith, inside.0, inside.1)) in (
      are.0,
      are.1,
      record {
        row = w.row;
        first = w.first;
        is_record = record {
          of_run = record {
            key = row.key;
            start = row.start;
            kind = row.kind;
            samples = row.samples
                ∙ sym (range_longer segment.samples more run.start run.end inside.0 inside.1);
          };
          size_is = r.size_is;
          written = rw before r.written;
          decodes = r.decodes;
          reads = r.reads;
        };
        all_rows = w.all_rows;
        all_bytes = w.all_bytes;
      },
      written_longer size (next_number n) segment more runs are.0 are.1
          (All-tail (λ run. (run.start ≤ run.end) × (run.end ≤ length segment.samples)) run runs within) are.3,
    )
