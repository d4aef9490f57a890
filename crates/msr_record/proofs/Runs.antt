-- A run of a segment and its record.
use Rattle.std.proofs.Common.{◌≡◌, ℕ, suc, zero, ◌-◌, ◌≤◌, List, length, take, arith, refl, ap, ◌∙◌, ℤ, pos, None, Result, Ok, Err, OnOk}
use Rattle.std.specs.Prelude.{slice_range}
use Rattle.std.proofs.lemmas.Option.{slice_get-get_or}
use Rattle.msr_time.specs.SampleRate.{IsRoundedNominal}
use Rattle.msr_words.specs.Segment.{points, run_points}
use Rattle.msr_words.specs.declared.kinds.Run.{Run}
use Rattle.msr_words.proofs.Runs.{run_from_start, run_from}
use Rattle.msr_record.specs.Written.{AppendsRecord}
use Rattle.msr_segments.specs.declared.joiner.Segment.{Segment}
use Rattle.msr_record.specs.Writing.{AppendsRecordOfRun}
use Rattle.msr_packer.specs.HeldSamples.{before_place}

-- the samples of a run with their differences are those of the segment at its place
pub points_of_run : (samples : List ℤ) (a b : ℕ) → a ≤ length samples
    → points (before_place samples a) (slice_range samples a b) ≡ run_points samples a b
points_of_run samples zero b within = let e : b - 0 ≡ b = omega arith in
    rw e (run_from_start samples b ∙ ap (λ n. take n (points None samples)) e)
points_of_run samples (suc i) b within =
    let e : suc i - 1 ≡ i = omega arith in
    ap (λ before. points before (slice_range samples (suc i) b)) (slice_get-get_or samples i (pos 0) (omega arith))
    ∙ rw e at (run_from samples (suc i) b (omega arith))

pub record_of_run : (size number : ℕ) (segment : Segment) (run : Run) (start : ℤ) (old new : List ℕ)
    → IsRoundedNominal segment.key.rate segment.start run.start start
    → AppendsRecord old new segment.key start number (before_place segment.samples run.start)
    (slice_range segment.samples run.start run.end) run.kind size
    → AppendsRecordOfRun size number segment run old new
record_of_run size number segment run start old new h a = record {
  row = record {
    key = segment.key;
    start = start;
    kind = run.kind;
    samples = slice_range segment.samples run.start run.end;
  };
  bytes = a.bytes;
  joined = a.joined;
  is_record = record {
    of_run = record { key = refl; start = h; kind = refl; samples = refl };
    size_is = a.size_is;
    written = a.written;
    decodes = a.row;
    reads = a.found;
  };
}

pub on_ok : {T E P Q : Type 0} (r : Result T E) → (P → Q) → OnOk r P → OnOk r Q
on_ok (Ok x) f p = f p
on_ok (Err e) f p = tt
