-- What is known of a segment whose runs are judged one after another.
use Rattle.std.specs.Prelude.{◌≡◌, ℕ, ◌+◌, ◌-◌, ◌<◌, ◌≤◌, ◌⊎◌, ⊤, Bool, true, false, ℤ, List, [], ◌∷◌, ◌++◌, length, drop, slice_index, Option, Some, None, All}
use Rattle.msr_base.specs.declared.kinds.Kind.{Kind}
use Rattle.msr_words.specs.declared.kinds.Run.{Run}
use Rattle.msr_words.specs.Fit.{Records, FitsIn, IsRun}
use Rattle.msr_words.specs.Packing.{IsPacking, IsSeparating, Joins, NoneHolds}
use Rattle.msr_check.specs.Next.{SeparatingTo}
use Rattle.msr_check.specs.declared.judge.LastRun.{LastRun}

-- What a judge shows: the last samples, the run that came last, how many runs came, and whether all that was judged
-- held.
pub record Judged : Type 0 where
  pub held : List ℤ
  pub last : Option LastRun
  pub count : ℕ
  pub holds : Bool

-- the run that came last, of which the segment's last sample is the last
abbrev pub last_run : List ℤ → LastRun → Run
last_run samples last = record { start = last.number; end = length samples; kind = last.kind }

-- The last samples are held, from the second before the last run on, or all. The runs before that one are sound and
-- join to where it starts, and its separator is one of its samples.
pub record HasLast (records : Records) (samples : List ℤ) (runs : List Run) (separators : List ℕ) (held : List ℤ)
    (last : LastRun) : Type 0 where
  pub offset : ℕ
  pub within : offset ≤ length samples
  pub held_is : held ≡ drop offset samples
  pub two_before : (offset ≡ 0) ⊎ (2 ≤ last.start)
  pub number : last.number ≡ offset + last.start
  pub some : last.start < length held
  pub separator : slice_index separators (length runs - 1) ≡ offset + last.separator
  pub from : last.start ≤ last.separator
  pub past : last.separator < length held
  pub earlier : List Run
  pub runs_are : runs ≡ earlier ++ last_run samples last ∷ []
  pub none_empty : All (λ run. run.start < run.end) earlier
  pub each_fits : All (λ run. IsRun (FitsIn run.kind records) samples run.start run.end) earlier
  pub joined : Joins 0 earlier last.number

-- before the first run there are no samples
abbrev pub HasLastIfAny : Records → List ℤ → List Run → List ℕ → List ℤ → Option LastRun → Type 0
HasLastIfAny records samples runs separators held None = (samples ≡ []) × (runs ≡ []) × (held ≡ [])
HasLastIfAny records samples runs separators held (Some last) = HasLast records samples runs separators held last

-- All that was judged held: the separators of the runs so far, and each run but the last.
pub record HoldsSoFar (records : Records) (samples : List ℤ) (runs : List Run) (separators : List ℕ)
    (judged : Judged) : Type 0 where
  pub count_is : judged.count ≡ length runs
  pub separating : SeparatingTo records samples separators (length runs)
  pub at : HasLastIfAny records samples runs separators judged.held judged.last

-- Whatever samples and runs follow, the runs are no packing for which these separators are separating and as many.
pub record NoneShows (records : Records) (samples : List ℤ) (runs : List Run) (separators : List ℕ) : Type 0 where
  pub none : (more : List ℤ) (others : List Run) → IsPacking records (samples ++ more) (runs ++ others)
      → IsSeparating records (samples ++ more) separators → length (runs ++ others) ≡ length separators → ⊥

-- These runs, of these samples, came to the judge one after another, beside these separators.
pub record Judges (records : Records) (samples : List ℤ) (runs : List Run) (separators : List ℕ)
    (judged : Judged) : Type 0 where
  pub holds : judged.holds ≡ true → HoldsSoFar records samples runs separators judged
  pub fails : judged.holds ≡ false → NoneShows records samples runs separators

-- the run that comes after these samples
abbrev pub next_run : List ℤ → List ℤ → Kind → Run
next_run before samples kind =
    record { start = length before; end = length (before ++ samples); kind = kind }

-- how many samples there are, if `held` are held
abbrev pub samples_after : Option LastRun → ℕ → ℕ
samples_after None held = 0
samples_after (Some last) held = last.number + (held - last.start)

-- the last run, up to the sample `end`, is sound
abbrev pub IsSoundLast : Records → List ℤ → Option LastRun → ℕ → Type 0
IsSoundLast records held None end = ⊤
IsSoundLast records held (Some last) end =
    (last.start < end) × IsRun (FitsIn last.kind records) held last.start end

-- It is, and no run that fits holds its separator and the next.
abbrev pub IsFollowed : Records → List ℤ → Option LastRun → ℕ → ℕ → Type 0
IsFollowed records held None end next = ⊤
IsFollowed records held (Some last) end next =
    ((last.start < end) × IsRun (FitsIn last.kind records) held last.start end)
    × ((last.separator < next) × NoneHolds records held last.separator next)

-- The separator is a sample after the first `end` that are held, and follows on the last run.
pub record FollowsLast (records : Records) (held : List ℤ) (last : Option LastRun) (end separator : ℕ) : Type 0 where
  pub from : samples_after last end ≤ separator
  pub past : separator - samples_after last end < length held - end
  pub followed : IsFollowed records held last end (end + (separator - samples_after last end))

-- No run follows: there are as many runs as separators and that many samples, and the last run is sound.
pub record IsComplete (records : Records) (judged : Judged) (separators : List ℕ) (number : ℕ) : Type 0 where
  pub holds : judged.holds ≡ true
  pub as_many : judged.count ≡ length separators
  pub number_is : samples_after judged.last (length judged.held) ≡ number
  pub sound : IsSoundLast records judged.held judged.last (length judged.held)

-- These runs are a packing of the samples, the separators are separating and as many, and there are that many samples.
pub record AreShown (records : Records) (samples : List ℤ) (runs : List Run) (separators : List ℕ) (number : ℕ) :
    Type 0 where
  pub packing : IsPacking records samples runs
  pub separating : IsSeparating records samples separators
  pub as_many : length runs ≡ length separators
  pub number_is : length samples ≡ number

-- the run that starts at `end` as the last
abbrev pub becomes_last : Option LastRun → ℕ → ℕ → Kind → LastRun
becomes_last last end separator kind = record {
  kind = kind;
  start = end;
  separator = end + (separator - samples_after last end);
  number = samples_after last end;
}

-- the same if the first `count` samples are held no more
abbrev pub without : LastRun → ℕ → LastRun
without last count = record {
  kind = last.kind;
  start = last.start - count;
  separator = last.separator - count;
  number = last.number;
}
