-- What a packer holds of a segment: its last samples, and the step after the runs that were given.
use Rattle.std.specs.Prelude.{◌≡◌, ℕ, zero, suc, ◌+◌, ◌-◌, ◌*◌, ◌<◌, ◌≤◌, ◌^◌, ◌⊎◌, ℤ, List, [], ◌∷◌, ◌++◌, length, drop, take, map, slice_get, slice_range, Option, Some, None, IfSome, if◌then◌else◌, ◌==◌, ⊤}
use Rattle.msr_words.specs.Fit.{Records, records_of, FitsAny, IsFirstKind}
use Rattle.msr_words.specs.declared.kinds.Run.{Run}
use Rattle.msr_words.specs.Laws.{most_any}
use Rattle.msr_words.specs.Packing.{Joins, IsCanonical, IsStep}
use Rattle.msr_words.specs.Groups.{AreGroupSizesIfKnown}
use Rattle.msr_words.specs.Segment.{differences, run_points}
use Rattle.msr_packer.specs.SoFar.{IsSoFar}
use Rattle.msr_packer.specs.Steps.{HaveSizes}
use Rattle.msr_packer.specs.declared.held.RunToCut.{RunToCut}
use Rattle.msr_packer.specs.declared.held.HeldSamples.{HeldSamples}
use Rattle.msr_packer.specs.declared.held.Piece.{Piece}

-- The step from the frontier after these runs, with the kinds of its run. Places are counted from the first sample
-- that is held, which is the segment's first or stands before the run.
pub record IsRunToCut (records : Records) (samples : List ℤ) (runs : List Run) (separators : List ℕ) (offset : ℕ)
    (current : RunToCut) : Type 0 where
  pub so_far : IsSoFar records samples runs separators (offset + current.frontier) (offset + current.end)
      (offset + current.start) current.whole
  pub one_before : (offset ≡ 0) ⊎ (1 ≤ current.start)
  pub whole : IsFirstKind records (run_points samples (offset + current.start) (offset + current.end)) current.whole
  pub short : IsFirstKind records (run_points samples (offset + current.start) (offset + current.end - 1)) current.short

-- what is known of the step after these runs; before the first step no run was given
abbrev pub StandsAt : Records → List ℤ → List Run → List ℕ → ℕ → Option RunToCut → Type 0
StandsAt records samples runs separators offset None = (runs ≡ []) × (separators ≡ []) × (offset ≡ 0)
StandsAt records samples runs separators offset (Some current) =
    IsRunToCut records samples runs separators offset current

-- the frontier of the next step
abbrev pub frontier_of : Option RunToCut → ℕ
frontier_of None = 0
frontier_of (Some current) = current.end

-- where the samples begin that were not given yet
abbrev pub first_ungiven : Option RunToCut → ℕ
first_ungiven None = 0
first_ungiven (Some current) = current.start

-- the step ends before the last of `number` samples, so that it stays whatever follows
abbrev pub Stays : Option RunToCut → ℕ → Type 0
Stays None number = ⊤
Stays (Some current) number = current.end < number

-- The last samples are held, with the step after these runs and separators.
pub record HoldsWindow (records : Records) (samples : List ℤ) (runs : List Run) (separators : List ℕ) (held : List ℤ)
    (offset : ℕ) (current : Option RunToCut) : Type 0 where
  pub window : held ≡ drop offset samples
  pub within : offset ≤ length samples
  pub at : StandsAt records samples runs separators offset current

-- the last samples of a segment are held so
abbrev pub HoldsRest : List ℤ → List Run → List ℕ → HeldSamples → Type 0
HoldsRest samples runs separators held = HoldsWindow
    (records_of held.form) samples runs separators held.samples.items held.offset held.current

-- the step starts at its frontier or before, ends after it, within `number` samples, and is no
-- longer than a record
pub record IsInside (records : Records) (number : ℕ) (current : RunToCut) : Type 0 where
  pub before : current.start ≤ current.frontier
  pub on : current.frontier < current.end
  pub within : current.end ≤ number
  pub short : current.end ≤ current.start + most_any records

abbrev pub InsideIfAny : Records → ℕ → Option RunToCut → Type 0
InsideIfAny records number None = ⊤
InsideIfAny records number (Some current) = IsInside records number current

-- the places are in order, and the samples can be counted
pub record IsSound (held : HeldSamples) : Type 0 where
  pub number : held.offset + length held.samples.items < 2 ^ 64
  pub inside : InsideIfAny (records_of held.form) (length held.samples.items) held.current
  pub order : held.from ≤ held.to
  pub within : held.to ≤ length held.samples.items

-- the places of a step, and the one where the next run starts, can be counted from the segment's first sample
pub record HasPlaces (offset next : ℕ) (current : Option RunToCut) : Type 0 where
  pub records : Records
  pub number : ℕ
  pub inside : InsideIfAny records number current
  pub within : next ≤ number
  pub counted : offset + number < 2 ^ 64

-- The step from the next frontier, with the kinds of its run.
pub record IsNextStep (records : Records) (held : List ℤ) (current : Option RunToCut) (next : RunToCut) : Type 0 where
  pub frontier : next.frontier ≡ frontier_of current
  pub inside : next.frontier < length held
  pub step : IsStep (FitsAny records) held next.frontier next.end next.start
  pub whole : IsFirstKind records (run_points held next.start next.end) next.whole
  pub short : IsFirstKind records (run_points held next.start (next.end - 1)) next.short

-- the piece of a step that is cut where the next run starts
abbrev pub piece_of : ℕ → Option RunToCut → ℕ → Option Piece
piece_of offset None next = None
piece_of offset (Some current) next = Some (record {
  run = record {
    start = offset + current.start;
    end = offset + next;
    kind = if next == current.end then current.whole else current.short;
  };
  separator = offset + current.frontier;
})

abbrev pub pieces_of : Option Piece → List Piece
pieces_of None = []
pieces_of (Some piece) = piece ∷ []

abbrev pub runs_of : List Piece → List Run
runs_of pieces = map (λ p. p.run) pieces

abbrev pub separators_of : List Piece → List ℕ
separators_of pieces = map (λ p. p.separator) pieces

-- the samples of a piece, if there is one
abbrev pub samples_of_piece : List ℤ → Option Piece → List ℤ
samples_of_piece samples None = []
samples_of_piece samples (Some piece) = slice_range samples piece.run.start piece.run.end

-- the sample before this one, if there is one
abbrev pub before_place : List ℤ → ℕ → Option ℤ
before_place samples zero = None
before_place samples (suc i) = slice_get samples i

-- These are the samples of the piece, and the one before them.
pub record ShowsRun (samples shown : List ℤ) (before : Option ℤ) (piece : Piece) : Type 0 where
  pub run : shown ≡ slice_range samples piece.run.start piece.run.end
  pub before_run : before ≡ before_place samples piece.run.start

-- They are, and the sizes are those of its groups of Steim-2, if these are known.
pub record ShowsPiece (samples shown : List ℤ) (before : Option ℤ) (groups : List ℕ) (piece : Piece) : Type 0 where
  pub run : shown ≡ slice_range samples piece.run.start piece.run.end
  pub before_run : before ≡ before_place samples piece.run.start
  pub sizes : AreGroupSizesIfKnown (differences before shown) groups

-- the samples that are shown, and the one before them
abbrev pub shown_by : HeldSamples → List ℤ
shown_by held = slice_range held.samples.items held.from held.to

abbrev pub before_shown : HeldSamples → Option ℤ
before_shown held = before_place held.samples.items held.from

-- the sizes and words that are told of the groups of the next piece
pub record KnowsNext (held : HeldSamples) : Type 0 where
  pub next : HaveSizes held.samples.items (first_ungiven held.current) (frontier_of held.current) held.sizes.next.count
      held.sizes.next.places.items held.sizes.next.words.items

-- and of the piece that is shown
pub record KnowsSizes (held : HeldSamples) : Type 0 where
  pub next : KnowsNext held
  pub shown : HaveSizes held.samples.items held.from held.to held.sizes.shown.count held.sizes.shown.places.items
      held.sizes.shown.words.items

abbrev pub sizes_shown : HeldSamples → List ℕ
sizes_shown held = take held.sizes.shown.count held.sizes.shown.places.items

-- the samples that are held are the same, with the same step
pub record HoldsSame (old new : HeldSamples) : Type 0 where
  pub sound : IsSound new
  pub form : new.form ≡ old.form
  pub held : new.samples.items ≡ old.samples.items
  pub offset : new.offset ≡ old.offset
  pub current : new.current ≡ old.current

-- at most samples that no step needs any more were removed
pub record HoldsNeeded (old new : HeldSamples) : Type 0 where
  pub sound : IsSound new
  pub holds : (samples : List ℤ) (runs : List Run) (separators : List ℕ) → HoldsRest samples runs separators old
      → HoldsRest samples runs separators new
  pub stays : Stays old.current (length old.samples.items) → Stays new.current (length new.samples.items)
  pub form : new.form ≡ old.form
  pub number : new.offset + length new.samples.items ≡ old.offset + length old.samples.items
  pub sizes : KnowsSizes old → KnowsSizes new

-- What giving a piece does: the piece, if there is one, was given and is shown, and the samples that are held are the
-- same.
pub record GivesPiece (old new : HeldSamples) (piece : Option Piece) : Type 0 where
  pub sound : IsSound new
  pub form : new.form ≡ old.form
  pub held : new.samples.items ≡ old.samples.items
  pub offset : new.offset ≡ old.offset
  pub holds : (samples : List ℤ) (runs : List Run) (separators : List ℕ) → HoldsRest samples runs separators old
      → HoldsRest samples (runs ++ runs_of (pieces_of piece)) (separators ++ separators_of (pieces_of piece)) new
  pub shows : (samples : List ℤ) (runs : List Run) (separators : List ℕ) → HoldsRest samples runs separators old
      → IfSome piece (ShowsRun samples (shown_by new) (before_shown new))

-- These runs and separators are the first of the canonical packing of the samples with whatever follows.
abbrev pub BeginsAll : Records → List ℤ → List Run → List ℕ → Type 0
BeginsAll records samples runs separators =
    (more : List ℤ) → (others : List Run) × (places : List ℕ)
    × IsCanonical records (samples ++ more) (runs ++ others) (separators ++ places)

-- The runs that were given join up to a sample; after it stand at most two longest runs.
pub record LeavesFew (records : Records) (samples : List ℤ) (runs : List Run) : Type 0 where
  pub given : ℕ
  pub joined : Joins 0 runs given
  pub few : length samples ≤ given + 2 * most_any records
