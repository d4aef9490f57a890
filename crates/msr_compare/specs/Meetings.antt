-- What is found where what is ahead of two sides is compared.
use Rattle.std.specs.Prelude.{◌≡◌, ◌≢◌, ◌↔◌, IsErrOf, ℕ, ◌+◌, ◌-◌, ◌^◌, ◌<◌, ◌≤◌, true, List, [], ◌∷◌, ◌++◌, length, map, ℤ, Option, None, Some, Result}
use Rattle.msr_rows.specs.declared.row.Key.{Key}
use Rattle.msr_devices.specs.Device.{Device, CountsFew, HasFailed, HasLeft, IsSteady}
use Rattle.msr_input.specs.Reading.{StopsReading}
use Rattle.msr_input.specs.declared.settings.Settings.{Settings}
use Rattle.msr_input.specs.declared.fault.ReadFault.{ReadFault}
use Rattle.msr_input.specs.declared.fault.ReadFault.TheVariants as fault
use Rattle.msr_segments.specs.Unequals.{UnequalAt}
use Rattle.msr_compare.specs.Answers.{CompareAnswers, IsOfFault}
use Rattle.msr_compare.specs.declared.comparison.Which.TheVariants as which
use Rattle.msr_compare.specs.declared.comparison.Comparison.{Comparison}
use Rattle.msr_compare.specs.declared.comparison.Comparison.TheVariants.{Differ}
use Rattle.msr_compare.specs.declared.comparison.Difference.{Difference}
use Rattle.msr_compare.specs.declared.comparison.DifferenceKind.{DifferenceKind}
use Rattle.msr_compare.specs.declared.comparison.DifferenceKind.TheVariants as kind
use Rattle.msr_compare.specs.declared.fault.CompareFault.{CompareFault}
use Rattle.msr_compare.specs.declared.fault.CompareFault.TheVariants as failing
use Rattle.msr_compare.specs.declared.ahead.Next.{Next}
use Rattle.msr_compare.specs.declared.ahead.Next.TheVariants as next
use Rattle.msr_compare.specs.declared.meeting.Met.{Met}
use Rattle.msr_compare.specs.declared.meeting.Met.TheVariants as met
use Rattle.msr_compare.specs.Seen.{AllSeen, SeenIfRead, Sight, nothing_seen}
use Rattle.msr_compare.specs.Symbols.{Symbol, Opens, Holds, held_in}
use Rattle.msr_compare.specs.Sides.{Standing, HasTaken, IsDrained}

-- no sample is ahead, but a beginning or nothing
abbrev pub HoldsNone : List Symbol → Type 0
HoldsNone ahead = (sample : ℤ) (rest : List Symbol) → ahead ≡ Holds sample ∷ rest → ⊥

-- what comes next: a segment's beginning and then samples, or samples, or nothing
pub record BeginsNext (key : Key) (start : ℤ) (ahead : List Symbol) : Type 0 where
  pub samples : List ℤ
  pub ahead_is : ahead ≡ Opens key start ∷ map Holds samples

pub record HoldsNext (ahead : List Symbol) : Type 0 where
  pub sample : ℤ
  pub samples : List ℤ
  pub ahead_is : ahead ≡ Holds sample ∷ map Holds samples

abbrev pub IsNextSymbol : Next → List Symbol → Type 0
IsNextSymbol (next.Begins key start) ahead = BeginsNext key start ahead
IsNextSymbol next.Samples ahead = HoldsNext ahead
IsNextSymbol next.Nothing ahead = ahead ≡ []

-- how many samples of the open segment were compared
abbrev pub place_of : Standing → ℕ
place_of side = side.tally.count - length (held_in side.ahead)

-- both sides begin a segment next, and the keys differ, or the keys are equal and the starts differ
pub record KeysDiffer (one other : Standing) : Type 0 where
  pub key : Key
  pub other_key : Key
  pub start : ℤ
  pub other_start : ℤ
  pub begins : BeginsNext key start one.ahead
  pub other_begins : BeginsNext other_key other_start other.ahead
  pub differ : key ≢ other_key

pub record StartsDiffer (one other : Standing) : Type 0 where
  pub key : Key
  pub start : ℤ
  pub other_start : ℤ
  pub begins : BeginsNext key start one.ahead
  pub other_begins : BeginsNext key other_start other.ahead
  pub differ : start ≢ other_start

-- samples are ahead of both, and these are the first that differ
pub record ValuesDiffer (one other : Standing) (number : ℕ) (value other_value : ℤ) : Type 0 where
  pub ones : List ℤ
  pub others : List ℤ
  pub at : ℕ
  pub one_is : one.ahead ≡ map Holds ones
  pub other_is : other.ahead ≡ map Holds others
  pub unequal : UnequalAt ones others at value other_value
  pub number_is : place_of one + at < 2 ^ 64 → number ≡ place_of one + at

-- one side goes on with samples, and the other does not
pub record HoldsMore (more less : Standing) (number : ℕ) : Type 0 where
  pub holds : HoldsNext more.ahead
  pub none : HoldsNone less.ahead
  pub number_is : number ≡ place_of more

-- one side begins a segment, and nothing is ahead of the other
pub record BeginsMore (more less : Standing) : Type 0 where
  pub key : Key
  pub start : ℤ
  pub begins : BeginsNext key start more.ahead
  pub none : less.ahead ≡ []

-- what is ahead differs so
abbrev pub AheadsDiffer : Standing → Standing → DifferenceKind → Type 0
AheadsDiffer one other kind.Key = KeysDiffer one other
AheadsDiffer one other kind.Start = StartsDiffer one other
AheadsDiffer one other (kind.Sample number value other_value) = ValuesDiffer one other number value other_value
AheadsDiffer one other (kind.SampleOnlyIn number which.One) = HoldsMore one other number
AheadsDiffer one other (kind.SampleOnlyIn number which.Other) = HoldsMore other one number
AheadsDiffer one other (kind.SegmentOnlyIn which.One) = BeginsMore one other
AheadsDiffer one other (kind.SegmentOnlyIn which.Other) = BeginsMore other one

-- the side whose segment it is
abbrev pub side_of : DifferenceKind → Standing → Standing → Standing
side_of (kind.SampleOnlyIn number which.Other) one other = other
side_of (kind.SegmentOnlyIn which.Other) one other = other
side_of _ one other = one

pub record DiffersAhead (one other : Standing) (difference : Difference) : Type 0 where
  pub segment_is : difference.segment ≡ (side_of difference.kind one other).tally.segments
  pub differ : AheadsDiffer one other difference.kind

-- only what is ahead of the side is another
pub record PassesOnly (old new : Standing) : Type 0 where
  pub reading : new.reading ≡ old.reading
  pub tally : new.tally ≡ old.tally
  pub ended : new.ended ≡ old.ended

-- the same symbols were ahead of both, and are passed
pub record PassesAlike (one other new_one new_other : Standing) : Type 0 where
  pub front : List Symbol
  pub some : 1 ≤ length front
  pub one_is : one.ahead ≡ front ++ new_one.ahead
  pub other_is : other.ahead ≡ front ++ new_other.ahead
  pub one_passes : PassesOnly one new_one
  pub other_passes : PassesOnly other new_other

-- neither side changed
pub record StandStill (one other new_one new_other : Standing) : Type 0 where
  pub one_still : new_one ≡ one
  pub other_still : new_other ≡ other

abbrev pub Meets : Standing → Standing → Met → Standing → Standing → Type 0
Meets one other met.Agree new_one new_other = PassesAlike one other new_one new_other
Meets one other met.End new_one new_other =
    (one.ahead ≡ []) × (other.ahead ≡ []) × StandStill one other new_one new_other
Meets one other (met.Differ difference) new_one new_other =
    DiffersAhead one other difference × StandStill one other new_one new_other

-- Both sides have come to these symbols, which are the same.
pub record HaveTaken (seen : Sight) (settings : Settings) (start_one one_now start_other other_now : Device)
    (one other : Standing) : Type 0 where
  pub done : List Symbol
  pub one_taken : HasTaken seen settings start_one one_now one done
  pub other_taken : HasTaken nothing_seen settings start_other other_now other done

-- and where nothing is ahead, the input has ended
pub record HaveFetched (seen : Sight) (settings : Settings) (start_one one_now start_other other_now : Device)
    (one other : Standing) : Type 0 where
  pub taken : HaveTaken seen settings start_one one_now start_other other_now one other
  pub one_some : one.ahead ≡ [] → one.ended ≡ true
  pub other_some : other.ahead ≡ [] → other.ended ≡ true

-- how the sides differ then, or that both have ended
abbrev pub IsFoundAhead : Standing → Standing → Option Difference → Type 0
IsFoundAhead one other None = (one.ahead ≡ []) × (other.ahead ≡ [])
IsFoundAhead one other (Some difference) = DiffersAhead one other difference

pub record HaveMet (seen : Sight) (settings : Settings) (start_one one_now start_other other_now : Device)
    (one other : Standing) (found : Option Difference) : Type 0 where
  pub fetched : HaveFetched seen settings start_one one_now start_other other_now one other
  pub is_found : IsFoundAhead one other found

-- one side has come so far
pub record HasSomeTaken (seen : Sight) (settings : Settings) (start now : Device) (side : Standing) : Type 0 where
  pub done : List Symbol
  pub taken : HasTaken seen settings start now side done

-- why two sides are no further compared
abbrev pub StopsMeeting : Sight → Settings → Device → Device → Device → Device → Standing → CompareFault → Type 0
StopsMeeting seen settings start_one one_now start_other other_now one (failing.One why) =
    StopsReading settings start_one one_now [] why × IsSteady start_other other_now
StopsMeeting seen settings start_one one_now start_other other_now one (failing.Other why) =
    StopsReading settings start_other other_now [] why × HasSomeTaken seen settings start_one one_now one

-- both were read to their ends
pub record HaveFinished (seen : Sight) (settings : Settings) (start_one one_now start_other other_now : Device)
    (one other : Standing) (done other_done : List Symbol) (difference : Difference) (comparison : Comparison)
    : Type 0 where
  pub told : comparison ≡ Differ difference
  pub one_drained : IsDrained seen settings start_one one_now one.ended (done ++ one.ahead)
  pub other_drained : IsDrained nothing_seen settings start_other other_now other.ended (other_done ++ other.ahead)

-- the input that the source has is readable, and was seen
pub record IsReadableFrom (seen : Sight) (settings : Settings) (start : Device) : Type 0 where
  pub input : List ℕ
  pub left : HasLeft start input
  pub all : AllSeen seen settings input

-- why one of them was not; the first one is read first
abbrev pub StopsFinishing : Sight → Settings → Device → Device → Device → Device → CompareFault → Type 0
StopsFinishing seen settings start_one one_now start_other other_now (failing.One why) =
    StopsReading settings start_one one_now [] why × IsSteady start_other other_now
StopsFinishing seen settings start_one one_now start_other other_now (failing.Other why) =
    StopsReading settings start_other other_now [] why × IsSteady start_one one_now
    × IsReadableFrom seen settings start_one

-- where the other input is refused, the first one is readable
abbrev pub ReadableIfRefused : Sight → Settings → Device → ReadFault → Type 0
ReadableIfRefused seen settings start (fault.Input found) = IsReadableFrom seen settings start
ReadableIfRefused seen settings start fault.Read = Unit {0}
ReadableIfRefused seen settings start fault.Memory = Unit {0}

pub record KeepsFault (seen : Sight) (settings : Settings) (start now : Device) (why told : ReadFault) : Type 0 where
  pub same : told ≡ why
  pub steady : IsSteady start now
  pub readable : ReadableIfRefused seen settings start why

-- why reading stops if the other input stopped so: the first one comes first
abbrev pub ReadsFirst : Sight → Settings → Device → Device → ReadFault → CompareFault → Type 0
ReadsFirst seen settings start now why (failing.One first) = StopsReading settings start now [] first × IsOfFault why
ReadsFirst seen settings start now why (failing.Other told) = KeepsFault seen settings start now why told

-- both sides are before their first records
pub record BothBegin (seen : Sight) (start_one start_other : Device) (one other : Standing) : Type 0 where
  pub settings : Settings
  pub taken : HaveTaken seen settings start_one start_one start_other start_other one other

-- What is answered of the inputs that the sources have, what was seen of the first, and what it tells of the sources.
pub record AnswersInputs (seen : Sight) (settings : Settings) (start_one one_now start_other other_now : Device)
    (answer : Result Comparison CompareFault) : Type 0 where
  pub first : List ℕ
  pub second : List ℕ
  pub left : HasLeft start_one first
  pub other_left : HasLeft start_other second
  pub answers : CompareAnswers settings first second answer
  pub all_seen : SeenIfRead seen settings first answer
  pub read_one : IsErrOf answer (failing.One fault.Read) ↔ HasFailed start_one one_now
  pub read_other : IsErrOf answer (failing.Other fault.Read) ↔ HasFailed start_other other_now
  pub few_one : CountsFew start_one one_now
  pub few_other : CountsFew start_other other_now
