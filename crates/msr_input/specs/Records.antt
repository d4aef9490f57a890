-- What a reader of records shows, and what reading does before the rows of the records are looked at.
use Rattle.std.specs.Prelude.{◌≡◌, ℕ, ◌+◌, ◌-◌, ◌<◌, ◌^◌, Bool, true, false, List, [], ◌∷◌, ◌++◌, length}
use Rattle.msr_rows.specs.declared.row.Record.{Record}
use Rattle.msr_devices.specs.Device.{Device, HasLeft, HasFailed, IsCalm, IsSteady}
use Rattle.msr_base.specs.declared.counts.Counts.{Counts}
use Rattle.msr_input.specs.Input.{AllAgree, BeginsWith, IsRefusedAlone, bytes_of_records, counts_of}
use Rattle.msr_input.specs.declared.fault.Fault.{Fault}
use Rattle.msr_input.specs.declared.fault.ReadFault.{ReadFault}
use Rattle.msr_input.specs.declared.fault.ReadFault.TheVariants.{Input, Read, Memory}

-- what a reader of records shows: the bytes that came and are not yet used, whether the source has ended after
-- them, for how many bytes it has memory, whether it reads strictly, the counts of the records so far, and how many
-- bytes these have
pub record Position : Type 0 where
  pub waiting : List ℕ
  pub ended : Bool
  pub room : ℕ
  pub strict : Bool
  pub counts : Counts
  pub offset : ℕ

-- how many bytes are left to use at most, of a source that gives fewer than 2^64
abbrev pub left_with : Device → List ℕ → ℕ
left_with source waiting = (2 ^ 64 - source.moved) + length waiting

-- From the one state of the source to the other these records came; the rest waits.
pub record HaveCome (start now : Device) (position : Position) (records : List Record) : Type 0 where
  pub begins : (rest : List ℕ) → HasLeft now rest
      → (input : List ℕ) × HasLeft start input × BeginsWith records input (position.waiting ++ rest)
  pub agree : AllAgree position.strict records
  pub counts : position.counts ≡ counts_of records
  pub offset : position.offset ≡ bytes_of_records records
  pub moved : now.moved ≡ start.moved + (bytes_of_records records + length position.waiting)
  pub short : 0 < bytes_of_records records + length position.waiting → now.moved < 2 ^ 64
  pub end : position.ended ≡ true → HasLeft now []
  pub calm : position.ended ≡ false → IsCalm start now
  pub steady : IsSteady start now

-- the counts of one record more; a source gives too few bytes for more records
abbrev pub CountsOneMore : Counts → Counts → Record → Type 0
CountsOneMore old new found =
    (records : List Record) → old ≡ counts_of records → length records < 2 ^ 64 - 1
    → new ≡ counts_of (records ++ found ∷ [])

-- From the one state of the source to the other these records came, and these bytes after them.
pub record HaveComeShort (start now : Device) (records : List Record) (waiting : List ℕ) : Type 0 where
  pub begins : (rest : List ℕ) → HasLeft now rest
      → (input : List ℕ) × HasLeft start input × BeginsWith records input (waiting ++ rest)
  pub moved : now.moved ≡ start.moved + (bytes_of_records records + length waiting)

-- The source's bytes begin with these records, none of which is refused by itself.
pub record HasGiven (strict : Bool) (start : Device) (records : List Record) : Type 0 where
  pub input : List ℕ
  pub rest : List ℕ
  pub left : HasLeft start input
  pub begins : BeginsWith records input rest
  pub agree : AllAgree strict records

-- After these records one is refused by itself.
pub record RefusesRecord (strict : Bool) (start : Device) (records : List Record) (fault : Fault) : Type 0 where
  pub given : HasGiven strict start records
  pub some_left : 0 < length given.rest
  pub refused : IsRefusedAlone strict given.rest fault.kind
  pub offset_is : fault.offset ≡ bytes_of_records records

-- why no further record was given
abbrev pub StopsGiving : (strict : Bool) → Device → Device → List Record → ReadFault → Type 0
StopsGiving strict start now records (Input fault) = RefusesRecord strict start records fault × IsSteady start now
StopsGiving strict start now records Read = HasGiven strict start records × HasFailed start now
StopsGiving strict start now records Memory = HasGiven strict start records × IsSteady start now
