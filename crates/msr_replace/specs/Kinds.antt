-- Whether records have 24-bit integers.
use Rattle.std.specs.Prelude.{◌≡◌, ◌≢◌, ℕ, Bool, true, false, List, [], ◌∷◌, ◌++◌, All, IfSome, IsSomeAnd, Option, Result, Ok, Err}
use Rattle.msr_devices.specs.Device.{Device, HasLeft}
use Rattle.msr_input.specs.Input.{BeginsWith}
use Rattle.msr_input.specs.Rows.{row_told}
use Rattle.msr_input.specs.declared.fault.ReadFault.{ReadFault}
use Rattle.msr_input.specs.declared.row_reader.NextRecord.{NextRecord}
use Rattle.msr_base.specs.declared.kinds.Kind.TheVariants.{Int24}
use Rattle.msr_rows.specs.declared.row.Record.{Record}
use Rattle.msr_rows.specs.declared.row.Row.{Row}

abbrev pub HasOtherKind : Option Row → Type 0
HasOtherKind row = IfSome row (λ found. found.kind ≢ Int24)

abbrev pub HasInt24Row : Option Row → Type 0
HasInt24Row row = IsSomeAnd row (λ found. found.kind ≡ Int24)

-- the bytes are those of these records, none of which has them
pub record LacksInt24 (bytes : List ℕ) : Type 0 where
  pub records : List Record
  pub begins : BeginsWith records bytes []
  pub none : All (λ found. HasOtherKind found.row) records

-- the bytes begin with some records, of which the last one has them
pub record HoldsInt24 (bytes : List ℕ) : Type 0 where
  pub records : List Record
  pub found : Record
  pub rest : List ℕ
  pub begins : BeginsWith (records ++ found ∷ []) bytes rest
  pub has : HasInt24Row found.row

abbrev pub TellsOfRow : NextRecord → Bool → Type 0
TellsOfRow next true = HasInt24Row (row_told next.row)
TellsOfRow next false = HasOtherKind (row_told next.row)

-- what an answer says of the bytes of a source
pub record LacksLeft (source : Device) : Type 0 where
  pub bytes : List ℕ
  pub left : HasLeft source bytes
  pub lacks : LacksInt24 bytes

pub record HoldsLeft (source : Device) : Type 0 where
  pub bytes : List ℕ
  pub left : HasLeft source bytes
  pub holds : HoldsInt24 bytes

abbrev pub TellsInt24 : Device → Result Bool ReadFault → Type 0
TellsInt24 source (Ok true) = HoldsLeft source
TellsInt24 source (Ok false) = LacksLeft source
TellsInt24 source (Err why) = Unit {0}
