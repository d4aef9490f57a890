-- Records beside their kinds.
use Rattle.std.proofs.Common.{◌≡◌, zero, suc, List, [], ◌∷◌, ◌++◌, All, ap, subst, arith}
use Rattle.std.proofs.lemmas.List.Elements.{All-append}
use Rattle.msr_devices.specs.Device.{Device}
use Rattle.msr_devices.proofs.Chaining.{left_of}
use Rattle.msr_input.specs.Input.{BeginsWith}
use Rattle.msr_input.specs.Rows.{HasReadRows, ReadsNone, RowReading}
use Rattle.msr_rows.specs.declared.row.Record.{Record}
use Rattle.msr_segments.specs.declared.follow.Step.{Step}
use Rattle.msr_replace.specs.Kinds.{HasInt24Row, HasOtherKind, HoldsLeft, LacksLeft}

-- the state between two records, none of which has 24-bit integers so far
pub record SeesOthers (start now : Device) (reading : RowReading) : Type 0 where
  pub records : List Record
  pub answers : List Step
  pub read : HasReadRows start now reading records answers
  pub none : All (λ found. HasOtherKind found.row) records

one_other : (found : Record) → HasOtherKind found.row → All (λ one. HasOtherKind one.row) (found ∷ [])
one_other found other zero d inside = other
one_other found other (suc k) d inside = absurd (omega arith)

pub sees_one : (start now after : Device) (reading later : RowReading) (s : SeesOthers start now reading) (found : Record) (answers : List Step)
    → HasReadRows start after later (s.records ++ found ∷ []) answers → HasOtherKind found.row → SeesOthers start after later
sees_one start now after reading later s found answers read other = record {
  records = s.records ++ found ∷ [];
  answers = answers;
  read = read;
  none = All-append (λ one. HasOtherKind one.row) s.records (found ∷ []) s.none (one_other found other);
}

pub holds_one : (start now : Device) (later : RowReading) (records : List Record) (found : Record) (answers : List Step)
    → HasReadRows start now later (records ++ found ∷ []) answers → HasInt24Row found.row → HoldsLeft start
holds_one start now later records found answers read has =
    let p = read.came.begins (left_of now).0 (left_of now).1 in
    record {
      bytes = p.0;
      left = p.1;
      holds = record { records = records; found = found; rest = later.position.waiting ++ (left_of now).0; begins = p.2; has = has };
    }

pub lacks_all : (start now after : Device) (reading later : RowReading) (s : SeesOthers start now reading) → ReadsNone start after later s.records s.answers → LacksLeft start
lacks_all start now after reading later s none =
    let p = none.read.came.begins [] (none.read.came.end none.ended) in
    let empty : later.position.waiting ++ [] ≡ [] = ap (λ w. w ++ []) none.none_wait in
    record {
      bytes = p.0;
      left = p.1;
      lacks = record { records = s.records; begins = subst (λ rest. BeginsWith s.records p.0 rest) empty p.2; none = s.none };
    }
