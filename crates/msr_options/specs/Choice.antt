-- How an input is repacked.
use Rattle.std.specs.Prelude.{ℕ, Bool}
use Rattle.msr_base.specs.declared.forms.Form.{Form}
use Rattle.msr_base.specs.declared.kinds.Kinds.{Kinds}
use Rattle.msr_base.specs.declared.lengths.Length.{Length}
use Rattle.msr_base.specs.Lengths.{bytes_of}

-- the length and the kinds of the records that are written, the tolerance in microseconds, and whether a record is
-- refused whose reverse constant does not agree
pub record Choice : Type 0 where
  pub record_length : Length
  pub kinds : Kinds
  pub tolerance : ℕ
  pub strict : Bool

-- how many bytes a record that is written has
abbrev pub record_size : Choice → ℕ
record_size choice = bytes_of choice.record_length

-- the form of the records that are written
abbrev pub form_chosen : Choice → Form
form_chosen choice = record { length = choice.record_length; kinds = choice.kinds }

-- the same choice for records of these kinds
abbrev pub of_kinds : Kinds → Choice → Choice
of_kinds kinds choice = record {
  record_length = choice.record_length;
  kinds = kinds;
  tolerance = choice.tolerance;
  strict = choice.strict;
}

-- the same choice, strict or not
abbrev pub as_strict : Bool → Choice → Choice
as_strict strict choice = record {
  record_length = choice.record_length;
  kinds = choice.kinds;
  tolerance = choice.tolerance;
  strict = strict;
}
