-- The form of written records.
use Rattle.msr_base.specs.declared.forms.Form.{Form}
use Rattle.msr_base.specs.declared.kinds.Kinds.TheVariants.{All}
use Rattle.msr_base.specs.declared.lengths.Length.{Length}

-- records of that length, of any of the five kinds
abbrev pub all_kinds : Length → Form
all_kinds record_length = record { length = record_length; kinds = All }
