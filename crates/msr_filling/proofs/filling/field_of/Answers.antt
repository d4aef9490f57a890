use Rattle.std.proofs.Common.{◌≡◌, of_z, w64, ap, ◌∙◌}
use Rattle.std.proofs.lemmas.Int.{to_z-of_z}
use Rattle.msr_filling.proofs.FillFields.{field_is, field_small}
use Rattle.msr_filling.proofs.filling.field_of.Goals as goal

pub returns-clause-same : goal.returns-clause-same
returns-clause-same c fits =
    let bits : c.cast_unsigned.result ≡ of_z w64 c.args.difference = c.cast_unsigned.ensures
    ∙ ap (of_z w64) (to_z-of_z w64 c.args.difference c.ranges.difference) in
    field_is c.args.difference c.args.width c.cast_unsigned.result c.requires.positive c.requires.small
    c.ranges.difference fits bits

pub returns-clause-within : goal.returns-clause-within
returns-clause-within c = field_small c.args.width c.cast_unsigned.result c.requires.small
