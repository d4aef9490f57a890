-- A number's bits at 32 are those of its field, or the complement of what is left to all ones.
use Rattle.std.proofs.Common.{◌≡◌, ap, ◌∙◌, refl, w32, of_z}
use Rattle.std.proofs.lemmas.Int.{to_z-of_z}
use Rattle.msr_steim.proofs.Fields.{mask_is, field_low, field_high, field_none}
use Rattle.msr_steim.proofs.word.field_of.Goals as goal

pub returns-then-bits-most-clause-fits : goal.returns-then-bits-most-clause-fits
returns-then-bits-most-clause-fits c =
    let bits : c.cast_unsigned-bits.result ≡ of_z w32 c.args.number = c.cast_unsigned-bits.ensures
    ∙ ap (of_z w32) (to_z-of_z w32 c.args.number c.ranges.number) in
    let low = rw (mask_is c.args.width c.requires.small, bits) at c.if-bits-most.true in (
      (λ _. (field_low c.args.number c.args.width c.requires.positive c.ranges.number low c.requires.small).0),
      λ _. refl,
    )

pub returns-then-bits-most-clause-same : goal.returns-then-bits-most-clause-same
returns-then-bits-most-clause-same c =
    let bits : c.cast_unsigned-bits.result ≡ of_z w32 c.args.number = c.cast_unsigned-bits.ensures
    ∙ ap (of_z w32) (to_z-of_z w32 c.args.number c.ranges.number) in
    let low = rw (mask_is c.args.width c.requires.small, bits) at c.if-bits-most.true in
    bits ∙ (field_low c.args.number c.args.width c.requires.positive c.ranges.number low c.requires.small).1

pub returns-then-bits-most-2-clause-fits : goal.returns-then-bits-most-2-clause-fits
returns-then-bits-most-2-clause-fits c =
    let bits : c.cast_unsigned-bits.result ≡ of_z w32 c.args.number = c.cast_unsigned-bits.ensures
    ∙ ap (of_z w32) (to_z-of_z w32 c.args.number c.ranges.number) in
    let low = rw (mask_is c.args.width c.requires.small, bits) at c.if-bits-most-2.true in (
      (λ _. (field_high c.args.number c.args.width c.requires.positive c.ranges.number low c.requires.small).0),
      λ _. refl,
    )

pub returns-then-bits-most-2-clause-same : goal.returns-then-bits-most-2-clause-same
returns-then-bits-most-2-clause-same c =
    let bits : c.cast_unsigned-bits.result ≡ of_z w32 c.args.number = c.cast_unsigned-bits.ensures
    ∙ ap (of_z w32) (to_z-of_z w32 c.args.number c.ranges.number) in
    let low = rw (mask_is c.args.width c.requires.small, bits) at c.if-bits-most-2.true in
    rw (mask_is c.args.width c.requires.small, bits)
    (field_high c.args.number c.args.width c.requires.positive c.ranges.number low c.requires.small).1

pub returns-else-bits-most-2-clause-fits : goal.returns-else-bits-most-2-clause-fits
returns-else-bits-most-2-clause-fits c =
    let bits : c.cast_unsigned-bits.result ≡ of_z w32 c.args.number = c.cast_unsigned-bits.ensures
    ∙ ap (of_z w32) (to_z-of_z w32 c.args.number c.ranges.number) in
    let low = rw (mask_is c.args.width c.requires.small, bits) at c.if-bits-most.false in
    let high = rw (mask_is c.args.width c.requires.small, bits) at c.if-bits-most-2.false in (
      (λ h. absurd (cc)),
      λ here. absurd (field_none c.args.number c.args.width c.requires.positive c.ranges.number low high here),
    )
