use Rattle.std.proofs.Common.{◌∙◌, ap, inl, inr, refl, rules, sym}
use Rattle.std.specs.Char.{is_ascii_alphanumeric}
use Rattle.msr_report_reader.proofs.Bytes.{escaped}
use Rattle.msr_report_reader.proofs.fields.name_byte.Goals as goal

pub returns-then-is_ascii_alphanumeric-clause-only : goal.returns-then-is_ascii_alphanumeric-clause-only
returns-then-is_ascii_alphanumeric-clause-only c b more small is =
    let told = escaped b _ _ c.in_ok-first.rest.now more refl refl (search rules) in
    let same = (c.in_ok-byte-in-37.ensures.only b more small told.0).0 in
    let other = c.is_ascii_alphanumeric.ensures.value ∙ ap is_ascii_alphanumeric same ∙ told.1.0 in
    elim c.then-is_ascii_alphanumeric.either [
      | inl letter ↦ cc (letter, other)
      | inr space ↦ told.1.1 (sym same ∙ space.1)
    ]

pub returns-else-byte-eq32-clause-only : goal.returns-else-byte-eq32-clause-only
returns-else-byte-eq32-clause-only c b more small is = c.in_ok-byte-in-37.ensures.only b more small
    (escaped b _ _ c.in_ok-first.rest.now more refl refl (search rules)).0
