use Rattle.std.proofs.Common.{◌≡◌, sym, ap, ◌∙◌, to_z-of_z, FitsSigned}
use Rattle.std.specs.Int.{w32}
use Rattle.std.specs.Fmt.{signed_decimal}
use Rattle.std.proofs.lemmas.Fmt.{parse-signed_decimal, IsAscii-signed}
use Rattle.std.proofs.lemmas.Str.{IsUtf8-from_ascii}
use Rattle.std.proofs.lemmas.Slice.Eq.{slice_eq-Decides}
use Rattle.std.proofs.lemmas.Bool.Decides.{Decides-eqb}
use Rattle.std.specs.Str.{IsUtf8}
use Rattle.msr_report_reader.proofs.Digits.{short}
use Rattle.msr_report_reader.proofs.fields.signed_of.Goals as goal

pub returns-in_default-clause-only : goal.returns-in_default-clause-only
returns-in_default-clause-only c z fits is =
    let good : IsUtf8 c.args.word.now = rw is (IsUtf8-from_ascii (signed_decimal z)
    (IsAscii-signed z (short z fits))) in
    absurd (c.in_default.ensures.cases.0 good)

pub returns-in_default-parse-clause-only : goal.returns-in_default-parse-clause-only
returns-in_default-parse-clause-only c z fits is =
    let parsed = parse-signed_decimal w32 z c.in-Ok.word.now c.parse.result fits (short z fits)
    (c.in-Ok.ensures.cases.0 ∙ is) c.parse.ensures.value.0 in cc (parsed, c.in_default-parse.is)

pub returns-then-eq-clause-only : goal.returns-then-eq-clause-only
returns-then-eq-clause-only c z fits is =
    let parsed = parse-signed_decimal w32 z c.in-Ok.word.now c.parse.result fits (short z fits)
    (c.in-Ok.ensures.cases.0 ∙ is) c.parse.ensures.value.0 in
    let same : c.in-Ok-parse.z ≡ z = cc (parsed, c.in-Ok-parse.is) in
    let f : FitsSigned w32 c.in-Ok-parse.z = rw same fits in
    to_z-of_z f ∙ same

pub returns-else-eq-clause-only : goal.returns-else-eq-clause-only
returns-else-eq-clause-only c z fits is =
    let parsed = parse-signed_decimal w32 z c.in-Ok.word.now c.parse.result fits (short z fits)
    (c.in-Ok.ensures.cases.0 ∙ is) c.parse.ensures.value.0 in
    let same : c.in-Ok-parse.z ≡ z = cc (parsed, c.in-Ok-parse.is) in
    let f : FitsSigned w32 c.in-Ok-parse.z = rw same fits in
    let shown : c.format.result.now ≡ c.in-Ok.word.now = c.format.ensures.text
    ∙ ap signed_decimal (to_z-of_z f ∙ same) ∙ sym is ∙ sym c.in-Ok.ensures.cases.0 in
    let decides = slice_eq-Decides Decides-eqb c.format.result.now c.in-Ok.word.now c.eq.result c.eq.ensures in
    let yes = decides.1 shown in
    cc (yes, c.if-eq.false)
