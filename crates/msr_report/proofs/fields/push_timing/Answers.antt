use Rattle.std.proofs.Common.{FitsSigned, rules, to_z-of_z, w32, codes, decimal, string_bytes}
use Rattle.std.specs.Fmt.{signed_decimal}
use Rattle.std.proofs.lemmas.Result.{on_ok_weaker}
use Rattle.msr_report.proofs.Pieces.{four_pieces}
use Rattle.msr_report.proofs.fields.push_timing.Goals as goal

pub returns : goal.returns
returns c =
    let fits : FitsSigned w32 c.args.key.now.correction = search rules in
    let signed = rw (to_z-of_z fits) at c.in_ok-push_signed.ensures in
    on_ok_weaker c.push_decimal.result
    (λ last. four_pieces (string_bytes c.args.text.now) (codes " correction ") (signed_decimal c.args.key.now.correction)
    (codes " timing ") (decimal c.args.key.now.timing) _ _ _ _ c.in_ok-push_str.ensures.bytes
    signed c.in_ok-push_str-2.ensures.bytes last) c.push_decimal.ensures
