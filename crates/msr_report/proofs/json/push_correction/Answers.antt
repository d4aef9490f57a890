use Rattle.std.proofs.Common.{FitsSigned, codes, rules, string_bytes, to_z-of_z, w32}
use Rattle.std.proofs.lemmas.Result.{on_ok_weaker}
use Rattle.std.specs.Fmt.{signed_decimal}
use Rattle.msr_report.specs.Json.{timing_json}
use Rattle.msr_report.proofs.Pieces.{four_pieces}
use Rattle.msr_report.proofs.json.push_correction.Goals as goal

pub returns : goal.returns
returns c =
    let key = c.args.key.now in
    let fits : FitsSigned w32 c.args.key.now.correction = search rules in
    let signed = rw (to_z-of_z fits) at c.in_ok-push_signed.ensures in
    on_ok_weaker c.push_timing_quality.result
    (λ last. four_pieces (string_bytes c.args.text.now) (codes ",\"correction\":") (signed_decimal key.correction)
    (codes ",\"timing\":") (timing_json key.timing) _ _ _ _ c.in_ok-push_str.ensures.bytes
    signed c.in_ok-push_str-2.ensures.bytes last) c.push_timing_quality.ensures
