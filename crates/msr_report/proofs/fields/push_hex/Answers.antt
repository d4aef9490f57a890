use Rattle.std.proofs.Common.{string_bytes}
use Rattle.msr_report.proofs.Pieces.{on_pushed, two_bytes}
use Rattle.msr_report.proofs.fields.push_hex.Goals as goal

pub returns : goal.returns
returns c =
    on_pushed c.push-2.result _ _ _ _ (λ is. two_bytes (string_bytes c.args.text.now) _ _ _ _ c.hex_digit.result
    c.hex_digit-2.result _ _ (c.in_ok-push.ensures.ascii c.hex_digit.ensures.ascii)
    (c.push-2.ensures.ascii c.hex_digit-2.ensures.ascii) c.hex_digit.ensures.glyph c.hex_digit-2.ensures.glyph
    c.in_ok-push.ensures.bytes is) c.push-2.ensures.bytes
