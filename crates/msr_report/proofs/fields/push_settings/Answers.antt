use Rattle.std.proofs.Common.{codes, string_bytes}
use Rattle.msr_report.proofs.Pieces.{five_pieces}
use Rattle.msr_report.proofs.fields.push_settings.Goals as goal

pub returns : goal.returns
returns c =
    five_pieces (string_bytes c.args.text.now) (codes " rate ") _ (codes " flags ") _ _ _ _ _ _ _
    c.in_ok-push_str.ensures.bytes c.in_ok-push_rate.ensures c.in_ok-push_str-2.ensures.bytes
    c.in_ok-push_flags.ensures c.in_ok-push_timing.ensures
