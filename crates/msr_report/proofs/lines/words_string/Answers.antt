use Rattle.msr_report.proofs.Words.{words_put}
use Rattle.msr_report.proofs.lines.words_string.Goals as goal

pub returns : goal.returns
returns c =
    words_put c.args.key.now c.args.start.now c.args.samples c.args.more.now _ _ _ _ _ _ _
    c.in_ok-text.ensures.bytes c.in_ok-push_settings.ensures c.in_ok-push_str.ensures.bytes
    c.in_ok-push_str-2.ensures.bytes c.in_ok-push_str-3.ensures.bytes c.in_ok-push_decimal.ensures
    c.in_ok-push_str-4.ensures.bytes
