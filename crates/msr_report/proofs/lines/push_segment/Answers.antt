use Rattle.std.proofs.Common.{◌∙◌, string_bytes}
use Rattle.std.proofs.lemmas.Result.{on_ok_weaker}
use Rattle.msr_report.proofs.Words.{two_lines, instant_back}
use Rattle.msr_report.proofs.lines.push_segment.Goals as goal

pub returns : goal.returns
returns c =
    let is_time = rw (instant_back c.args.line.now.start c.requires) at (c.in_ok-time.ensures) in
    on_ok_weaker c.push_separators.result (λ second. two_lines c.args.line.now
    (string_bytes c.in_ok-time.time) c.as_str.result.now c.as_str-2.result.now c.args.out.now.items
    c.push_words.new.out.items c.push_separators.new.out.items c.deref.result.now is_time
    c.as_str.ensures.value (c.as_str-2.ensures.value
    ∙ c.in_ok-more.ensures.ok) c.in_ok-push_words.ensures.pushed c.deref.ensures.value second)
    c.push_separators.ensures
