use Rattle.std.proofs.Common.{rules, ◌≡◌}
use Rattle.std.specs.Fmt.{signed_decimal}
use Rattle.std.specs.String.{string_bytes}
use Rattle.msr_naming.specs.Stamp.{stamp_word}
use Rattle.msr_naming.proofs.stamp.Stamp.text.Goals as goal

pub returns : goal.returns
returns c =
    let word : c.word-word.result.now ≡ stamp_word c.args.of = search rules in
    let seconds : string_bytes c.in_ok-seconds.seconds ≡ signed_decimal c.args.self.seconds = search rules in
    let nanoseconds : string_bytes c.in_ok-nanoseconds.nanoseconds ≡ signed_decimal c.args.self.nanoseconds =
    search rules in
    rw (← word, ← seconds, ← nanoseconds) (search rules)
