use Rattle.std.proofs.Common.{arith}
use Rattle.std.proofs.lemmas.Str.Pattern.{strip_suffix_char}
use Rattle.msr_arguments.proofs.Slash.{slash_stripped}
use Rattle.msr_arguments.proofs.words.without_slash.Goals as goal

pub returns : goal.returns
returns c =
    let stripped = strip_suffix_char 47 c.args.folder.now c.strip_suffix.result c.strip_suffix.ensures.cases
    (omega arith) in
    rw c.unwrap_or.ensures (slash_stripped c.args.folder c.strip_suffix.result stripped)
