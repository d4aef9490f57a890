use Rattle.std.proofs.Common.{◌∙◌, ap}
use Rattle.msr_options.specs.Known.{has_line}
use Rattle.msr_options.proofs.LinesKnown.{has_texts}
use Rattle.msr_options.proofs.known.KnownLines.has.Goals as goal

pub returns : goal.returns
returns c =
    c.contains.ensures ∙ has_texts c.args.line.now c.self.inside.lines.keys
    ∙ ap (λ lines. has_line lines c.args.line.now) c.self.view_is
