use Rattle.std.proofs.Common.{drop}
use Rattle.msr_words.specs.Segment.{differences}
use Rattle.msr_words.proofs.window.Window.longest_steim2_group.Goals as goal

pub returns-in-Some-clause-longest : goal.returns-in-Some-clause-longest
returns-in-Some-clause-longest c =
    c.longest_from.ensures.longest (drop c.args.at (differences c.args.before c.args.run.now))
    (c.in-Some.ensures.shown c.args.before)
