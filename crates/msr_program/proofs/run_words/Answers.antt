use Rattle.msr_command.proofs.Words.{words_end}
use Rattle.msr_program.proofs.run_words.Goals as goal

pub returns : goal.returns
returns g c =
    words_end (g.F.NamedFiles.went c.args.files.now) (g.F.NamedFiles.went c.run.new.files) c.args.words.now c.read_words.result (g.I.Source.device c.args.input.now)
    (g.O.Sink.device c.args.output.now) (g.O.Sink.device c.run.new.output) c.run.result c.read_words.ensures.default
    c.read_words.ensures.command c.read_words.ensures.status c.run.ensures
