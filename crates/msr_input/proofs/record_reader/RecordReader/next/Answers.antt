use Rattle.msr_input.proofs.RecordsThatCame.{at_failure, at_memory, come_keeps, come_next, come_short}
use Rattle.msr_input.proofs.record_reader.RecordReader.next.Goals as goal

pub returns-clause-came : goal.returns-clause-came
returns-clause-came g c =
    let old = c.self.inside in
    rw (← c.self.view_is) (λ start records come. come_next g.F.FromRecord.takes start
    (g.R.Source.device c.args.source.now)
    (g.R.Source.device c.read_record.new.source) old.strict old.buffer c.read_record.new.buffer old.counts
    old.offset records c.read_record.result come c.read_record.ensures.came c.read_record.ensures.refused)

pub returns-clause-kept : goal.returns-clause-kept
returns-clause-kept g c =
    let old = c.self.inside in
    rw (← c.self.view_is) (λ start records come. come_keeps start (g.R.Source.device c.args.source.now)
    (g.R.Source.device c.read_record.new.source) old.strict old.buffer c.read_record.new.buffer old.counts
    old.offset records c.read_record.result come c.read_record.ensures.came)

pub returns-clause-memory : goal.returns-clause-memory
returns-clause-memory g c =
    at_memory g.F.FromRecord.takes c.self.inside.strict c.read_record.new.buffer c.self.inside.offset
    c.read_record.result c.read_record.ensures.refused

pub returns-clause-awaited : goal.returns-clause-awaited
returns-clause-awaited g c =
    at_failure g.F.FromRecord.takes c.self.inside.strict c.read_record.new.buffer c.self.inside.offset
    c.read_record.result c.read_record.ensures.refused

pub returns-clause-failed : goal.returns-clause-failed
returns-clause-failed g c =
    let old = c.self.inside in
    rw (← c.self.view_is) (λ start records come. come_short start (g.R.Source.device c.args.source.now)
    (g.R.Source.device c.read_record.new.source) old.strict old.buffer c.read_record.new.buffer old.counts
    old.offset records c.read_record.result come c.read_record.ensures.came)
