use Rattle.msr_report_reader.proofs.StoppedSources.{IsReading, left_with}
use Rattle.msr_report_reader.proofs.reading.read_report.Given as goal

abbrev pub invariant-reading : goal.invariant-reading
invariant-reading g l = IsReading (g.Q.Source.device l.fn.source) (g.Q.Source.device l.source) l.draft l.buffer

abbrev pub decreases-reading : goal.decreases-reading
decreases-reading g l = left_with (g.Q.Source.device l.source) l.buffer
