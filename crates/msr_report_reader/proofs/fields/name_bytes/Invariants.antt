use Rattle.msr_report_reader.proofs.Bytes.{AreRead}
use Rattle.msr_report_reader.proofs.fields.name_bytes.Given as goal

abbrev pub invariant-bytes : goal.invariant-bytes
invariant-bytes g l = AreRead g.row.N l.at l.text l.bytes l.rest
