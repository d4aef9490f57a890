use Rattle.msr_tool.proofs.RepackedSegments.{readable_segments, repacked_segments}
use Rattle.msr_tool.proofs.laws.repacked_has_segments.Goals as goal

pub returns-clause-within : goal.returns-clause-within
returns-clause-within c = repacked_segments c.one_list_of_records.ensures

pub returns-clause-readable : goal.returns-clause-readable
returns-clause-readable c = readable_segments
