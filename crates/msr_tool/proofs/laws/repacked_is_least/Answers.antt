use Rattle.msr_tool.proofs.RepackedLeast.{repacked_least}
use Rattle.msr_tool.proofs.laws.repacked_is_least.Goals as goal

pub returns : goal.returns
returns c =
    repacked_least c.repacked_is_shown.ensures c.shown_is_fewest.ensures.readable c.one_report.ensures
    c.text_is_read_back.ensures.no_fault c.readable_has_no_fault.ensures
