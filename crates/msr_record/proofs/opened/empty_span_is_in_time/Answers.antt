use Rattle.std.proofs.Common.{rules, ◌≡◌, FitsSigned, w64, to_z-of_z}
use Rattle.msr_record.proofs.Times.{nominal_first}
use Rattle.msr_record.proofs.opened.empty_span_is_in_time.Goals as goal

pub returns : goal.returns
returns c =
    let fits : FitsSigned w64 c.args.start = search rules in
    let found = rw (to_z-of_z fits) at c.nominal-first.ensures.found in
    let same : found.0 ≡ c.args.start = nominal_first c.args.key.now.rate c.args.start found.0 found.1 in
    record { last = found.0; nominal = found.1; first_in = c.requires; last_in = rw same c.requires }
