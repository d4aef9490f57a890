use Rattle.std.proofs.Common.{FitsSigned, rules, string_bytes, to_z-of_z, w64}
use Rattle.msr_report.proofs.JsonLines.{object_put}
use Rattle.msr_report.proofs.json.push_object.Goals as goal

pub returns : goal.returns
returns c =
    let fits : FitsSigned w64 c.args.segment.now.start = search rules in
    let fits_last : FitsSigned w64 c.in-Some.last = search rules in
    let found = c.in-Some.ensures.found in
    let times = c.in_ok-push_times.ensures in
    let began = c.in_ok-push_began.ensures in
    object_put c.args.before c.args.segment.now found.0 times.0 times.1.0 began.0 (string_bytes c.args.text.now)
    _ _ _ _ _ _ (rw (to_z-of_z fits) at found.1) (rw (to_z-of_z fits) at times.1.1.0)
    (rw (to_z-of_z fits_last, found.2.1) at times.1.1.1.0) began.1.0 c.in_ok-push_name.ensures times.1.1.1.1
    c.in_ok-push_rate_and_flags.ensures c.in_ok-push_correction.ensures began.1.1 c.in_ok-push_str.ensures.bytes

pub push_times-requires-clause-first : goal.push_times-requires-clause-first
push_times-requires-clause-first c =
    let fits : FitsSigned w64 c.args.segment.now.start = search rules in
    rw (to_z-of_z fits) c.requires.in_time.first_in

pub push_times-requires-clause-last : goal.push_times-requires-clause-last
push_times-requires-clause-last c =
    let fits_last : FitsSigned w64 c.in-Some.last = search rules in
    let found = c.in-Some.ensures.found in
    rw (to_z-of_z fits_last, found.2.1) found.2.0

pub overflow_sub-segment : goal.overflow_sub-segment
overflow_sub-segment c = c.requires.some
