use Rattle.std.proofs.Common.{◌≡◌, false, rules}
use Rattle.msr_report_reader.proofs.Steps.{after_shorter, more_then, no_more, one_read}
use Rattle.msr_report_reader.proofs.draft.more_separators.Goals as goal

pub separators-init : goal.separators-init
separators-init c = no_more c.args.numbers.now.items c.args.ended c.args.text.now

pub separators-smaller : goal.separators-smaller
separators-smaller c =
    after_shorter c.in-Some.n c.in-Some.ends c.separators.rest.now c.in-Some.more.now c.in-Some.ensures.found

pub separators-preserved : goal.separators-preserved
separators-preserved c =
    let going : c.separators.last ≡ false = search rules in
    more_then c.args.numbers.now.items c.separators.numbers.items c.push.new.self.items c.args.ended false
    c.in-Some.ends c.args.text.now c.separators.rest.now c.in-Some.more.now
    (rw going at c.separators.invariant)
    (one_read c.separators.numbers.items c.push.new.self.items c.in-Some.n c.in-Some.ends c.separators.rest.now
    c.in-Some.more.now c.in_ok-push.ensures.items (search rules) c.in-Some.ensures.found)
