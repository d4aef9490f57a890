use Rattle.std.proofs.Common.{◌∙◌, ◌++◌}
use Rattle.msr_record.proofs.OpenSegments.{appends_last, appends_one}
use Rattle.msr_record.proofs.opened.OpenSegment.encode_runs.Goals as goal

pub loop-number-preserved : goal.loop-number-preserved
loop-number-preserved c =
    let i = c.loop-number.invariant in
    let e = c.in_ok-encode_next.ensures in
    record {
      least = c.number_after_this-number.ensures.least;
      most = c.number_after_this-number.ensures.most;
      can = e.can;
      form = c.encode_next.ensures.form ∙ i.form;
      count = c.encode_next.ensures.count ∙ i.count;
      key = c.encode_next.ensures.key ∙ i.key;
      start = c.encode_next.ensures.start ∙ i.start;
      appends = λ segment runs o.
          let a = i.appends segment runs o in
          let n = rw c.if-branch.true at e.appends segment (runs ++ a.more) a.is_open in
          appends_one c.args.whole segment runs c.loop-number.self c.encode_next.new.self c.args.first_number
          c.loop-number.number c.number_after_this-number.result c.args.out.now.items c.loop-number.out.items
          c.encode_next.new.out.items a n.0 c.encode_next.ensures.form n.1 n.2
          c.number_after_this-number.ensures.next;
    }

pub returns-clause-appends : goal.returns-clause-appends
returns-clause-appends c = λ segment runs o.
    let i = c.loop-number.invariant in
    let a = i.appends segment runs o in
    let n = rw c.if-branch.false at c.in_ok-encode_next.ensures.appends segment (runs ++ a.more) a.is_open in
    appends_last c.args.whole segment runs c.loop-number.self c.encode_next.new.self c.args.first_number
    c.loop-number.number c.args.out.now.items c.loop-number.out.items c.encode_next.new.out.items a
    c.encode_next.ensures.form n.0 n.1 n.2
