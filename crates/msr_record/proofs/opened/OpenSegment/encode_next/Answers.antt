use Rattle.std.proofs.Common.{◌∷◌, ◌++◌, []}
use Rattle.msr_record.specs.Opened.{opened_of}
use Rattle.msr_record.proofs.OpenSegments.{can_encode}
use Rattle.msr_record.proofs.opened.OpenSegment.encode_next.Goals as goal

pub encode_shown-requires-clause-can : goal.encode_shown-requires-clause-can
encode_shown-requires-clause-can c =
    let own = c.self.inside in
    let can = rw (← c.self.view_is) at c.requires.can in
    can_encode c.args.whole (opened_of own.key own.start own.form own.packer own.separators.items)
    c.in-Some.piece _ c.next_piece.new.packer can
    (c.in-Some.ensures.given own.form can.segment.samples can.runs own.separators.items can.is_open.gives)
    (c.in-Some.ensures.shows own.form can.segment.samples can.runs own.separators.items can.is_open.gives)

pub returns-clause-can : goal.returns-clause-can
returns-clause-can c =
    let own = c.self.inside in
    let can = rw (← c.self.view_is) at c.requires.can in
    record {
      segment = can.segment;
      runs = can.runs ++ c.in-Some.piece.run ∷ [];
      is_open = record {
        key = can.is_open.key;
        start = can.is_open.start;
        gives = rw c.in_ok-push.ensures.items
            (c.in-Some.ensures.given own.form can.segment.samples can.runs own.separators.items can.is_open.gives);
      };
      writable = can.writable;
      in_time = can.in_time;
    }

pub returns-clause-appends : goal.returns-clause-appends
returns-clause-appends c = λ segment runs o.
    let own = c.self.inside in
    let q = rw (← c.self.view_is) at o in
    let shows = c.in-Some.ensures.shows own.form segment.samples runs own.separators.items q.gives in (
      c.in-Some.piece.run,
      record {
        key = q.key;
        start = q.start;
        gives =
            rw c.in_ok-push.ensures.items
            (c.in-Some.ensures.given own.form segment.samples runs own.separators.items q.gives);
      },
      c.in_ok-encode_shown.ensures segment c.in-Some.piece.separator q.key q.start shows,
    )
