use Rattle.std.proofs.Common.{◌∙◌, refl, rules, sym, FitsSigned, w64, ap, of_z}
use Rattle.std.proofs.lemmas.Bool.{not-false}
use Rattle.msr_segments.proofs.KeyLemmas.{key_decides}
use Rattle.msr_compare.proofs.MeetingLemmas.{passes_beginning, same_signed}
use Rattle.msr_compare.proofs.meeting.meet_beginnings.Goals as goal

pub returns-then-starts : goal.returns-then-starts
returns-then-starts c =
    let same = (key_decides c.args.keys.0 c.args.keys.1).0 (not-false _ (sym c.ne.ensures ∙ c.if-ne.false)) in
    rw c.differs-then-starts.ensures (
      record {
        segment_is = refl;
        differ = record {
          key = c.args.keys.0;
          start = c.args.starts.0;
          other_start = c.args.starts.1;
          begins = c.requires.one;
          other_begins = rw (← same) at c.requires.other;
          differ = λ e. c.if-starts.true (ap (λ z. of_z w64 z) e);
        };
      },
      record { one_still = refl; other_still = refl },
    )

pub returns : goal.returns
returns c =
    let same = (key_decides c.args.keys.0 c.args.keys.1).0 (not-false _ (sym c.ne.ensures ∙ c.if-ne.false)) in
    let fits : FitsSigned w64 c.args.starts.0 = search rules in
    let other_fits : FitsSigned w64 c.args.starts.1 = search rules in
    let at = same_signed c.args.starts.0 c.args.starts.1 fits other_fits c.if-starts.false in
    passes_beginning c.requires.one (rw (← same, ← at) at c.requires.other) c.open.ensures.ahead c.open-2.ensures.ahead
    c.open.ensures.only c.open-2.ensures.only
