use Rattle.std.proofs.Common.{rules, ◌≡◌, true, false}
use Rattle.msr_words.specs.Fit.{records_of}
use Rattle.msr_record.proofs.opened.next_piece.Goals as goal

pub returns-then-whole-clause-given : goal.returns-then-whole-clause-given
returns-then-whole-clause-given c = λ form samples runs separators p.
    let all : c.args.whole ≡ true = search rules in
    rw all ((c.last_piece.ensures.gives (records_of form)).given samples runs separators (rw all at p))

pub returns-then-whole-clause-shows : goal.returns-then-whole-clause-shows
returns-then-whole-clause-shows c = λ form samples runs separators p.
    let all : c.args.whole ≡ true = search rules in
    (c.last_piece.ensures.gives (records_of form)).shows samples runs separators (rw all at p)

pub returns-else-whole-clause-given : goal.returns-else-whole-clause-given
returns-else-whole-clause-given c = λ form samples runs separators p.
    let others : c.args.whole ≡ false = search rules in
    rw others ((c.next_piece.ensures.gives (records_of form)).given samples runs separators (rw others at p))

pub returns-else-whole-clause-shows : goal.returns-else-whole-clause-shows
returns-else-whole-clause-shows c = λ form samples runs separators p.
    let others : c.args.whole ≡ false = search rules in
    (c.next_piece.ensures.gives (records_of form)).shows samples runs separators (rw others at p)
