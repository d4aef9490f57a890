use Rattle.std.proofs.Common.{◌≡◌, ◌<◌, length, arith, refl}
use Rattle.msr_replace.specs.Lines.{after_of, before_of, exchange_word}
use Rattle.msr_replace.specs.Words.{is_unwell, is_well, word_number}
use Rattle.msr_replace.proofs.Counted.{as_number, count_more, counts_more, sum_more}
use Rattle.msr_replace.proofs.tally.Tally.add.Goals as goal

pub returns : goal.returns
returns c = λ before entry h is.
    let place : c.number-at.result ≡ word_number (exchange_word entry.outcome) =
    rw (c.number-at.ensures.value, c.word-word.ensures, ← is) refl in
    let room : c.number-at.result < length c.args.self.now.counts = omega arith in
    record {
      counts = counts_more c.args.self.now.counts before entry _ _ h.counts place room c.saturating_add.ensures;
      unwell = rw (c.saturating_add-self-3.ensures, c.from.ensures, c.is_unwell.ensures, c.word-word.ensures, ← is, as_number)
          (count_more is_unwell before entry _ h.unwell);
      well = rw (c.saturating_add-self-4.ensures, c.from-2.ensures, c.is_well.ensures, c.word-word.ensures, ← is, as_number)
          (count_more is_well before entry _ h.well);
      before = rw (c.saturating_add-self.ensures, c.before-2.ensures, ← is) (sum_more before_of before entry _ h.before);
      after = rw (c.saturating_add-self-2.ensures, c.after.ensures, ← is) (sum_more after_of before entry _ h.after);
    }
