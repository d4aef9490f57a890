-- The words so far hold as many differences as they can.
use Rattle.std.proofs.Common.{arith, ◌≡◌, ◌+◌, ◌-◌, None, suc, subst, true, drop}
use Rattle.msr_words.specs.Segment.{differences}
use Rattle.msr_base.specs.RecordLength.{words_of}
use Rattle.msr_words.specs.Steim1Reach.{IsSteim1End, IsSteim1Word}
use Rattle.msr_words.proofs.PairWalks.{walk_on}
use Rattle.msr_words.proofs.Windows.{window_on}
use Rattle.msr_words.proofs.Steim1Runs.{behind, left_behind, none_reached, walk_ends}
use Rattle.msr_words.proofs.steim1.steim1_reach.Goals as goal

pub loop-walk-init : goal.loop-walk-init
loop-walk-init c = record {
  few = omega arith;
  window = c.new-window.ensures c.args.samples.now c.args.start;
  walked = record {
    from = omega arith;
    within = c.requires;
    reach = none_reached c.args.samples.now c.args.start;
  };
}

pub loop-walk-preserved : goal.loop-walk-preserved
loop-walk-preserved c =
    let samples = c.args.samples.now in
    let on = c.pass_if-on.result in
    let next = c.next_word-next.result in
    let walked = c.pass_if-on.ensures.walked c.args.start c.loop-walk.invariant.walked in
    let more = walk_on samples c.args.start on next.size next.spare walked
    (c.next_word-next.ensures.next
    (drop on.at (differences None samples)) c.four_sizes.ensures.first c.four_sizes.ensures.second
    c.four_sizes.ensures.third c.four_sizes.ensures.fourth) (omega (arith, c.if-next-eq0.false)) in
    record {
      few = omega arith;
      window = window_on samples on.at (on.at + next.size) c.four_sizes.new.self (omega arith) c.four_sizes.ensures.window;
      walked = more;
    }

pub returns-then-next-eq0 : goal.returns-then-next-eq0
returns-then-next-eq0 c =
    let samples = c.args.samples.now in
    let start = c.args.start in
    let on = c.pass_if-on.result in
    let walked = c.pass_if-on.ensures.walked start c.loop-walk.invariant.walked in
    let from = walked.from in
    let next : IsSteim1Word (drop (on.at - start) (behind samples start)) on.spare c.next_word-next.result.size
    c.next_word-next.result.spare =
    subst (λ ds. IsSteim1Word ds on.spare c.next_word-next.result.size c.next_word-next.result.spare)
    (left_behind samples start on.at from)
    (c.next_word-next.ensures.next
    (drop on.at (differences None samples)) c.four_sizes.ensures.first c.four_sizes.ensures.second
    c.four_sizes.ensures.third c.four_sizes.ensures.fourth) in
    let here : IsSteim1Word (drop (on.at - start) (behind samples start)) on.spare 0 c.next_word-next.result.spare =
    subst (λ n. IsSteim1Word (drop (on.at - start) (behind samples start)) on.spare n c.next_word-next.result.spare)
    c.if-next-eq0.true next in
    let same = c.data_words.ensures.same in
    let end = c.steim1_word_by_word.ensures.stop on.words (words_of c.args.record_length.bytes)
    (behind samples start) (on.at - start) on.spare c.next_word-next.result.spare walked.reach here (omega arith) in
    let most = c.args.record_length.most in
    walk_ends c.args.record_length.bytes (omega arith) samples start (on.at - start) on.at c.requires end (omega arith)

pub returns : goal.returns
returns c =
    let samples = c.args.samples.now in
    let start = c.args.start in
    let walk = c.loop-walk.walk in
    let walked = c.loop-walk.invariant.walked in
    let few = c.loop-walk.invariant.few in
    let from = walked.from in
    let size = c.next_word.result.size in
    let here = subst (λ ds. IsSteim1Word ds true c.next_word.result.size c.next_word.result.spare)
    (left_behind samples start walk.at from)
    (c.next_word.ensures.next
    (drop walk.at (differences None samples)) c.four_sizes-2.ensures.first c.four_sizes-2.ensures.second
    c.four_sizes-2.ensures.third c.four_sizes-2.ensures.fourth) in
    let end = c.steim1_word_by_word.ensures.last walk.words (behind samples start)
    (walk.at - start) size walk.spare c.next_word.result.spare walked.reach here in
    let same = c.data_words.ensures.same in
    let some = c.data_words.ensures.some in
    let all : suc walk.words ≡ words_of c.args.record_length.bytes = omega arith in
    let most = c.args.record_length.most in
    walk_ends c.args.record_length.bytes (omega arith) samples start (walk.at - start + size) (walk.at + size) c.requires
    (subst (λ k. IsSteim1End k (behind samples start) (walk.at - start + size)) all end) (omega arith)
