-- Word by word, until no group begins or no word is left.
use Rattle.std.proofs.Common.{arith, ◌≡◌, ◌+◌, ◌-◌, suc, None, length, take, drop, refl, subst}
use Rattle.std.proofs.lemmas.List.{length-take-le}
use Rattle.msr_base.specs.declared.kinds.Kind.TheVariants.{Steim2}
use Rattle.msr_words.specs.Bounds.{IsGreedyReach, latest_end}
use Rattle.msr_words.specs.Groups.{IsLongestGroup}
use Rattle.msr_words.specs.Laws.{most_of}
use Rattle.msr_words.specs.Segment.{differences}
use Rattle.msr_words.proofs.GreedyReach.{none_reached}
use Rattle.msr_words.proofs.Windows.{window_on}
use Rattle.msr_words.proofs.Stretches.{none_narrow}
use Rattle.msr_words.proofs.Steim2Runs.{IsWalked, group_narrow, walk_begins, walk_more, walked_out}
use Rattle.msr_words.proofs.steim2.steim2_reach.Goals as goal
use Rattle.msr_words.proofs.steim2.steim2_reach.Goals.{then-size-lt2+else-size-eq0, else-size-lt2}

pub loop-word-init : goal.loop-word-init
loop-word-init c =
    let all : c.data_words-words.result ≡ c.data_words-words.result - 0 = omega arith in
    let latest = c.args.start + c.min.result in
    let seen = take (c.args.start + c.min.result) c.args.samples.now in
    let long : length (take (c.args.start + c.min.result) c.args.samples.now) ≡ c.args.start + c.min.result =
    length-take-le latest c.args.samples.now (omega arith) in
    record {
      walked = subst (λ n. IsWalked c.data_words-words.result n
          (take (c.args.start + c.min.result) c.args.samples.now) c.args.start c.args.start) all (walk_begins
          c.data_words-words.result seen c.args.start (omega arith));
      window = c.new-window.ensures seen c.args.start;
      small = λ some. none_narrow seen c.args.start;
    }

pub loop-word-preserved : goal.loop-word-preserved
loop-word-preserved c =
    let words = c.data_words-words.result in
    let seen = take (c.args.start + c.min.result) c.args.samples.now in
    let left : words - c.loop-word._word ≡ suc (words - (c.loop-word._word + 1)) = omega arith in
    let walked = c.loop-word.invariant.walked in
    record {
      walked = walk_more words (words - (c.loop-word._word + 1)) seen c.args.start c.loop-word.at
          c.longest_steim2_group-size.result c.longest_steim2_group-size.ensures.longest
          (subst (λ n. IsWalked words n seen c.args.start c.loop-word.at) left walked);
      window = window_on seen c.loop-word.at (c.loop-word.at
          + c.longest_steim2_group-size.result) c.longest_steim2_group-size.new.self (omega
          arith) c.longest_steim2_group-size.ensures.window;
      small = λ shared. elim c.if-size-lt2.branch [
        | then-size-lt2+else-size-eq0 w ↦ absurd (let not = w.shared-is in cc)
        | else-size-lt2 w ↦ group_narrow seen c.args.start c.loop-word.at c.longest_steim2_group-size.result walked.from
            walked.within c.longest_steim2_group-size.ensures.longest (omega (arith, w.if-size-lt2.false))
            (c.loop-word.invariant.small (let same = w.shared-is in cc))
      ];
    }

pub longest_steim2_group-size-requires-clause-within : goal.longest_steim2_group-size-requires-clause-within
longest_steim2_group-size-requires-clause-within c = c.loop-word.invariant.walked.within

pub longest_steim2_group-size-requires-clause-window : goal.longest_steim2_group-size-requires-clause-window
longest_steim2_group-size-requires-clause-window c = c.loop-word.invariant.window

pub returns-then-size-eq0 : goal.returns-then-size-eq0
returns-then-size-eq0 c =
    let words = c.data_words-words.result in
    let latest = c.args.start + c.min.result in
    let most : c.most.result ≡ most_of Steim2 c.args.record_length.bytes = c.most.ensures in
    let latest_is : c.args.start + c.min.result
    ≡ latest_end Steim2 c.args.record_length.bytes c.args.samples.now c.args.start = omega arith in
    let xs = drop c.loop-word.at (differences None (take latest c.args.samples.now)) in
    let none : IsLongestGroup xs 0 =
    subst (IsLongestGroup xs) c.if-size-eq0.true c.longest_steim2_group-size.ensures.longest in
    let out = walked_out c.args.record_length.bytes words
    (words - c.loop-word._word) c.args.samples.now c.args.start latest c.loop-word.at c.requires
    c.steim2_greedy_reach.ensures
    c.data_words-words.ensures.same latest_is c.loop-word.invariant.walked
    (none_reached (words - c.loop-word._word) xs none)
    c.of_walk.result.end c.of_walk.result.narrow c.of_walk.ensures.end
    (λ t. c.loop-word.invariant.small (c.of_walk.ensures.groups t)) c.of_walk.ensures.after in
    record { end = out.end_is; narrow = out.narrow; untold = c.of_walk.ensures.number }

pub returns : goal.returns
returns c =
    let words = c.data_words-words.result in
    let latest = c.args.start + c.min.result in
    let most : c.most.result ≡ most_of Steim2 c.args.record_length.bytes = c.most.ensures in
    let latest_is : c.args.start + c.min.result
    ≡ latest_end Steim2 c.args.record_length.bytes c.args.samples.now c.args.start = omega arith in
    let over : 0 ≡ words - c.loop-word._word = omega arith in
    let xs = drop c.loop-word.at (differences None (take latest c.args.samples.now)) in
    let stuck : IsGreedyReach (words - c.loop-word._word) xs 0 = subst (λ n. IsGreedyReach n xs 0) over refl in
    let out = walked_out c.args.record_length.bytes words
    (words - c.loop-word._word) c.args.samples.now c.args.start latest c.loop-word.at c.requires
    c.steim2_greedy_reach.ensures
    c.data_words-words.ensures.same latest_is c.loop-word.invariant.walked stuck
    c.of_walk-2.result.end c.of_walk-2.result.narrow c.of_walk-2.ensures.end
    (λ t. c.loop-word.invariant.small (c.of_walk-2.ensures.groups t)) c.of_walk-2.ensures.after in
    record { end = out.end_is; narrow = out.narrow; untold = c.of_walk-2.ensures.number }
