-- Group by group, until none begins or no word is left.
use Rattle.std.proofs.Common.{arith, ◌≡◌, ◌+◌, ◌-◌, ◌<◌, suc, None, length, take, drop, refl, subst}
use Rattle.std.proofs.lemmas.List.{length-take-le}
use Rattle.msr_base.specs.declared.kinds.Kind.TheVariants.{Steim2}
use Rattle.msr_words.specs.Bounds.{IsGreedyReach, latest_end}
use Rattle.msr_words.specs.Groups.{IsLongestGroup}
use Rattle.msr_words.specs.Laws.{most_of}
use Rattle.msr_words.specs.Segment.{differences}
use Rattle.msr_words.proofs.GreedyReach.{none_reached}
use Rattle.msr_words.proofs.Windows.{window_on}
use Rattle.msr_words.proofs.Stretches.{none_narrow}
use Rattle.msr_words.proofs.Steim2Runs.{IsWalked, group_narrow, walk_begins, walk_more, walked_out}
use Rattle.msr_filling.proofs.SizesAhead.{AreTold, none_told, walk_told, walked_sizes}
use Rattle.msr_filling.proofs.GroupsAhead.{AreWritten, none_written, walk_written, walked_words}
use Rattle.msr_filling.proofs.words_ahead.walk_with_words.Goals as goal
use Rattle.msr_filling.proofs.words_ahead.walk_with_words.Goals.{then-next-lt2+else-next-eq0, else-next-lt2}

pub loop-group-init : goal.loop-group-init
loop-group-init c =
    let number = c.data_words-number.result in
    let all : c.data_words-number.result ≡ c.data_words-number.result - 0 = omega arith in
    let latest = c.args.start + c.min.result in
    let seen = take (c.args.start + c.min.result) c.args.samples.now in
    let long : length (take (c.args.start + c.min.result) c.args.samples.now) ≡ c.args.start + c.min.result =
    length-take-le latest c.args.samples.now (omega arith) in
    let none : 0 ≡ c.args.start - c.args.start = omega arith in
    record {
      walked = subst (λ n. IsWalked number n seen c.args.start c.args.start) all
          (walk_begins number seen c.args.start (omega arith));
      window = c.new-window.ensures seen c.args.start;
      told = subst (λ n. AreTold (drop c.args.start (differences None seen)) n 0 c.args.sizes.now) none
          (none_told (drop c.args.start (differences None seen)) c.args.sizes.now);
      written = none_written (drop c.args.start (differences None seen)) c.args.sizes.now c.args.words.now;
      small = λ some. none_narrow seen c.args.start;
    }

pub steim2_word-next-requires-clause-within : goal.steim2_word-next-requires-clause-within
steim2_word-next-requires-clause-within c = c.loop-group.invariant.walked.within

pub steim2_word-next-requires-clause-window : goal.steim2_word-next-requires-clause-window
steim2_word-next-requires-clause-window c = c.loop-group.invariant.window

pub loop-group-preserved : goal.loop-group-preserved
loop-group-preserved c =
    let number = c.data_words-number.result in
    let seen = take (c.args.start + c.min.result) c.args.samples.now in
    let left : c.data_words-number.result - c.loop-group.group
    ≡ suc (c.data_words-number.result - (c.loop-group.group + 1)) = omega arith in
    let walked = c.loop-group.invariant.walked in
    let size = c.steim2_word-next.result.size in
    let longest = c.steim2_word-next.ensures.longest in
    let some : 0 < c.steim2_word-next.result.size = (elim c.if-next-lt2.branch [
      | then-next-lt2+else-next-eq0 w ↦ (let not = w.if-next-eq0.false in grind arith)
      | else-next-lt2 w ↦ omega (arith, w.if-next-lt2.false)
    ]) in
    record {
      walked = walk_more number (number - (c.loop-group.group + 1)) seen c.args.start c.loop-group.at size longest
          (subst (λ n. IsWalked number n seen c.args.start c.loop-group.at) left walked);
      window = window_on seen c.loop-group.at (c.loop-group.at + size) c.steim2_word-next.new.window (omega arith)
          c.steim2_word-next.ensures.window;
      told = walk_told seen c.args.start c.loop-group.at c.loop-group.group size c.loop-group.sizes walked.from
          (omega arith) longest some c.loop-group.invariant.told;
      written = walk_written seen c.args.start c.loop-group.at c.loop-group.group size
          c.steim2_word-next.result.word c.loop-group.sizes c.loop-group.words walked.from (omega arith) (omega arith)
          c.steim2_word-next.ensures.next.word_is c.loop-group.invariant.told c.loop-group.invariant.written;
      small = λ shared. elim c.if-next-lt2.branch [
        | then-next-lt2+else-next-eq0 w ↦ absurd (let not = w.shared-is in cc)
        | else-next-lt2 w ↦ group_narrow seen c.args.start c.loop-group.at size walked.from walked.within longest
            (omega (arith, w.if-next-lt2.false)) (c.loop-group.invariant.small (let same = w.shared-is in cc))
      ];
    }

pub returns-then-next-eq0 : goal.returns-then-next-eq0
returns-then-next-eq0 c =
    let number = c.data_words-number.result in
    let latest = c.args.start + c.min.result in
    let most : c.most.result ≡ most_of Steim2 c.args.record_length.bytes = c.most.ensures in
    let latest_is : c.args.start + c.min.result
    ≡ latest_end Steim2 c.args.record_length.bytes c.args.samples.now c.args.start = omega arith in
    let xs = drop c.loop-group.at (differences None (take latest c.args.samples.now)) in
    let none : IsLongestGroup xs 0 =
    subst (IsLongestGroup xs) c.if-next-eq0.true c.steim2_word-next.ensures.longest in
    let out = walked_out c.args.record_length.bytes number
    (number - c.loop-group.group) c.args.samples.now c.args.start latest c.loop-group.at c.requires.within
    c.steim2_greedy_reach.ensures
    c.data_words-number.ensures.same latest_is c.loop-group.invariant.walked
    (none_reached (number - c.loop-group.group) xs none)
    c.of_walk.result.end c.of_walk.result.narrow c.of_walk.ensures.end
    (λ t. c.loop-group.invariant.small (c.of_walk.ensures.groups t)) c.of_walk.ensures.after in
    let same = c.data_words-number.ensures.same in
    let groups = c.of_walk.ensures.number in
    let walked = c.loop-group.invariant.walked in
    let long = length-take-le latest c.args.samples.now (omega arith) in
    let within = walked.within in
    record {
      end = out.end_is;
      narrow = out.narrow;
      room_of_sizes = omega arith;
      room_of_words = omega arith;
      sizes = rw (c.of_walk.ensures.end, c.of_walk.ensures.number)
          (walked_sizes c.args.samples.now c.args.start c.loop-group.at latest c.loop-group.group c.loop-group.sizes
          walked.from (omega arith) (omega arith) (omega arith) c.loop-group.invariant.told);
      words = rw (c.of_walk.ensures.end, c.of_walk.ensures.number)
          (walked_words c.args.samples.now c.args.start c.loop-group.at latest c.loop-group.group c.loop-group.sizes
          c.loop-group.words walked.from (omega arith) (omega arith) (omega arith) (omega arith)
          c.loop-group.invariant.told c.loop-group.invariant.written);
    }

pub returns : goal.returns
returns c =
    let number = c.data_words-number.result in
    let latest = c.args.start + c.min.result in
    let most : c.most.result ≡ most_of Steim2 c.args.record_length.bytes = c.most.ensures in
    let latest_is : c.args.start + c.min.result
    ≡ latest_end Steim2 c.args.record_length.bytes c.args.samples.now c.args.start = omega arith in
    let over : 0 ≡ c.data_words-number.result - c.loop-group.group = omega arith in
    let xs = drop c.loop-group.at (differences None (take latest c.args.samples.now)) in
    let stuck : IsGreedyReach (number - c.loop-group.group) xs 0 = subst (λ n. IsGreedyReach n xs 0) over refl in
    let out = walked_out c.args.record_length.bytes number
    (number - c.loop-group.group) c.args.samples.now c.args.start latest c.loop-group.at c.requires.within
    c.steim2_greedy_reach.ensures
    c.data_words-number.ensures.same latest_is c.loop-group.invariant.walked stuck
    c.of_walk-2.result.end c.of_walk-2.result.narrow c.of_walk-2.ensures.end
    (λ t. c.loop-group.invariant.small (c.of_walk-2.ensures.groups t)) c.of_walk-2.ensures.after in
    let same = c.data_words-number.ensures.same in
    let groups = c.of_walk-2.ensures.number in
    let walked = c.loop-group.invariant.walked in
    let seen = take (c.args.start + c.min.result) c.args.samples.now in
    let ds = drop c.args.start (differences None (take (c.args.start + c.min.result) c.args.samples.now)) in
    let long = length-take-le latest c.args.samples.now (omega arith) in
    let within = walked.within in
    let end : c.loop-group.group ≡ c.data_words-number.result = omega arith in
    let told : AreTold ds (c.loop-group.at - c.args.start) c.data_words-number.result c.loop-group.sizes =
    subst (λ n. AreTold ds (c.loop-group.at - c.args.start) n c.loop-group.sizes) end c.loop-group.invariant.told in
    let written : AreWritten ds c.data_words-number.result c.loop-group.sizes c.loop-group.words =
    subst (λ n. AreWritten ds n c.loop-group.sizes c.loop-group.words) end c.loop-group.invariant.written in
    record {
      end = out.end_is;
      narrow = out.narrow;
      room_of_sizes = omega arith;
      room_of_words = omega arith;
      sizes = rw (c.of_walk-2.ensures.end, c.of_walk-2.ensures.number)
          (walked_sizes c.args.samples.now c.args.start c.loop-group.at latest c.data_words-number.result
          c.loop-group.sizes walked.from (omega arith) (omega arith) (omega arith) told);
      words = rw (c.of_walk-2.ensures.end, c.of_walk-2.ensures.number)
          (walked_words c.args.samples.now c.args.start c.loop-group.at latest c.data_words-number.result
          c.loop-group.sizes c.loop-group.words walked.from (omega arith) (omega arith) (omega arith) (omega arith)
          told written);
    }
