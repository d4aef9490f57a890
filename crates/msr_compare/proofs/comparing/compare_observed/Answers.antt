use Rattle.std.proofs.Common.{[]}
use Rattle.msr_compare.proofs.Taking.{seen_first}
use Rattle.msr_compare.proofs.comparing.compare_observed.Goals as goal

pub answer-requires-clause-begins : goal.answer-requires-clause-begins
answer-requires-clause-begins g c = record {
  settings = c.args.settings;
  taken = record {
    done = [];
    one_taken = seen_first (c.new-one_side.ensures _) c.requires.observer;
    other_taken = (c.new-other_side.ensures _).taken;
  };
}

pub returns : goal.returns
returns g c =
    let a = c.answer.ensures c.args.observer.now c.args.settings (record {
      done = [];
      one_taken = seen_first (c.new-one_side.ensures _) c.requires.observer;
      other_taken = (c.new-other_side.ensures _).taken;
    }) in
    record {
      answer = (a.first, a.second, a.left, a.other_left, a.answers, a.all_seen);
      read_one = a.read_one;
      read_other = a.read_other;
      few_one = a.few_one;
      few_other = a.few_other;
    }
