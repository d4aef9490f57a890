use Rattle.std.proofs.Common.{rules}
use Rattle.msr_making.proofs.Days.{placed_refused, placed_was}
use Rattle.msr_making.proofs.writing.repack_to.Goals as goal

pub returns-in-Err-clause-told : goal.returns-in-Err-clause-told
returns-in-Err-clause-told g c =
    let does = c.in-Err.ensures.repacks in
    placed_was c.args.asked.now does.input does.written does.told c.in-Err.why does.answers

pub returns-in-Err-clause-goes : goal.returns-in-Err-clause-goes
returns-in-Err-clause-goes g c =
    let does = c.in-Err.ensures.repacks in
    record {
      input = does.input;
      written = does.written;
      told = does.told;
      left = does.left;
      wrote = does.wrote;
      told_all = does.told_all;
      answers = placed_refused c.args.asked.now c.args.bytes_read does.input does.written does.told c.in-Err.why does.answers;
    }

pub returns-then-repacked-clause-goes : goal.returns-then-repacked-clause-goes
returns-then-repacked-clause-goes g c =
    let does = c.in-Ok.ensures.repacks in
    record {
      input = does.input;
      written = does.written;
      told = does.told;
      left = does.left;
      wrote = does.wrote;
      told_all = does.told_all;
      answers = record {
        counted = does.answers.counted;
        belong = does.answers.belong;
        read = c.in-Ok.ensures.read;
        only_smaller = search rules;
        larger = search rules;
      };
    }

pub returns-clause-goes : goal.returns-clause-goes
returns-clause-goes g c =
    let does = c.in-Ok.ensures.repacks in
    record {
      input = does.input;
      written = does.written;
      told = does.told;
      left = does.left;
      wrote = does.wrote;
      told_all = does.told_all;
      answers = record {
        counted = does.answers.counted;
        belong = does.answers.belong;
        read = c.in-Ok.ensures.read;
        smaller = search rules;
      };
    }
