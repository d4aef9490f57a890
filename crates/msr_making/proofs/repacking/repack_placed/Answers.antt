use Rattle.msr_making.proofs.Days.{placed_stops}
use Rattle.msr_making.proofs.repacking.repack_placed.Goals as goal

pub returns-in-Err-clause-repacks : goal.returns-in-Err-clause-repacks
returns-in-Err-clause-repacks g c = placed_stops c.args.asked.now _ _ _ _ _ c.in-Err.fault c.in-Err.ensures.answer

pub returns-in-Some-clause-repacks : goal.returns-in-Some-clause-repacks
returns-in-Some-clause-repacks g c =
    let does = c.in-Ok.ensures.answer in
    record {
      input = does.input;
      written = does.written;
      told = does.told;
      left = does.left;
      wrote = does.wrote;
      told_all = does.told_all;
      answers = record { report = c.in-Ok.report; reported = does.answers; is = rw c.in-Some.is at c.misplaced.ensures };
    }

pub returns-clause-repacks : goal.returns-clause-repacks
returns-clause-repacks g c =
    let does = c.in-Ok.ensures.answer in
    record {
      input = does.input;
      written = does.written;
      told = does.told;
      left = does.left;
      wrote = does.wrote;
      told_all = does.told_all;
      answers = record {
        counted = record {
          report = c.in-Ok.report;
          reported = does.answers;
          read = c.counted.ensures.read;
          written = c.counted.ensures.written;
          bytes = c.counted.ensures.bytes;
          samples = c.counted.ensures.samples;
        };
        belong = rw c.in_default.is at c.misplaced.ensures;
      };
    }
