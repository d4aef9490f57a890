use Rattle.std.proofs.Common.{arith, ◌<◌, ◌*◌, IsTrue, nat_lt}
use Rattle.std.proofs.lemmas.Bool.Decides.{nat_tests}
use Rattle.msr_base.specs.Lengths.{bytes_of}
use Rattle.msr_check.proofs.HoldsBoth.{too_many_halves}
use Rattle.msr_check.proofs.steim2_has_no_room.Goals as goal

pub returns-then-second-first-2 : goal.returns-then-second-first-2
returns-then-second-first-2 c t =
    let same = c.data_words-words.ensures.same in
    let count = c.count_halves.ensures in
    let more : 2 * c.data_words-words.result < c.count_halves.result =
    (let h : IsTrue (nat_lt (2 * c.data_words-words.result) c.count_halves.result) = t in grind (arith, nat_tests)) in
    too_many_halves c.args.samples.now c.args.first c.args.second c.requires.order c.requires.within
    (bytes_of c.args.record_length) (omega arith)
