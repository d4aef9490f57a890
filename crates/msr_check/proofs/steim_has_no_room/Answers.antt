use Rattle.std.proofs.Common.{arith, ◌<◌, ◌*◌, IsTrue, nat_lt}
use Rattle.std.proofs.lemmas.Bool.Decides.{nat_tests}
use Rattle.msr_base.specs.Lengths.{bytes_of}
use Rattle.msr_check.proofs.HoldsBoth.{too_long, too_wide}
use Rattle.msr_check.proofs.steim_has_no_room.Goals as goal

pub returns-then-second-first : goal.returns-then-second-first
returns-then-second-first c t =
    let most = c.most.ensures in
    too_long c.args.samples.now c.args.first c.args.second c.requires.order c.requires.within
    (bytes_of c.args.record_length) (omega arith)

pub returns-then-second-first-2 : goal.returns-then-second-first-2
returns-then-second-first-2 c t =
    let same = c.data_words-most.ensures.same in
    let count = c.count_wide.ensures in
    let more : 2 * c.data_words-most.result < c.count_wide.result =
    (let h : IsTrue (nat_lt (2 * c.data_words-most.result) c.count_wide.result) = t in grind (arith, nat_tests)) in
    too_wide c.args.samples.now c.args.first c.args.second c.requires.order c.requires.within (bytes_of c.args.record_length)
    (omega arith)
