-- Eight sums, and eight more.
use Rattle.std.proofs.Common.{◌+◌, subst, map, take, drop, arith}
use Rattle.msr_steim.specs.Sums.{AreSumsWritten}
use Rattle.msr_steim.specs.Word.{signed_of}
use Rattle.msr_steim.proofs.ByteSums.{both_written, eight_at, sixteen_at}
use Rattle.msr_steim.proofs.fours.write_sixteen.Goals as goal

pub returns : goal.returns
returns c =
    let area = c.args.area.now in
    let from = c.args.from in
    let half = c.write_eight-half in
    subst (λ ds. AreSumsWritten ds c.args.at c.args.out.now c.write_eight.new.out c.write_eight.result)
    (sixteen_at from area) (both_written (map (signed_of 8) (take 8 (drop from area)))
    (map (signed_of 8) (take 8 (drop (from + 8) area))) c.args.at c.args.out.now half.new.out half.result
    c.write_eight.new.out c.write_eight.result (omega (arith, eight_at from area (omega (arith, c.requires.within))))
    (omega (arith, c.requires.room)) half.ensures c.write_eight.ensures)
