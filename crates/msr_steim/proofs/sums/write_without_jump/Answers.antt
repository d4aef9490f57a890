-- One field or two, by the code.
use Rattle.std.proofs.Common.{◌≡◌, ◌≤◌, ◌+◌, ◌*◌, ◌/◌, ◌%◌, refl, arith, lit<, inl, inr}
use Rattle.std.specs.Prelude.{IsSomeAnd}
use Rattle.std.proofs.lemmas.Bool.{cases_lt}
use Rattle.msr_base.specs.declared.storage.Version.TheVariants.{One, Two}
use Rattle.msr_steim.specs.Word.{layout_of}
use Rattle.msr_steim.proofs.Summing.{divided, divided_by, inner_group_written, laid_out_written}
use Rattle.msr_steim.proofs.sums.write_without_jump.Goals as goal

pub returns-else-at-out : goal.returns-else-at-out
returns-else-at-out c =
    let top = c.args.word / 1073741824 in
    elim (cases_lt c.args.code 3) [
      | inl less ↦
          let code_is : c.args.code ≡ 2 = omega arith in
          inner_group_written c.args.version c.args.code c.args.word c.args.at c.args.out.now c.write_pair.new.out 2 16
          c.write_pair.result (divided c.args.version One c.args.code top 2 top c.in-One.is code_is refl)
          (lit< tt) (lit< tt) (c.write_pair.ensures.two code_is)
      | inr more ↦
          let code_is : c.args.code ≡ 3 = omega (arith, c.requires.code) in
          inner_group_written c.args.version c.args.code c.args.word c.args.at c.args.out.now c.write_pair.new.out 1 32
          c.write_pair.result (divided c.args.version One c.args.code top 3 top c.in-One.is code_is refl)
          (lit< tt) (lit< tt) (c.write_pair.ensures.one code_is)
    ]

pub returns-else-at-out-2 : goal.returns-else-at-out-2
returns-else-at-out-2 c =
    let key = 4 * c.args.code + c.args.word / 1073741824 in
    let same : 4 * c.from.result + c.args.word / 1073741824 ≡ key = omega (arith, c.from.ensures) in
    let layout : layout_of c.args.version c.args.code (c.args.word / 1073741824) ≡ layout_of Two (key / 4) (key % 4) =
    divided_by c.args.version c.args.code c.args.word key c.in-Two.is c.ranges.word.fits refl in
    let many : IsSomeAnd (layout_of Two (key / 4) (key % 4)) (λ l. 3 ≤ l.count) =
    rw same at c.has_lanes.ensures c.if-not-has_lanes.false in
    laid_out_written c.args.version c.args.code c.args.word c.args.at c.args.out.now c.write_lanes.new.out
    c.write_lanes.result (layout_of Two (key / 4) (key % 4)) layout many (rw same at c.write_lanes.ensures)
