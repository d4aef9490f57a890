-- By the arms: the code and the top two bits say how the word is laid out.
use Rattle.std.proofs.Common.{◌/◌, refl, arith, lit<, rules}
use Rattle.msr_base.specs.declared.storage.Version.TheVariants.{One}
use Rattle.msr_steim.proofs.Summing.{divided, divided_by, inner_group_done, inner_none_written, steim2_group_done}
use Rattle.msr_steim.proofs.sums.write_inner_word.Goals as goal

pub returns-in-1 : goal.returns-in-1
returns-in-1 c =
    inner_group_done c.args.version c.args.code c.args.word c.args.at c.args.out.now c.write_group.new.out 4 8
    c.write_group.result (divided c.args.version One c.args.code (c.args.word / 1073741824) 1
    (c.args.word / 1073741824) c.in-One.is (omega arith) refl) (lit< tt) (lit< tt) c.write_group.ensures

pub returns-in-2 : goal.returns-in-2
returns-in-2 c =
    inner_group_done c.args.version c.args.code c.args.word c.args.at c.args.out.now c.write_group-in-2.new.out
    2 16 c.write_group-in-2.result (divided c.args.version One c.args.code (c.args.word / 1073741824) 2
    (c.args.word / 1073741824) c.in-One.is (omega arith) refl) (lit< tt) (lit< tt) c.write_group-in-2.ensures

pub returns-in_default : goal.returns-in_default
returns-in_default c =
    inner_group_done c.args.version c.args.code c.args.word c.args.at c.args.out.now
    c.write_group-in_default.new.out 1 32 c.write_group-in_default.result
    (divided c.args.version One c.args.code (c.args.word / 1073741824) 3
    (c.args.word / 1073741824) c.in-One.is (omega arith) refl) (lit< tt) (lit< tt) c.write_group-in_default.ensures

pub returns-in-0-2 : goal.returns-in-0-2
returns-in-0-2 c =
    inner_none_written c.args.version c.args.code c.args.word c.args.at c.args.out.now
    (divided_by c.args.version c.args.code c.args.word 0 c.in-Two.is c.ranges.word.fits
    (omega (arith, c.from.ensures, c.in-0-2.is))) c.requires.room

pub returns-in-1-2 : goal.returns-in-1-2
returns-in-1-2 c =
    inner_none_written c.args.version c.args.code c.args.word c.args.at c.args.out.now
    (divided_by c.args.version c.args.code c.args.word 1 c.in-Two.is c.ranges.word.fits
    (omega (arith, c.from.ensures, c.in-1-2.is))) c.requires.room

pub returns-in-2-2 : goal.returns-in-2-2
returns-in-2-2 c =
    inner_none_written c.args.version c.args.code c.args.word c.args.at c.args.out.now
    (divided_by c.args.version c.args.code c.args.word 2 c.in-Two.is c.ranges.word.fits
    (omega (arith, c.from.ensures, c.in-2-2.is))) c.requires.room

pub returns-in-3 : goal.returns-in-3
returns-in-3 c =
    inner_none_written c.args.version c.args.code c.args.word c.args.at c.args.out.now
    (divided_by c.args.version c.args.code c.args.word 3 c.in-Two.is c.ranges.word.fits
    (omega (arith, c.from.ensures, c.in-3.is))) c.requires.room

pub returns-in-4 : goal.returns-in-4
returns-in-4 c =
    steim2_group_done c.args.version c.args.code c.args.word 4 c.args.at c.args.out.now c.write_group-in-4.new.out
    4 8 c.write_group-in-4.result c.in-Two.is c.ranges.word.fits (omega (arith, c.from.ensures, c.in-4.is))
    refl (lit< tt) (lit< tt) c.write_group-in-4.ensures

pub returns-in-5 : goal.returns-in-5
returns-in-5 c =
    steim2_group_done c.args.version c.args.code c.args.word 5 c.args.at c.args.out.now c.write_group-in-5.new.out
    4 8 c.write_group-in-5.result c.in-Two.is c.ranges.word.fits (omega (arith, c.from.ensures, c.in-5.is))
    refl (lit< tt) (lit< tt) c.write_group-in-5.ensures

pub returns-in-6 : goal.returns-in-6
returns-in-6 c =
    steim2_group_done c.args.version c.args.code c.args.word 6 c.args.at c.args.out.now c.write_group-in-6.new.out
    4 8 c.write_group-in-6.result c.in-Two.is c.ranges.word.fits (omega (arith, c.from.ensures, c.in-6.is))
    refl (lit< tt) (lit< tt) c.write_group-in-6.ensures

pub returns-in-7 : goal.returns-in-7
returns-in-7 c =
    steim2_group_done c.args.version c.args.code c.args.word 7 c.args.at c.args.out.now c.write_group-in-7.new.out
    4 8 c.write_group-in-7.result c.in-Two.is c.ranges.word.fits (omega (arith, c.from.ensures, c.in-7.is))
    refl (lit< tt) (lit< tt) c.write_group-in-7.ensures

pub returns-in-9 : goal.returns-in-9
returns-in-9 c =
    steim2_group_done c.args.version c.args.code c.args.word 9 c.args.at c.args.out.now c.write_group-in-9.new.out
    1 30 c.write_group-in-9.result c.in-Two.is c.ranges.word.fits (omega (arith, c.from.ensures, c.in-9.is))
    refl (lit< tt) (lit< tt) c.write_group-in-9.ensures

pub returns-in-10 : goal.returns-in-10
returns-in-10 c =
    steim2_group_done c.args.version c.args.code c.args.word 10 c.args.at c.args.out.now c.write_group-in-10.new.out
    2 15 c.write_group-in-10.result c.in-Two.is c.ranges.word.fits (omega (arith, c.from.ensures, c.in-10.is))
    refl (lit< tt) (lit< tt) c.write_group-in-10.ensures

pub returns-in-11 : goal.returns-in-11
returns-in-11 c =
    steim2_group_done c.args.version c.args.code c.args.word 11 c.args.at c.args.out.now c.write_group-in-11.new.out
    3 10 c.write_group-in-11.result c.in-Two.is c.ranges.word.fits (omega (arith, c.from.ensures, c.in-11.is))
    refl (lit< tt) (lit< tt) c.write_group-in-11.ensures

pub returns-in-12 : goal.returns-in-12
returns-in-12 c =
    steim2_group_done c.args.version c.args.code c.args.word 12 c.args.at c.args.out.now c.write_group-in-12.new.out
    5 6 c.write_group-in-12.result c.in-Two.is c.ranges.word.fits (omega (arith, c.from.ensures, c.in-12.is))
    refl (lit< tt) (lit< tt) c.write_group-in-12.ensures

pub returns-in-13 : goal.returns-in-13
returns-in-13 c =
    steim2_group_done c.args.version c.args.code c.args.word 13 c.args.at c.args.out.now c.write_group-in-13.new.out
    6 5 c.write_group-in-13.result c.in-Two.is c.ranges.word.fits (omega (arith, c.from.ensures, c.in-13.is))
    refl (lit< tt) (lit< tt) c.write_group-in-13.ensures

pub returns-in-14 : goal.returns-in-14
returns-in-14 c =
    steim2_group_done c.args.version c.args.code c.args.word 14 c.args.at c.args.out.now c.write_group-in-14.new.out
    7 4 c.write_group-in-14.result c.in-Two.is c.ranges.word.fits (omega (arith, c.from.ensures, c.in-14.is))
    refl (lit< tt) (lit< tt) c.write_group-in-14.ensures

pub returns-in-8 : goal.returns-in-8
returns-in-8 c = search rules

pub returns-in-15 : goal.returns-in-15
returns-in-15 c = search rules
