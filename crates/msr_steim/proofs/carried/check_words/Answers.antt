-- One more word was looked at.
use Rattle.std.proofs.Common.{◌≡◌, ◌<◌, ◌+◌, ◌-◌, ◌*◌, ◌/◌, ◌%◌, ◌^◌, ◌↔◌, IsTrue, Some, slice_get, length, take, to_z, of_z, w32, SFits, rules, arith, ap, refl, sym, subst, ◌∙◌}
use Rattle.std.proofs.lemmas.Bool.{ne_eqb}
use Rattle.std.proofs.lemmas.Int.{to_z-of_z}
use mathlib.Core.Bool.{not}
use Rattle.msr_steim.specs.declared.sums.Progress.{Progress}
use Rattle.msr_steim.specs.Area.{IsUndefined, constant, word_code}
use Rattle.msr_steim.proofs.Beginning.{code_here, codes_by, codes_on}
use Rattle.msr_steim.proofs.Checking.{ArePassed, looked_at, none_passed, passed_enough, passed_on, undefined_alone}
use Rattle.msr_steim.proofs.FourWords.{AreOnes, four_passed, ones_within}
use Rattle.msr_steim.proofs.Reading.{skip_first, slot_bounds, undefined_before, undefined_so}
use Rattle.msr_steim.proofs.carried.check_words.Goals as goal

pub loop-frame-init : goal.loop-frame-init
loop-frame-init g c =
    let last = c.before_first-last.result in
    let fits : SFits w32 last = search rules in
    let begins = none_passed c.args.version c.args.order c.args.area.now c.args.count last c.requires.0
    c.before_first-last.ensures in
    subst (λ left. ArePassed c.args.version c.args.order c.args.area.now 0 c.args.count left
    (to_z w32 (of_z w32 last))) (sym c.from-left.ensures)
    (subst (λ z. ArePassed c.args.version c.args.order c.args.area.now 0 c.args.count c.args.count z)
    (sym (to_z-of_z w32 last fits)) begins)

pub loop-slot-init : goal.loop-slot-init
loop-slot-init g c =
    let area = c.args.area.now in
    let frame = c.loop-frame.frame in
    let from = c.first_slot-slot.result in
    let zeroth = c.first_slot-slot.ensures.first in
    let others = c.first_slot-slot.ensures.others in
    let held = c.loop-frame.invariant in
    let bounds = slot_bounds frame from zeroth others in
    record {
      passed = record {
        samples = held.samples;
        read = skip_first c.args.version c.args.order area c.args.count frame from
            (constant c.args.order area 1) held.samples zeroth others held.read (omega (arith, c.loop-frame-test.true));
        left_is = held.left_is;
        last_is = held.last_is;
        begins = held.begins;
      };
      codes = ap (λ n. n * 2 ^ (2 * from) % 4294967296) c.whole_word_at.ensures;
      some = bounds.0;
      late = bounds.1;
      few = bounds.2;
    }

pub write_sixteen-last-requires-clause-within : goal.write_sixteen-last-requires-clause-within
write_sixteen-last-requires-clause-within g c =
    let held = c.loop-slot.invariant in
    let order = c.args.order in
    let area = c.args.area.now in
    let frame = c.loop-frame.frame in
    let slot = c.loop-slot.slot in
    let codes = c.loop-slot.codes in
    let are : AreOnes order area frame slot codes = record {
      big = c.requires.2 (ap not (ne_eqb g.row.FOURS 0 c.if-this-ne0.true));
      fits = c.type_inv.area;
      within = c.loop-frame-test.true;
      some = held.some;
      late = held.late;
      same = held.codes;
      ones = c.if-codes-eq85.true;
    } in
    (ones_within order area frame slot codes are).2

pub loop-slot-preserved-then-left-gt16 : goal.loop-slot-preserved-then-left-gt16
loop-slot-preserved-then-left-gt16 g c =
    let version = c.args.version in
    let held = c.loop-slot.invariant in
    let order = c.args.order in
    let area = c.args.area.now in
    let frame = c.loop-frame.frame in
    let slot = c.loop-slot.slot in
    let codes = c.loop-slot.codes in
    let count = c.args.count in
    let at : Progress = record { place = 0; last = to_z w32 c.loop-slot.last-bits } in
    let next = c.write_sixteen-last.result in
    let old = c.loop-slot.samples in
    let new = c.write_sixteen-last.new.out in
    let left = c.loop-slot.left - 16 in
    let fits : SFits w32 next.last = search rules in
    let are : AreOnes order area frame slot codes = record {
      big = c.requires.2 (ap not (ne_eqb g.row.FOURS 0 c.if-this-ne0.true));
      fits = c.type_inv.area;
      within = c.loop-frame-test.true;
      some = held.some;
      late = held.late;
      same = held.codes;
      ones = c.if-codes-eq85.true;
    } in
    let on : ArePassed version order area (16 * frame + (slot + 4)) count left next.last =
    four_passed version order area frame slot codes count c.loop-slot.left at next old new are held.passed refl
    c.write_sixteen-last.ensures (omega (arith, c.write_sixteen-last.auto.out, c.if-left-gt16.array_long))
    c.if-left-gt16.true in
    record {
      passed = subst (ArePassed version order area (16 * frame + (slot + 4)) count left)
          (sym (to_z-of_z w32 next.last fits)) on;
      codes = codes_by codes _ slot 4 held.codes;
      some = omega arith;
      late = omega (arith, held.late);
      few = (ones_within order area frame slot codes are).0;
    }

pub returns-in_default-clause-fault : goal.returns-in_default-clause-fault
returns-in_default-clause-fault g c =
    let order = c.args.order in
    let area = c.args.area.now in
    let frame = c.loop-frame.frame in
    let slot = c.loop-slot.slot in
    let number = 16 * frame + slot in
    let code = c.loop-slot.codes / 1073741824 in
    let word = c.arranged_word_at-word.result in
    let held = c.loop-slot.invariant in
    let small : slot < 16 = c.loop-slot-test.true in
    let within : number < length area / 64 * 16 = omega (arith, small, c.loop-frame-test.true) in
    let code_is : code ≡ word_code order area number =
    code_here order area frame slot c.loop-slot.codes held.some small held.late held.codes in
    let undefined : IsUndefined c.args.version order area number =
    undefined_so c.args.version order area number code word code_is c.arranged_word_at-word.ensures
    (undefined_alone c.args.version code word (length c.loop-slot.samples) (omega (arith, c.arranged_word_at-word.array_long))
    (c.in_default.ensures.0)) in
    undefined_before c.args.version order area c.args.count number
    (constant order area 1) held.passed.samples held.passed.read within undefined

pub returns-then-next-left-clause-samples : goal.returns-then-next-left-clause-samples
returns-then-next-left-clause-samples g c =
    let version = c.args.version in
    let order = c.args.order in
    let area = c.args.area.now in
    let frame = c.loop-frame.frame in
    let slot = c.loop-slot.slot in
    let codes = c.loop-slot.codes in
    let word = c.arranged_word_at-word.result in
    let held = c.loop-slot.invariant in
    let at : Progress = record { place = 0; last = to_z w32 c.loop-slot.last-bits } in
    let next = c.in-Some.next in
    let old = c.loop-slot.samples in
    let new = c.write_next_word.new.out in
    let fits : SFits w32 c.constant_at.result = search rules in
    let looked = looked_at version order area frame slot codes word at next old new c.in-Some.ensures refl
    c.write_next_word.auto.out held.some c.loop-slot-test.true held.late c.loop-frame-test.true held.codes
    c.arranged_word_at-word.ensures in
    passed_enough version order area (16 * frame + slot) c.args.count c.loop-slot.left
    (codes / 1073741824) word at next old new held.passed looked
    c.if-next-left.true c.is_last.result (take c.loop-slot.left new) refl
    (subst (λ constant_is. IsTrue c.is_last.result
    ↔ (slice_get (take c.loop-slot.left new) (length (take c.loop-slot.left new) - 1) ≡ Some constant_is))
    (to_z-of_z w32 c.constant_at.result fits ∙ c.constant_at.ensures) c.is_last.ensures)

pub loop-slot-preserved : goal.loop-slot-preserved
loop-slot-preserved g c =
    let version = c.args.version in
    let order = c.args.order in
    let area = c.args.area.now in
    let frame = c.loop-frame.frame in
    let slot = c.loop-slot.slot in
    let codes = c.loop-slot.codes in
    let word = c.arranged_word_at-word.result in
    let held = c.loop-slot.invariant in
    let at : Progress = record { place = 0; last = to_z w32 c.loop-slot.last-bits } in
    let next = c.in-Some.next in
    let old = c.loop-slot.samples in
    let new = c.write_next_word.new.out in
    let left = c.loop-slot.left - next.place in
    let fits : SFits w32 next.last = search rules in
    let looked = looked_at version order area frame slot codes word at next old new c.in-Some.ensures refl
    c.write_next_word.auto.out held.some c.loop-slot-test.true held.late c.loop-frame-test.true held.codes
    c.arranged_word_at-word.ensures in
    let on : ArePassed version order area (16 * frame + slot + 1) c.args.count left next.last =
    passed_on version order area (16 * frame + slot) c.args.count c.loop-slot.left
    (codes / 1073741824) word at next old new held.passed looked c.if-next-left.false in
    let number : 16 * frame + slot + 1 ≡ 16 * frame + (slot + 1) = omega arith in
    record {
      passed = subst (λ n. ArePassed version order area n c.args.count left (to_z w32 (of_z w32 next.last))) number
          (subst (ArePassed version order area (16 * frame + slot + 1) c.args.count left)
          (sym (to_z-of_z w32 next.last fits)) on);
      codes = codes_on codes _ slot held.codes;
      some = omega arith;
      late = omega (arith, held.late);
      few = omega (arith, c.loop-slot-test.true);
    }
