-- One more word was read.
use Rattle.std.proofs.Common.{◌≡◌, ◌≢◌, ◌<◌, ◌+◌, ◌*◌, ◌/◌, ◌%◌, ◌^◌, length, take, arith, ap, refl, subst, ◌∙◌}
use Rattle.std.proofs.lemmas.Bool.{ne_eqb}
use mathlib.Core.Bool.{not}
use Rattle.msr_steim.specs.Area.{IsUndefined, IsUndefinedBefore, arranged_word, constant, word_code}
use Rattle.msr_steim.specs.Sums.{IsWritten, ReachesEnd}
use Rattle.msr_steim.proofs.Beginning.{begins_on, code_here, codes_by, codes_on, end_reached, starts_here}
use Rattle.msr_steim.proofs.FourWords.{AreOnes, four_place, four_reached, ones_within}
use Rattle.msr_steim.proofs.Reading.{IsReached, IsStart, skip_first, slot_bounds, step_enough, step_more, undefined_before, undefined_so}
use Rattle.msr_steim.proofs.area.decode_words.Goals as goal

pub loop-slot-init : goal.loop-slot-init
loop-slot-init g c =
    let at = c.loop-frame.at in
    let out = c.loop-frame.out in
    let area = c.args.area.now in
    let frame = c.loop-frame.frame in
    let from = c.first_slot-slot.result in
    let zeroth = c.first_slot-slot.ensures.first in
    let others = c.first_slot-slot.ensures.others in
    let held = c.loop-frame.invariant in
    let bounds = slot_bounds frame from zeroth others in
    record {
      reached = record {
        read = skip_first c.args.version c.args.order area (length out) frame from (constant c.args.order area 1)
            (take at.place out) zeroth others held.reached.read (omega (arith, c.loop-frame-test.true));
        room = held.reached.room;
        last = held.reached.last;
      };
      begins = held.begins;
      codes = ap (λ n. n * 2 ^ (2 * from) % 4294967296) c.whole_word_at.ensures;
      some = bounds.0;
      late = bounds.1;
      few = bounds.2;
    }

pub write_sixteen-at-requires-clause-within : goal.write_sixteen-at-requires-clause-within
write_sixteen-at-requires-clause-within g c =
    let held = c.loop-slot.invariant in
    let order = c.args.order in
    let area = c.args.area.now in
    (ones_within order area c.loop-frame.frame c.loop-slot.slot c.loop-slot.codes
    (record {
      big = c.requires.2 (ap not (ne_eqb g.row.FOURS 0 c.if-this-ne0.true));
      fits = c.type_inv.area;
      within = c.loop-frame-test.true;
      some = held.some;
      late = held.late;
      same = held.codes;
      ones = c.if-codes-eq85.true;
    })).2

pub loop-slot-preserved-then-at-out : goal.loop-slot-preserved-then-at-out
loop-slot-preserved-then-at-out g c =
    let held = c.loop-slot.invariant in
    let order = c.args.order in
    let area = c.args.area.now in
    let frame = c.loop-frame.frame in
    let slot = c.loop-slot.slot in
    let codes = c.loop-slot.codes in
    let at = c.loop-slot.at in
    let next = c.write_sixteen-at.result in
    let old = c.loop-slot.out in
    let new = c.write_sixteen-at.new.out in
    let are : AreOnes order area frame slot codes = record {
      big = c.requires.2 (ap not (ne_eqb g.row.FOURS 0 c.if-this-ne0.true));
      fits = c.type_inv.area;
      within = c.loop-frame-test.true;
      some = held.some;
      late = held.late;
      same = held.codes;
      ones = c.if-codes-eq85.true;
    } in
    let reached : IsReached c.args.version order area (16 * frame + (slot + 4)) next new =
    four_reached c.args.version order area frame slot codes at next old new are held.reached held.begins
    c.write_sixteen-at.ensures c.write_sixteen-at.auto.out c.if-at-out.true in
    record {
      reached = reached;
      begins = λ none. absurd (omega (
        arith,
        none,
        four_place area frame slot at next old new
            (ones_within order area frame slot codes are).2 c.write_sixteen-at.ensures,
      ));
      codes = codes_by codes _ slot 4 held.codes;
      some = omega arith;
      late = omega (arith, held.late);
      few = (ones_within order area frame slot codes are).0;
    }

pub returns-in-None-clause-fault : goal.returns-in-None-clause-fault
returns-in-None-clause-fault g c =
    let order = c.args.order in
    let area = c.args.area.now in
    let frame = c.loop-frame.frame in
    let slot = c.loop-slot.slot in
    let number = 16 * frame + slot in
    let code = c.loop-slot.codes / 1073741824 in
    let word = c.arranged_word_at-word.result in
    let at = c.loop-slot.at in
    let held = c.loop-slot.invariant in
    let small : slot < 16 = c.loop-slot-test.true in
    let within : number < length area / 64 * 16 = omega (arith, small, c.loop-frame-test.true) in
    let code_is : code ≡ word_code order area number =
    code_here order area frame slot c.loop-slot.codes held.some small held.late held.codes in
    let word_is : word ≡ arranged_word c.args.version order code area number = c.arranged_word_at-word.ensures in
    let undefined : IsUndefined c.args.version order area number =
    undefined_so c.args.version order area number code word code_is word_is (c.in-None.ensures.none refl) in
    subst (λ n. IsUndefinedBefore c.args.version order area n number) (c.loop-slot.auto.out ∙ c.loop-frame.auto.out)
    (undefined_before c.args.version order area (length c.loop-slot.out) number (constant order area 1)
    (take at.place c.loop-slot.out) held.reached.read within undefined)

pub returns-in-Some-write_last_word-clause-samples : goal.returns-in-Some-write_last_word-clause-samples
returns-in-Some-write_last_word-clause-samples g c =
    let order = c.args.order in
    let area = c.args.area.now in
    let frame = c.loop-frame.frame in
    let slot = c.loop-slot.slot in
    let number = 16 * frame + slot in
    let code = c.loop-slot.codes / 1073741824 in
    let word = c.arranged_word_at-word.result in
    let at = c.loop-slot.at in
    let held = c.loop-slot.invariant in
    let small : slot < 16 = c.loop-slot-test.true in
    let within : number < length area / 64 * 16 = omega (arith, small, c.loop-frame-test.true) in
    let code_is : code ≡ word_code order area number =
    code_here order area frame slot c.loop-slot.codes held.some small held.late held.codes in
    let word_is : word ≡ arranged_word c.args.version order code area number = c.arranged_word_at-word.ensures in
    let begin : IsStart c.args.version code word (constant order area 1) at at =
    starts_here c.args.version order area number code word at c.loop-slot.out held.reached held.begins within
    code_is word_is in
    let old = c.loop-slot.out in
    let new = c.write_last_word.new.out in
    let next = c.in-Some-write_last_word.field-0 in
    let same : c.write_next_word.new.out ≡ old = c.in_default.ensures.1 in
    let written : IsWritten c.args.version code word at old new next =
    subst (λ out. IsWritten c.args.version code word at out new next) same c.in-Some-write_last_word.ensures.some in
    let ends : ReachesEnd c.args.version code word at.place (length old) = c.in_default.ensures.0 in
    let size : length new ≡ length old = c.write_last_word.auto.out ∙ ap length same in
    step_enough c.args.version order area number code word at at next old new held.reached begin written code_is
    word_is within size (end_reached c.args.version code word at next old new ends written held.reached.room size)

pub loop-slot-preserved : goal.loop-slot-preserved
loop-slot-preserved g c =
    let order = c.args.order in
    let area = c.args.area.now in
    let frame = c.loop-frame.frame in
    let slot = c.loop-slot.slot in
    let number = 16 * frame + slot in
    let code = c.loop-slot.codes / 1073741824 in
    let word = c.arranged_word_at-word.result in
    let at = c.loop-slot.at in
    let held = c.loop-slot.invariant in
    let small : slot < 16 = c.loop-slot-test.true in
    let within : number < length area / 64 * 16 = omega (arith, small, c.loop-frame-test.true) in
    let code_is : code ≡ word_code order area number =
    code_here order area frame slot c.loop-slot.codes held.some small held.late held.codes in
    let word_is : word ≡ arranged_word c.args.version order code area number = c.arranged_word_at-word.ensures in
    let begin : IsStart c.args.version code word (constant order area 1) at at =
    starts_here c.args.version order area number code word at c.loop-slot.out held.reached held.begins within
    code_is word_is in
    let next = c.in-Some.next in
    let new = c.write_next_word.new.out in
    let inner = c.in-Some.ensures in
    let unlike : next.place ≢ length new = λ e. omega (arith, e, inner.room, c.write_next_word.auto.out) in
    let next_number : number + 1 ≡ 16 * frame + (slot + 1) = omega arith in
    record {
      reached = subst (λ n. IsReached c.args.version order area n next new) next_number
          (step_more c.args.version order area number code word at at next c.loop-slot.out new held.reached begin
          inner.written code_is word_is within c.write_next_word.auto.out unlike);
      begins = begins_on c.args.version order area at next inner.on held.begins;
      codes = codes_on c.loop-slot.codes _ slot held.codes;
      some = omega arith;
      late = omega (arith, held.late);
      few = omega (arith, small);
    }
