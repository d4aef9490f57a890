-- Word by word, and frame by frame.
use Rattle.std.proofs.Common.{rules, arith, ◌≡◌, ◌<◌, ◌+◌, ◌-◌, ◌*◌, ◌/◌, length, pos, slice_index_or, refl, lit<, sum, take, inl, inr, w32, SFits}
use Rattle.std.proofs.lemmas.Bool.{cases_lt}
use Rattle.std.proofs.lemmas.Int.{to_z-of_z}
use Rattle.msr_base.specs.declared.storage.Version.TheVariants.{Two}
use Rattle.msr_steim.proofs.Filling.{codes_fit}
use Rattle.msr_words.specs.Segment.{differences}
use Rattle.msr_filling.proofs.Fill.{codes_below_more, frame_ends, framed_all, none_more, some_codes}
use Rattle.msr_filling.proofs.FilledAreas.{area_filled}
use Rattle.msr_filling.proofs.GroupsFilled.{after_all, started, words_here}
use Rattle.msr_filling.proofs.ToldFilled.{after_some, told_put, told_there}
use Rattle.msr_filling.proofs.told_filling.fill_steim2_told.Goals as goal

pub loop-frame-init : goal.loop-frame-init
loop-frame-init c = record { few = omega arith; framed = search rules }

pub loop-slot-init : goal.loop-slot-init
loop-slot-init c =
    let here = words_here c.put_constants-from.result (length c.args.sizes.now - c.loop-frame.number) c.min.result
    c.min.ensures c.put_constants-from.ensures.most in
    let few = c.loop-frame.invariant.few in
    let most = here.0 in
    let within = here.1 in
    let fits : SFits w32 (slice_index_or c.args.run.now 0 (pos 0)) = search rules in
    let fits' : SFits w32 (slice_index_or c.args.run.now (length c.args.run.now - 1) (pos 0)) = search rules in
    record {
      most = most;
      before_end = omega arith;
      enough = omega arith;
      all = λ h. omega (arith, here.2 h);
      small = some_codes (c.put_constants-from.result + 1);
      high = elim (cases_lt 0 c.loop-frame.frame) [
        | inl later ↦ omega arith
        | inr none ↦ (let put = c.put_constants-from.ensures.first (omega arith) in let two = put.0 in omega arith)
      ];
      filled = λ gs chosen.
          started Two gs (differences c.args.before c.args.run.now) (slice_index_or c.args.run.now 0 (pos 0))
          (slice_index_or c.args.run.now (length c.args.run.now - 1) (pos 0)) c.loop-frame.frame
          (sum (take c.loop-frame.number c.args.sizes.now)) c.loop-frame.number c.args.area.now c.loop-frame.area
          c.put_word.new.area c.put_constants-from.new.area c.put_constants-from.result c.cast_unsigned-first.result
          c.cast_unsigned-last.result (c.loop-frame.invariant.framed gs chosen) c.put_word.ensures
          (simp to_z-of_z at c.cast_unsigned-first.ensures) (simp to_z-of_z at c.cast_unsigned-last.ensures)
          c.put_constants-from.ensures.first c.put_constants-from.ensures.others;
    }

pub code_of-requires-clause-full : goal.code_of-requires-clause-full
code_of-requires-clause-full c =
    (told_there c.args.before c.args.run.now c.args.sizes.now c.loop-slot.number c.requires.sizes
    (omega (arith, c.loop-slot.invariant.enough, c.loop-slot-test.true))).full

pub code_of-requires-clause-most : goal.code_of-requires-clause-most
code_of-requires-clause-most c =
    (told_there c.args.before c.args.run.now c.args.sizes.now c.loop-slot.number c.requires.sizes
    (omega (arith, c.loop-slot.invariant.enough, c.loop-slot-test.true))).most

pub overflow_mul-codes : goal.overflow_mul-codes
overflow_mul-codes c =
    let inv = c.loop-slot.invariant in
    let bound : c.loop-slot.codes < 1073741824 =
    codes_fit c.loop-slot.codes (c.loop-slot.slot + 1) inv.small (omega (arith, c.loop-slot-test.true, inv.most)) in
    search (rules, bound)

pub overflow_add-codes : goal.overflow_add-codes
overflow_add-codes c =
    let inv = c.loop-slot.invariant in
    let bound : c.loop-slot.codes < 1073741824 =
    codes_fit c.loop-slot.codes (c.loop-slot.slot + 1) inv.small (omega (arith, c.loop-slot-test.true, inv.most)) in
    let more : c.loop-slot.codes * 4 + c.code_of.result < 4294967296 = omega (arith, c.code_of.ensures.small) in
    search (rules, more)

pub loop-slot-preserved : goal.loop-slot-preserved
loop-slot-preserved c =
    let inv = c.loop-slot.invariant in
    let enough = inv.enough in
    let less : c.loop-slot.number < length c.args.sizes.now = omega (arith, c.loop-slot-test.true) in
    record {
      most = inv.most;
      before_end = omega (arith, c.loop-slot-test.true);
      enough = omega (arith, c.loop-slot-test.true);
      all = λ h. omega (arith, inv.all h, c.loop-slot-test.true);
      small = codes_below_more c.loop-slot.codes c.code_of.result (c.loop-slot.slot + 1) inv.small
          c.code_of.ensures.small refl;
      high = omega (arith, inv.high);
      filled = λ gs chosen.
          told_put c.args.before c.args.run.now c.args.sizes.now c.loop-slot.number c.requires.sizes less
          c.args.words.now c.requires.words gs (slice_index_or c.args.run.now 0 (pos 0))
          (slice_index_or c.args.run.now (length c.args.run.now - 1) (pos 0)) c.loop-frame.frame c.loop-slot.slot
          c.loop-slot.codes c.code_of.result c.args.area.now c.loop-slot.area c.put_word-in-loop-slot.new.area
          (inv.filled gs chosen) (omega (arith, c.loop-slot-test.true, inv.most)) inv.high c.code_of.ensures.code
          c.put_word-in-loop-slot.ensures;
    }

pub loop-spare-init : goal.loop-spare-init
loop-spare-init c =
    let inv = c.loop-slot.invariant in
    let end : c.loop-slot.slot ≡ c.put_constants-from.result + c.min.result =
    omega (arith, inv.before_end, c.loop-slot-test.false) in
    rw (← end) (record { small = inv.small; high = inv.high; filled = inv.filled })

pub overflow_mul-codes-in-loop-spare : goal.overflow_mul-codes-in-loop-spare
overflow_mul-codes-in-loop-spare c =
    let bound : c.loop-spare.codes < 1073741824 =
    codes_fit c.loop-spare.codes (c.loop-spare.spare + 1) c.loop-spare.invariant.small
    (omega (arith, c.loop-spare-test.true)) in
    search (rules, bound)

pub loop-spare-preserved : goal.loop-spare-preserved
loop-spare-preserved c =
    let inv = c.loop-spare.invariant in
    let before = c.loop-slot.invariant in
    let end : c.loop-slot.slot ≡ c.put_constants-from.result + c.min.result =
    omega (arith, before.before_end, c.loop-slot-test.false) in
    let all : c.loop-slot.number ≡ length c.args.sizes.now =
    omega (arith, before.all (omega (arith, c.loop-spare-test.true))) in
    let none = after_all c.args.before c.args.run.now c.args.sizes.now c.loop-slot.number
    (sum (take c.loop-slot.number c.args.sizes.now)) c.requires.sizes
    (after_some c.args.sizes.now c.loop-slot.number (omega arith)) all in
    record {
      small = codes_below_more c.loop-spare.codes 0 (c.loop-spare.spare + 1) inv.small (lit< tt) (omega arith);
      high = omega (arith, inv.high);
      filled = λ gs chosen.
          none_more Two gs (differences c.args.before c.args.run.now) (slice_index_or c.args.run.now 0 (pos 0))
          (slice_index_or c.args.run.now (length c.args.run.now - 1) (pos 0)) c.loop-frame.frame
          (sum (take c.loop-slot.number c.args.sizes.now)) c.loop-slot.number c.args.area.now c.loop-spare.area
          c.put_word-in-loop-spare.new.area c.loop-spare.spare c.loop-spare.codes (inv.filled gs chosen)
          c.loop-spare-test.true inv.high none c.put_word-in-loop-spare.ensures;
    }

pub loop-frame-preserved : goal.loop-frame-preserved
loop-frame-preserved c =
    let inv = c.loop-spare.invariant in
    let most = c.loop-slot.invariant.most in
    let all : c.loop-spare.spare ≡ 15 = omega (arith, c.loop-spare-test.false) in
    record {
      few = omega (arith, c.loop-slot.invariant.enough);
      framed = λ gs chosen.
          frame_ends Two gs (differences c.args.before c.args.run.now) (slice_index_or c.args.run.now 0 (pos 0))
          (slice_index_or c.args.run.now (length c.args.run.now - 1) (pos 0)) c.loop-frame.frame
          (sum (take c.loop-slot.number c.args.sizes.now)) c.loop-slot.number c.args.area.now c.loop-spare.area
          c.put_word-in-loop-frame.new.area c.loop-spare.spare c.loop-spare.codes all (inv.filled gs chosen)
          c.put_word-in-loop-frame.ensures;
    }

pub returns : goal.returns
returns c = record {
  filled = λ can.
      let all : c.loop-frame.frame ≡ length c.args.area.now / 64 = omega arith in
      let whole : length c.args.area.now ≡ 64 * (length c.args.area.now / 64) = omega (arith, c.requires.frames) in
      area_filled Two c.args.before c.args.run.now (length c.args.area.now / 64) c.loop-frame.area
      c.loop-frame.number c.requires.some can
      (λ gs chosen room. framed_all Two gs (differences c.args.before c.args.run.now)
      (slice_index_or c.args.run.now 0 (pos 0)) (slice_index_or c.args.run.now (length c.args.run.now - 1) (pos 0))
      c.loop-frame.frame (length c.args.area.now / 64) (sum (take c.loop-frame.number c.args.sizes.now))
      c.loop-frame.number c.args.area.now c.loop-frame.area all (c.loop-frame.invariant.framed gs chosen) whole room);
}
