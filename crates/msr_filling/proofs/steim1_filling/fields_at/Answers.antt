-- One more field.
use Rattle.std.proofs.Common.{rules, arith, ◌≡◌, ◌<◌, ◌≤◌, ◌+◌, ◌-◌, ◌*◌, ◌%◌, ◌++◌, ◌∷◌, [], ◌∙◌, ap, get_or, pos, sym, subst, take, drop, length, of_z, to_z, w32, w64, SFits, bit_and}
use Rattle.std.specs.Int.{int_wrap}
use Rattle.std.specs.Int.Bits.{bit_xor}
use Rattle.std.proofs.lemmas.Int.{to_z-of_z, wrapping_sub_is}
use Rattle.std.proofs.lemmas.List.{length-drop, take_more}
use Rattle.std.proofs.lemmas.Nat.{pow_pos}
use Rattle.std.proofs.Math.Nat.{mul-le-mul_right}
use Rattle.msr_steim.specs.Word.{FitsBits}
use Rattle.msr_words.specs.Segment.{differences}
use Rattle.msr_words.proofs.Plain.{length-differences}
use Rattle.msr_filling.proofs.FillFields.{cut_same, fits_there}
use Rattle.msr_filling.proofs.GroupsFilled.{later_difference}
use Rattle.msr_filling.proofs.Offsets.{halves_few, low_word, offset_more, offset_none, offset_word}
use Rattle.msr_filling.proofs.steim1_filling.fields_at.Goals as goal

pub loop-next-init : goal.loop-next-init
loop-next-init c = record { few = pow_pos (0 * c.args.width); same = λ before all. offset_none c.args.width }

pub loop-next-preserved : goal.loop-next-preserved
loop-next-preserved c =
    let width = c.args.width in
    let next = c.loop-next.next in
    let run = c.args.run.now in
    let product : (c.loop-next.next + 1) * c.args.width ≤ c.args.size * c.args.width =
    mul-le-mul_right c.args.width (omega arith) in
    let room : (c.loop-next.next + 1) * c.args.width ≤ 32 = omega (arith, c.requires.within) in
    let inv = c.loop-next.invariant in
    record {
      few = halves_few width next c.loop-next.halves c.requires.positive room inv.few;
      same = λ before all.
          let ds = drop c.args.at (differences before c.args.run.now) in
          let long = length-differences before c.args.run.now in
          let l = length-drop c.args.at (differences before c.args.run.now) in
          let in' : c.args.size ≤ length (drop c.args.at (differences before c.args.run.now)) =
          omega (arith, c.requires.room) in
          let small : c.args.width ≤ 32 = omega arith in
          let fits = fits_there c.args.width c.args.size ds c.requires.positive c.requires.within in' all
          c.loop-next.next (omega arith) in
          let sample = get_or c.args.run.now (c.args.at + c.loop-next.next) (pos 0) in
          let previous = get_or c.args.run.now (c.args.at + c.loop-next.next - 1) (pos 0) in
          let s : SFits w32 (get_or c.args.run.now (c.args.at + c.loop-next.next) (pos 0)) = search rules in
          let p : SFits w32 (get_or c.args.run.now (c.args.at + c.loop-next.next - 1) (pos 0)) = search rules in
          let is = later_difference before run c.args.at next c.requires.later (omega (arith, c.requires.room)) in
          let wrapped : to_z w32 ((of_z w32 (get_or c.args.run.now (c.args.at + c.loop-next.next) (pos 0))
          + (4294967296 - of_z w32 (get_or c.args.run.now (c.args.at + c.loop-next.next - 1) (pos 0)))) % 4294967296)
          ≡ get_or ds c.loop-next.next (pos 0) =
          wrapping_sub_is w32 sample previous s p ∙ ap (int_wrap w32) (sym is)
          ∙ cut_same c.args.width (get_or ds c.loop-next.next (pos 0)) c.requires.positive small fits in
          let here : c.from-difference.result ≡ get_or ds c.loop-next.next (pos 0) =
          c.from-difference.ensures ∙ wrapped in
          let from : SFits w64 c.from-difference.result = search rules in
          let bits : c.cast_unsigned.result ≡ of_z w64 c.from-difference.result = c.cast_unsigned.ensures
          ∙ ap (of_z w64) (to_z-of_z w64 c.from-difference.result from) in
          let past : take (c.loop-next.next + 1) ds ≡ take c.loop-next.next ds ++ c.from-difference.result ∷ [] =
          take_more ds c.loop-next.next (pos 0) (omega arith)
          ∙ ap (λ z. take c.loop-next.next ds ++ z ∷ []) (sym here) in
          rw past (offset_more width next c.loop-next.fields c.loop-next.halves c.cast_unsigned.result
          (take c.loop-next.next ds) c.from-difference.result c.requires.positive room inv.few
          (subst (FitsBits c.args.width) (sym here) fits) from bits (inv.same before all));
    }

pub overflow_cast-result : goal.overflow_cast-result
overflow_cast-result c =
    let bound : bit_and (bit_xor ((c.loop-next.fields
    + c.loop-next.halves) % 18446744073709551616) c.loop-next.halves) 4294967295 < 4294967296 =
    low_word (bit_xor ((c.loop-next.fields + c.loop-next.halves) % 18446744073709551616) c.loop-next.halves) in
    search (rules, bound)

pub returns : goal.returns
returns c = record {
  same = λ before fit.
      let all : c.loop-next.next ≡ c.args.size = omega arith in
      ap (bit_and (bit_xor ((c.loop-next.fields
      + c.loop-next.halves) % 18446744073709551616) c.loop-next.halves)) c.from.ensures
      ∙ offset_word c.args.width c.loop-next.next c.args.size c.loop-next.fields c.loop-next.halves
      (drop c.args.at (differences before c.args.run.now)) all
      c.requires.within c.loop-next.invariant.few (c.loop-next.invariant.same before fit);
}
