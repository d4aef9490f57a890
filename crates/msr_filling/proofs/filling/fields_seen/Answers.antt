-- One more field.
use Rattle.std.proofs.Common.{rules, arith, ◌≡◌, ◌<◌, ◌≤◌, ◌+◌, ◌*◌, ◌%◌, ◌++◌, ◌∷◌, [], ◌∙◌, ap, get_or, pos, sym, subst, take, length, of_z, w32, w64, SFits, bit_and}
use Rattle.std.specs.Int.Bits.{bit_xor}
use Rattle.std.proofs.lemmas.Int.{to_z-of_z}
use Rattle.std.proofs.lemmas.List.{take_more}
use Rattle.std.proofs.lemmas.Nat.{pow_pos}
use Rattle.std.proofs.Math.Nat.{mul-le-mul_right}
use Rattle.msr_steim.specs.Word.{FitsBits}
use Rattle.msr_filling.proofs.FillFields.{cut_same, fits_there}
use Rattle.msr_filling.proofs.Offsets.{halves_few, low_word, offset_more, offset_none, offset_word}
use Rattle.msr_filling.proofs.filling.fields_seen.Goals as goal

pub loop-next-init : goal.loop-next-init
loop-next-init c = record { few = pow_pos (0 * c.args.width); same = λ ds seen all. offset_none c.args.width }

pub loop-next-preserved : goal.loop-next-preserved
loop-next-preserved c =
    let width = c.args.width in
    let next = c.loop-next.next in
    let product : (c.loop-next.next + 1) * c.args.width ≤ c.args.size * c.args.width =
    mul-le-mul_right c.args.width (omega arith) in
    let room : (c.loop-next.next + 1) * c.args.width ≤ 32 = omega (arith, c.requires.within) in
    let inv = c.loop-next.invariant in
    record {
      few = halves_few width next c.loop-next.halves c.requires.positive room inv.few;
      same = λ ds seen all.
          let in' : c.args.size ≤ length ds = omega (arith, c.requires.most, seen.long) in
          let small : c.args.width ≤ 32 = omega arith in
          let fits = fits_there c.args.width c.args.size ds c.requires.positive c.requires.within in' all
          c.loop-next.next (omega arith) in
          let cut : SFits w32 c.difference_ahead.result = search rules in
          let here = c.difference_ahead.ensures ds seen
          ∙ cut_same c.args.width (get_or ds c.loop-next.next (pos 0)) c.requires.positive small fits in
          let from : SFits w64 c.from-difference.result = search rules in
          let is : c.from-difference.result ≡ get_or ds c.loop-next.next (pos 0) =
          (simp to_z-of_z at c.from-difference.ensures) ∙ here in
          let bits : c.cast_unsigned.result ≡ of_z w64 c.from-difference.result = c.cast_unsigned.ensures
          ∙ ap (of_z w64) (to_z-of_z w64 c.from-difference.result from) in
          let past : take (c.loop-next.next + 1) ds ≡ take c.loop-next.next ds ++ c.from-difference.result ∷ [] =
          take_more ds c.loop-next.next (pos 0) (omega arith)
          ∙ ap (λ z. take c.loop-next.next ds ++ z ∷ []) (sym is) in
          rw past (offset_more width next c.loop-next.fields c.loop-next.halves c.cast_unsigned.result
          (take c.loop-next.next ds) c.from-difference.result c.requires.positive room inv.few
          (subst (FitsBits c.args.width) (sym is) fits) from bits (inv.same ds seen all));
    }

pub overflow_cast-result : goal.overflow_cast-result
overflow_cast-result c =
    let bound : bit_and (bit_xor ((c.loop-next.fields
    + c.loop-next.halves) % 18446744073709551616) c.loop-next.halves) 4294967295 < 4294967296 =
    low_word (bit_xor ((c.loop-next.fields + c.loop-next.halves) % 18446744073709551616) c.loop-next.halves) in
    search (rules, bound)

pub returns : goal.returns
returns c = record {
  same = λ ds seen fit.
      let all : c.loop-next.next ≡ c.args.size = omega arith in
      ap (bit_and (bit_xor ((c.loop-next.fields
      + c.loop-next.halves) % 18446744073709551616) c.loop-next.halves)) c.from.ensures
      ∙ offset_word c.args.width c.loop-next.next c.args.size c.loop-next.fields c.loop-next.halves ds all
      c.requires.within c.loop-next.invariant.few (c.loop-next.invariant.same ds seen fit);
}
