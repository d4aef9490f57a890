use Rattle.std.proofs.Common.{arith, ◌≡◌, IsTrue, length, nat_eq}
use Rattle.std.proofs.lemmas.Bool.Decides.{nat_tests}
use Rattle.msr_words.proofs.IntegerBits.{all_leading, leading_all}
use Rattle.msr_words.proofs.integers.all_of_bits.Goals as goal

pub returns : goal.returns
returns c = (
  λ t.
      let same : c.leading_of_bits.result ≡ length c.args.run.now =
      (let h : IsTrue (nat_eq c.leading_of_bits.result (length c.args.run.now)) = t in grind (arith, nat_tests)) in
      leading_all c.args.bits c.args.run.now c.leading_of_bits.result c.leading_of_bits.ensures (omega arith),
  λ all.
      let same = all_leading c.args.bits c.args.run.now c.leading_of_bits.result c.leading_of_bits.ensures all in
      grind (arith, nat_tests),
)
