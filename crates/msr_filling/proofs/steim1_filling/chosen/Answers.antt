-- All bits are changed, or none.
use Rattle.std.proofs.Common.{◌≡◌, ◌<◌, ◌^◌, ℕ, bit_and, arith, ap, sym, ◌∙◌}
use Rattle.std.proofs.lemmas.Nat.{and_mask, xor_comm, xor_lt}
use Rattle.std.proofs.Math.Nat.{mod-eq_of_lt}
use lib.Bits.{bit_xor, xor_assoc, xor_self, xor_zero_r}
use Rattle.msr_filling.proofs.steim1_filling.chosen.Goals as goal

changed : (first second mask : ℕ) → first < 2 ^ 32 → second < 2 ^ 32 → mask ≡ 4294967295
    → bit_xor first (bit_and (bit_xor first second) mask) ≡ second
changed first second mask a b is =
    let all : bit_and (bit_xor first second) mask ≡ bit_xor first second =
    ap (bit_and (bit_xor first second)) is ∙ and_mask (bit_xor first second) 32
    ∙ mod-eq_of_lt (xor_lt 32 first second a b) in
    ap (bit_xor first) all ∙ sym (xor_assoc first first second) ∙ ap (λ n. bit_xor n second) (xor_self first)
    ∙ xor_comm 0 second ∙ xor_zero_r second

pub returns-clause-second : goal.returns-clause-second
returns-clause-second c is = changed c.args.first c.args.second _ c.ranges.first.fits c.ranges.second.fits (omega (arith, is))
