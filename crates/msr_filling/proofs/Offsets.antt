-- Fields as one sum of signed numbers: with half of each field's range added they are side by side without a loan.
use Rattle.std.proofs.Common.{◌≡◌, ◌<◌, ◌≤◌, ℕ, suc, ◌+◌, ◌-◌, ◌*◌, ◌/◌, ◌%◌, ◌^◌, ℤ, pos, negsuc, List, [], ◌∷◌, ◌++◌, sym, ap, ◌∙◌, subst, arith, w64, SFits, of_z, bit_or, bit_and, take, refl, inl, inr, lit<}
use Rattle.std.specs.Int.{bit_at}
use Rattle.std.specs.Int.Bits.{bit_xor, xor_zero_r, xor_self}
use Rattle.std.proofs.lemmas.Bool.{cases_lt}
use Rattle.std.proofs.lemmas.Nat.{and_mask, pow_pos, pow-add, xor_lt}
use Rattle.std.proofs.lemmas.Nat.Bits.{bit_at_xor, bit_at_cat_low, bit_at_cat_high, same_from_bits}
use Rattle.std.proofs.Math.Nat.{mul-le-mul_right, pow-le-pow_right}
use Rattle.msr_steim.specs.Word.{FitsBits, joined_fields, twos_complement}
use Rattle.msr_steim.proofs.Fields.{joined_fields_push, power_is_half, push_field}

xor_cat : (a b k c d : ℕ) → c < 2 ^ k → d < 2 ^ k
    → bit_xor (a * 2 ^ k + c) (b * 2 ^ k + d) ≡ bit_xor a b * 2 ^ k + bit_xor c d
xor_cat a b k c d small small' = same_from_bits (bit_xor (a * 2 ^ k + c) (b * 2 ^ k + d))
    (bit_xor a b * 2 ^ k + bit_xor c d) each
  where
    each : (i : ℕ) → bit_at (bit_xor (a * 2 ^ k + c) (b * 2 ^ k + d)) i ≡ bit_at (bit_xor a b * 2 ^ k + bit_xor c d) i
    each i = elim (cases_lt i k) [
      | inl low ↦
          bit_at_xor (a * 2 ^ k + c) (b * 2 ^ k + d) i
          ∙ ap (λ n. (n + bit_at (b * 2 ^ k + d) i) % 2) (bit_at_cat_low a k c i low)
          ∙ ap (λ n. (bit_at c i + n) % 2) (bit_at_cat_low b k d i low)
          ∙ sym (bit_at_xor c d i) ∙ sym (bit_at_cat_low (bit_xor a b) k (bit_xor c d) i low)
      | inr high ↦
          bit_at_xor (a * 2 ^ k + c) (b * 2 ^ k + d) i
          ∙ ap (λ n. (n + bit_at (b * 2 ^ k + d) i) % 2) (bit_at_cat_high a k c i small high)
          ∙ ap (λ n. (bit_at a (i - k) + n) % 2) (bit_at_cat_high b k d i small' high)
          ∙ sym (bit_at_xor a b (i - k)) ∙ sym (bit_at_cat_high (bit_xor a b) k (bit_xor c d) i
          (xor_lt k c d small small') high)
    ]

-- a number in a field that begins half its range below 0
abbrev offset : ℕ → ℤ → ℕ
offset width (pos n) = 2 ^ (width - 1) + n
offset width (negsuc n) = 2 ^ (width - 1) - suc n

offset_small : (width : ℕ) (z : ℤ) → 0 < width → FitsBits width z → offset width z < 2 ^ width
offset_small width (pos n) positive fits = let half = power_is_half width positive in omega arith
offset_small width (negsuc n) positive fits = let half = power_is_half width positive in omega arith

offset_turned : (width : ℕ) (z : ℤ) → 0 < width → FitsBits width z
    → bit_xor (offset width z) (2 ^ (width - 1)) ≡ twos_complement width z
offset_turned width (pos n) positive fits =
    let some : 0 < 2 ^ (width - 1) = pow_pos (width - 1) in
    let one : 1 * 2 ^ (width - 1) + n ≡ 2 ^ (width - 1) + n = omega arith in
    let half : 1 * 2 ^ (width - 1) + 0 ≡ 2 ^ (width - 1) = omega arith in
    let none : 0 * 2 ^ (width - 1) + n ≡ n = omega arith in
    ap (λ m. bit_xor m (2 ^ (width - 1))) (sym one) ∙ ap (bit_xor (1 * 2 ^ (width - 1) + n)) (sym half)
    ∙ xor_cat 1 1 (width - 1) n 0 fits some
    ∙ ap (λ m. m * 2 ^ (width - 1) + bit_xor n 0) (xor_self 1) ∙ ap (λ m. 0 * 2 ^ (width - 1) + m) (xor_zero_r n) ∙ none
offset_turned width (negsuc n) positive fits =
    let some : 0 < 2 ^ (width - 1) = pow_pos (width - 1) in
    let low : 2 ^ (width - 1) - suc n < 2 ^ (width - 1) = omega arith in
    let none : 0 * 2 ^ (width - 1) + (2 ^ (width - 1) - suc n) ≡ 2 ^ (width - 1) - suc n = omega arith in
    let half : 1 * 2 ^ (width - 1) + 0 ≡ 2 ^ (width - 1) = omega arith in
    let twice = power_is_half width positive in
    let all : 1 * 2 ^ (width - 1) + (2 ^ (width - 1) - suc n) ≡ 2 ^ width - suc n = omega arith in
    ap (λ m. bit_xor m (2 ^ (width - 1))) (sym none)
    ∙ ap (bit_xor (0 * 2 ^ (width - 1) + (2 ^ (width - 1) - suc n))) (sym half)
    ∙ xor_cat 0 1 (width - 1) (2 ^ (width - 1) - suc n) 0 low some
    ∙ ap (λ m. 1 * 2 ^ (width - 1) + m) (xor_zero_r (2 ^ (width - 1) - suc n)) ∙ all

-- in two's complement a number with half its field's range added is its offset
offset_bits : (width : ℕ) (z : ℤ) → width ≤ 32 → SFits w64 z → FitsBits width z
    → (k : ℕ) × (of_z w64 z + 2 ^ (width - 1) ≡ k * 18446744073709551616 + offset width z)
offset_bits width (pos n) small sfits fits = (0, omega arith)
offset_bits width (negsuc n) small sfits fits =
    let few : n < 9223372036854775808 = sfits.sfits in
    (1, omega arith)

sum_is : (a b q r bits half o k : ℕ) → a + b ≡ q * 18446744073709551616 + r
    → bits + half ≡ k * 18446744073709551616 + o → r + o < 18446744073709551616
    → ((a % 18446744073709551616 + bits) % 18446744073709551616 + (b + half)) % 18446744073709551616 ≡ r + o
sum_is a b q r bits half o k e f small = omega arith

pub half_is : (width : ℕ) → width ≤ 32 → (1 * 2 ^ (width - 1)) % 18446744073709551616 ≡ 2 ^ (width - 1)
half_is width small =
    let few : 2 ^ (width - 1) ≤ 2 ^ 31 = pow-le-pow_right {n = 2} (lit< tt) {i = width - 1} {j = 31} (omega arith) in
    omega arith

-- `fields` is the sum of these numbers in `i` fields, and `halves` that of half of each field's
-- range
pub record IsOffset (width i fields halves : ℕ) (xs : List ℤ) : Type 0 where
  pub few : (fields + halves) % 18446744073709551616 < 2 ^ (i * width)
  pub same : bit_xor ((fields + halves) % 18446744073709551616) halves ≡ joined_fields width xs

pub offset_none : (width : ℕ) → IsOffset width 0 0 0 []
offset_none width = record { few = pow_pos (0 * width); same = refl }

pub halves_more : (width i halves : ℕ) → 0 < width → (i + 1) * width ≤ 32 → halves < 2 ^ (i * width)
    → bit_or ((halves * 2 ^ width) % 18446744073709551616) ((1 * 2 ^ (width - 1)) % 18446744073709551616)
    ≡ halves * 2 ^ width + 2 ^ (width - 1)
halves_more width i halves positive room few =
    let half = power_is_half width positive in
    let some : 0 < 2 ^ (width - 1) = pow_pos (width - 1) in
    ap (bit_or ((halves * 2 ^ width) % 18446744073709551616)) (half_is width (omega arith))
    ∙ push_field width i halves (2 ^ (width - 1)) few room (omega arith)

more_few : (width i a field : ℕ) → a < 2 ^ (i * width) → field < 2 ^ width
    → a * 2 ^ width + field < 2 ^ ((i + 1) * width)
more_few width i a field few one =
    let e : i * width + width ≡ (i + 1) * width = omega arith in
    let product : 2 ^ ((i + 1) * width) ≡ 2 ^ (i * width) * 2 ^ width = ap (λ n. 2 ^ n) (sym e)
    ∙ pow-add 2 (i * width) width in
    let more : suc a * 2 ^ width ≤ 2 ^ (i * width) * 2 ^ width = mul-le-mul_right (2 ^ width) (omega arith) in
    omega arith

pub halves_few : (width i halves : ℕ) → 0 < width → (i + 1) * width ≤ 32 → halves < 2 ^ (i * width)
    → bit_or ((halves * 2 ^ width) % 18446744073709551616) ((1 * 2 ^ (width - 1)) % 18446744073709551616) < 2 ^
    ((i + 1) * width)
halves_few width i halves positive room few =
    let half = power_is_half width positive in
    let some : 0 < 2 ^ (width - 1) = pow_pos (width - 1) in
    let is = halves_more width i halves positive room few in
    let less = more_few width i halves (2 ^ (width - 1)) few (omega arith) in
    subst (λ n. n < 2 ^ ((i + 1) * width)) (sym is) less

module _ (width i fields halves bits : ℕ) (xs : List ℤ) (z : ℤ) (positive : 0 < width)
    (room : (i + 1) * width ≤ 32) (few : halves < 2 ^ (i * width)) (fits : FitsBits width z) (sfits : SFits w64 z)
    (bits_is : bits ≡ of_z w64 z)
    (is : IsOffset width i fields halves xs) where
  sum_more : (((fields * 2 ^ width) % 18446744073709551616 + bits) % 18446744073709551616 +
      (halves * 2 ^ width + 2 ^ (width - 1))) % 18446744073709551616
      ≡ ((fields + halves) % 18446744073709551616) * 2 ^ width + offset width z
  sum_more =
      let o = offset_bits width z (omega arith) sfits fits in
      let s = fields + halves in
      let split : fields + halves ≡ (fields + halves) / 18446744073709551616 * 18446744073709551616 +
      (fields + halves) % 18446744073709551616 = omega arith in
      let whole : fields * 2 ^ width + halves * 2 ^ width
      ≡ ((fields + halves) / 18446744073709551616 * 2 ^ width) * 18446744073709551616 +
      ((fields + halves) % 18446744073709551616) * 2 ^ width =
      scaled fields halves ((fields + halves) / 18446744073709551616) ((fields + halves) % 18446744073709551616)
      (2 ^ width) split in
      let bits' : bits + 2 ^ (width - 1) ≡ o.0 * 18446744073709551616 + offset width z =
      ap (λ n. n + 2 ^ (width - 1)) bits_is ∙ o.1 in
      let less = more_few width i ((fields + halves) % 18446744073709551616) (offset width z) is.few
      (offset_small width z positive fits) in
      let most : 2 ^ ((i + 1) * width) ≤ 2 ^ 32 = pow-le-pow_right {n = 2} (lit< tt) {i = (i + 1) * width}
      {j = 32} room in
      sum_is (fields * 2 ^ width) (halves * 2 ^ width) ((fields + halves) / 18446744073709551616 * 2 ^ width)
      (((fields + halves) % 18446744073709551616) * 2 ^ width) bits (2 ^ (width - 1))
      (offset width z) o.0 whole bits' (omega arith)
    where
      scaled : (a b q r p : ℕ) → a + b ≡ q * 18446744073709551616 + r
          → a * p + b * p ≡ (q * p) * 18446744073709551616 + r * p
      scaled a b q r p e =
          let sum : a * p + b * p ≡ (a + b) * p = omega arith in
          let product : (q * 18446744073709551616 + r) * p ≡ (q * p) * 18446744073709551616 + r * p = omega arith in
          sum ∙ ap (λ n. n * p) e ∙ product

  pub offset_more : IsOffset width (i + 1) (((fields * 2 ^ width) % 18446744073709551616
      + bits) % 18446744073709551616) (bit_or ((halves * 2 ^ width) % 18446744073709551616) ((1 * 2 ^
      (width - 1)) % 18446744073709551616)) (xs ++ z ∷ [])
  offset_more =
      let halves_is = halves_more width i halves positive room few in
      let half = power_is_half width positive in
      let some : 0 < 2 ^ (width - 1) = pow_pos (width - 1) in
      let small = offset_small width z positive fits in
      let a = (fields + halves) % 18446744073709551616 in
      subst (λ n. IsOffset width (i + 1) (((fields * 2 ^ width) % 18446744073709551616
      + bits) % 18446744073709551616) n (xs ++ z ∷ [])) (sym halves_is)
      (record {
        few = subst (λ n. n < 2 ^ ((i + 1) * width)) (sym sum_more) (more_few width i a (offset width z) is.few small);
        same = ap (λ n. bit_xor n (halves * 2 ^ width + 2 ^ (width - 1))) sum_more
            ∙ xor_cat a halves width (offset width z) (2 ^ (width - 1)) small (omega arith)
            ∙ ap (λ n. n * 2 ^ width + bit_xor (offset width z) (2 ^ (width - 1))) is.same
            ∙ ap (λ n. joined_fields width xs * 2 ^ width + n) (offset_turned width z positive fits)
            ∙ sym (joined_fields_push width xs z);
      })

-- ---- the word of them

pub low_word : (n : ℕ) → bit_and n 4294967295 < 4294967296
low_word n = subst (λ m. m < 4294967296) (sym (and_mask n 32)) (omega arith)

pub offset_word : (width i size fields halves : ℕ) (ds : List ℤ) → i ≡ size → size * width ≤ 32
    → halves < 2 ^ (i * width) → IsOffset width i fields halves (take i ds)
    → bit_and (bit_xor ((fields + halves) % 18446744073709551616) halves) 4294967295
    ≡ joined_fields width (take size ds)
offset_word width i size fields halves ds all room few is =
    let room' : i * width ≤ 32 = subst (λ n. n * width ≤ 32) (sym all) room in
    let most : 2 ^ (i * width) ≤ 2 ^ 32 = pow-le-pow_right {n = 2} (lit< tt) {i = i * width} {j = 32} room' in
    let small = xor_lt (i * width) ((fields + halves) % 18446744073709551616) halves is.few few in
    let same : bit_xor ((fields + halves) % 18446744073709551616) halves % 4294967296
    ≡ bit_xor ((fields + halves) % 18446744073709551616) halves = omega arith in
    and_mask (bit_xor ((fields + halves) % 18446744073709551616) halves) 32 ∙ same ∙ is.same
    ∙ ap (λ n. joined_fields width (take n ds)) all
