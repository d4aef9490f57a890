-- A field that is shifted up to the highest bit and down again with its sign, and the fields of a word.
use Rattle.std.proofs.Common.{◌≡◌, ◌<◌, ◌≤◌, ℕ, zero, suc, ◌+◌, ◌-◌, ◌*◌, ◌/◌, ◌%◌, ◌^◌, pos, negsuc, length, map, refl, sym, ap, ◌∙◌, subst, arith, w32, to_z, ⊎_elim, get_or}
use Rattle.std.specs.List.{AllByRecursion}
use Rattle.std.specs.Int.{int_shr}
use Rattle.std.specs.Int.Digits.{number_from_digits, number_from_digits_after}
use Rattle.std.proofs.Math.Facts.{to_z-neg}
use Rattle.std.proofs.Math.Nat.{pow-zero, div-add-mod, mul-add-mod_self_right, mod-eq_of_lt, mod-lt}
use Rattle.std.proofs.lemmas.Bool.{cases_lt, lt-ltb, le-ltb}
use Rattle.std.proofs.lemmas.Int.{to_z_pos}
use Rattle.std.proofs.lemmas.List.{length-map}
use Rattle.std.proofs.lemmas.Nat.{pow_pos, pow-add, shr_high, mod-pow-add}
use mir.Syntax.{Width}
use mir.Val.{bits, hbits}
use Rattle.msr_steim.specs.Word.{AreFields, FitsBits, twos_complement, joined_fields, numbers_in, signed_of}
use Rattle.msr_steim.proofs.Fields.{power_is_half, pow_pow}
use Rattle.msr_steim.proofs.OneList.{number_after}

pub low_signed : (width field : ℕ) → field < 2 ^ (width - 1) → signed_of width field ≡ pos field
unfolding signed_of
low_signed width field low = rw (lt-ltb field (2 ^ (width - 1)) low) refl

pub high_signed : (width field : ℕ) → 2 ^ (width - 1) ≤ field → signed_of width field ≡ negsuc (2 ^ width - 1 - field)
unfolding signed_of
high_signed width field high = rw (le-ltb field (2 ^ (width - 1)) high) refl

-- ---- what a shift to the left keeps

-- a word's lowest `bits` bits, shifted up, are the lowest `bits + left` bits of the shifted word
shifted_up : (word left bits : ℕ) → (word * 2 ^ left) % 2 ^ (bits + left) ≡ (word % 2 ^ bits) * 2 ^ left
shifted_up word left bits =
    let some : 0 < 2 ^ bits = pow_pos bits in
    let some_left : 0 < 2 ^ left = pow_pos left in
    let apart : 2 ^ bits * (word / 2 ^ bits) + word % 2 ^ bits ≡ word = div-add-mod word (2 ^ bits) in
    let both : 2 ^ (bits + left) ≡ 2 ^ bits * 2 ^ left = pow-add 2 bits left in
    let small : word % 2 ^ bits < 2 ^ bits = mod-lt word some in
    within (word / 2 ^ bits) (word % 2 ^ bits) (2 ^ bits) (2 ^ left) word (2 ^ (bits + left)) apart both small some_left
  where
    within : (q r b k w m : ℕ) → b * q + r ≡ w → m ≡ b * k → r < b → 0 < k → (w * k) % m ≡ r * k
    within q r b k w m apart both small some =
        let few : r * k < b * k = scaled r b k small some in
        let sum : w * k ≡ q * (b * k) + r * k = rw (← apart) (omega arith) in
        rw (both, sum) (mul-add-mod_self_right q (b * k) (r * k) ∙ mod-eq_of_lt few)
      where
        scaled : (r b k : ℕ) → r < b → 0 < k → r * k < b * k
        scaled r b k small some = grind arith

-- a field with `low` bits below it is shifted up by `left`; `rest` stands below it
pub lifted : (word low width left : ℕ)
    → (rest : ℕ) × (rest < 2 ^ (low + left)) × (word * 2 ^ left % 2 ^ (width + low + left)
    ≡ (word / 2 ^ low % 2 ^ width) * 2 ^ (low + left) + rest)
lifted word low width left =
    let up : (word * 2 ^ left) % 2 ^ (width + low + left) ≡ (word % 2 ^ (width + low)) * 2 ^ left =
    shifted_up word left (width + low) in
    let apart : word % 2 ^ (width + low) ≡ (word / 2 ^ low % 2 ^ width) * 2 ^ low + word % 2 ^ low =
    mod-pow-add word width low in
    let both : 2 ^ (low + left) ≡ 2 ^ low * 2 ^ left = pow-add 2 low left in
    let small : word % 2 ^ low < 2 ^ low = mod-lt word (pow_pos low) in
    let few = scaled (word % 2 ^ low) (2 ^ low) (2 ^ left) small (pow_pos left) in
    let sum = regroup (word / 2 ^ low % 2 ^ width) (2 ^ low) (word % 2 ^ low) (2 ^ left) (word % 2 ^ (width + low))
    (2 ^ (low + left)) apart both in
    (word % 2 ^ low * 2 ^ left, subst (λ n. word % 2 ^ low * 2 ^ left < n) (sym both) few, up ∙ sum)
  where
    scaled : (r b k : ℕ) → r < b → 0 < k → r * k < b * k
    scaled r b k small some = grind arith

    regroup : (f l r k w lk : ℕ) → w ≡ f * l + r → lk ≡ l * k → w * k ≡ f * lk + r * k
    regroup f l r k w lk e1 e2 = rw (e1, e2) (omega arith)

-- the field with `below` fields below it is shifted up to the highest bits
field_up : (word below width : ℕ) → (below + 1) * width ≤ 32
    → (rest : ℕ) × (rest < 2 ^ (32 - width)) × (word * 2 ^ (32 - (below + 1) * width) % 2 ^ 32
    ≡ (word / 2 ^ (below * width) % 2 ^ width) * 2 ^ (32 - width) + rest)
field_up word below width within =
    let left = 32 - (below + 1) * width in
    let up = lifted word (below * width) width left in
    let places : (below + 1) * width ≡ width + below * width = omega arith in
    let whole : width + below * width + left ≡ 32 = omega (arith, within) in
    let rest_places : below * width + left ≡ 32 - width = omega (arith, within) in (
      up.0,
      subst (λ n. up.0 < 2 ^ n) rest_places up.1,
      rw (rest_places, whole) at up.2,
    )

-- ---- the sign

-- a field at the highest bit, shifted down again
pub lowered : (w : Width) (field width down rest : ℕ) → 2 ^ bits w ≡ 2 * 2 ^ hbits w → 0 < width
    → width - 1 + down ≡ hbits w → field < 2 ^ width → rest < 2 ^ down
    → int_shr (to_z w (field * 2 ^ down + rest)) down ≡ signed_of width field
lowered w field width down rest double positive places within few =
    let half : 2 ^ width ≡ 2 * 2 ^ (width - 1) = power_is_half width positive in
    let product : 2 ^ (width - 1) * 2 ^ down ≡ 2 ^ hbits w = sym (pow-add 2 (width - 1) down)
    ∙ ap (λ n. 2 ^ n) places in
    ⊎_elim
    (λ (low : field < 2 ^ (width - 1)).
    let bound = below_half field rest (2 ^ (width - 1)) (2 ^ down) (2 ^ hbits w) low few product in
    let e : to_z w (field * 2 ^ down + rest) ≡ pos (field * 2 ^ down + rest) =
    to_z_pos w (field * 2 ^ down + rest) bound in
    ap (λ z. int_shr z down) e ∙ ap pos (shr_high field down rest few) ∙ sym (low_signed width field low))
    (λ (high : 2 ^ (width - 1) ≤ field).
    let k = 2 ^ down in
    let a = 2 ^ width - 1 - field in
    let bound = above_half field rest (2 ^ (width - 1)) k (2 ^ width) (2 ^ hbits w) (2 ^ bits w) high few within product
    half double in
    let under : k - 1 - rest < k = omega arith in
    let e : to_z w (field * k + rest) ≡ negsuc (a * k + (k - 1 - rest)) = ap (to_z w) bound.1
    ∙ to_z-neg w (a * k + (k - 1 - rest)) bound.0 in
    ap (λ z. int_shr z down) e ∙ ap negsuc (shr_high a down (k - 1 - rest) under)
    ∙ sym (high_signed width field high)) (cases_lt field (2 ^ (width - 1)))
  where
    below_half : (f r h k m : ℕ) → f < h → r < k → h * k ≡ m → f * k + r < m
    below_half f r h k m low few product = let e : (f + 1) * k ≤ h * k = grind arith in omega arith

    above_half : (f r h k w m n : ℕ) → h ≤ f → r < k → f < w → h * k ≡ m → w ≡ 2 * h → n ≡ 2 * m
        → ((w - 1 - f) * k + (k - 1 - r) < m) × (f * k + r ≡ n - suc ((w - 1 - f) * k + (k - 1 - r)))
    above_half f r h k w m n high few within product half double =
        let a = w - 1 - f in
        let total : a + f + 1 ≡ w = omega arith in
        let all : (a + f + 1) * k ≡ n = rw (total, half) (omega (arith, product, double)) in
        let least : h * k ≤ f * k = grind arith in
        (omega arith, omega arith)

-- the number in a field of a word, as the code shifts it
pub shifted_is : (word below width : ℕ) → 0 < width → (below + 1) * width ≤ 32
    → int_shr (to_z w32 (word * 2 ^ (32 - (below + 1) * width) % 4294967296)) (32 - width)
    ≡ signed_of width (word / 2 ^ (below * width) % 2 ^ width)
shifted_is word below width positive within =
    let up = field_up word below width within in
    let some : 0 < 2 ^ width = pow_pos width in
    let small : width ≤ 32 = omega (arith, within) in
    let few : word / 2 ^ (below * width) % 2 ^ width < 2 ^ width = mod-lt (word / 2 ^ (below * width)) some in
    ap (λ n. int_shr (to_z w32 n) (32 - width)) up.2
    ∙ lowered w32 (word / 2 ^ (below * width) % 2 ^ width) width (32 - width) up.0 refl positive (omega arith) few up.1

-- a code of a frame, as the code shifts it
pub code_shifted : (codes slot : ℕ) → slot < 16
    → codes * 2 ^ (2 * slot) % 4294967296 / 1073741824 ≡ codes / 2 ^ (30 - 2 * slot) % 4
code_shifted codes slot small =
    let up = field_up codes (15 - slot) 2 (omega arith) in
    let left : 32 - (15 - slot + 1) * 2 ≡ 2 * slot = omega arith in
    let low : (15 - slot) * 2 ≡ 30 - 2 * slot = omega arith in
    let sum : codes * 2 ^ (2 * slot) % 4294967296 ≡ (codes / 2 ^ (30 - 2 * slot) % 4) * 2 ^ 30 + up.0 =
    rw (left, low) at up.2 in
    ap (λ n. n / 1073741824) sum ∙ shr_high (codes / 2 ^ (30 - 2 * slot) % 4) 30 up.0 up.1

-- ---- what the number is

pub signed_fits : (width field : ℕ) → 0 < width → field < 2 ^ width → FitsBits width (signed_of width field)
signed_fits width field positive within =
    let half : 2 ^ width ≡ 2 * 2 ^ (width - 1) = power_is_half width positive in
    ⊎_elim
    (λ (low : field < 2 ^ (width - 1)). subst (FitsBits width) (sym (low_signed width field low)) low)
    (λ (high : 2 ^ (width - 1) ≤ field). let few : 2 ^ width - 1 - field < 2 ^ (width - 1) = omega arith in
    subst (FitsBits width) (sym (high_signed width field high)) few) (cases_lt field (2 ^ (width - 1)))

pub signed_same : (width field : ℕ) → field < 2 ^ width → twos_complement width (signed_of width field) ≡ field
signed_same width field within =
    ⊎_elim
    (λ (low : field < 2 ^ (width - 1)). ap (twos_complement width) (low_signed width field low))
    (λ (high : 2 ^ (width - 1) ≤ field). let back : 2 ^ width - suc (2 ^ width - 1 - field) ≡ field =
    omega arith in ap (twos_complement width) (high_signed width field high) ∙ back) (cases_lt field (2 ^ (width - 1)))

-- ---- all fields of a word

pub length-numbers_in : (word width count : ℕ) → length (numbers_in word width count) ≡ count
unfolding numbers_in
length-numbers_in word width zero = refl
length-numbers_in word width (suc below) = ap suc (length-numbers_in word width below)

pub numbers_fit : (word width count : ℕ) → 0 < width → AllByRecursion (FitsBits width) (numbers_in word width count)
unfolding numbers_in
numbers_fit word width zero positive = tt
numbers_fit word width (suc below) positive =
    let some : 0 < 2 ^ width = pow_pos width in (
      signed_fits width (word / 2 ^ (below * width) % 2 ^ width) positive (mod-lt (word / 2 ^ (below * width)) some),
      numbers_fit word width below positive,
    )

numbers_join : (word width count : ℕ) → 0 < width
    → word % 2 ^ (count * width) ≡ joined_fields width (numbers_in word width count)
unfolding numbers_in
numbers_join word width zero positive =
    let none : 0 * width ≡ 0 = omega arith in
    let one : 2 ^ 0 ≡ 1 = pow-zero 2 in
    let small : word % 1 < 1 = mod-lt word (omega arith) in
    let zero_left : word % 1 ≡ 0 = omega arith in
    ap (λ n. word % 2 ^ n) none ∙ ap (λ n. word % n) one ∙ zero_left
numbers_join word width (suc below) positive =
    let field = word / 2 ^ (below * width) % 2 ^ width in
    let some : 0 < 2 ^ width = pow_pos width in
    let within : field < 2 ^ width = mod-lt (word / 2 ^ (below * width)) some in
    let digits = map (twos_complement width) (numbers_in word width below) in
    let count : length digits ≡ below = length-map (numbers_in word width below) (twos_complement width)
    ∙ length-numbers_in word width below in
    let places : suc below * width ≡ width + below * width = omega arith in
    let apart : word % 2 ^ (width + below * width) ≡ field * 2 ^ (below * width) + word % 2 ^ (below * width) =
    mod-pow-add word width (below * width) in
    let first : 0 * 2 ^ width + twos_complement width (signed_of width field) ≡ field =
    first_is (2 ^ width) (twos_complement width (signed_of width field)) ∙ signed_same width field within in
    let power : (2 ^ width) ^ length digits ≡ 2 ^ (below * width) = ap (λ n. (2 ^ width) ^ n) count
    ∙ pow_pow 2 width below in
    let rest : number_from_digits_after (2 ^ width)
    (0 * 2 ^ width + twos_complement width (signed_of width field)) digits
    ≡ (0 * 2 ^ width + twos_complement width (signed_of width field)) *
    (2 ^ width) ^ length digits + number_from_digits (2 ^ width) digits =
    number_after (2 ^ width) (0 * 2 ^ width + twos_complement width (signed_of width field)) digits in
    let whole : number_from_digits_after (2 ^ width)
    (0 * 2 ^ width + twos_complement width (signed_of width field)) digits
    ≡ field * 2 ^ (below * width) + number_from_digits (2 ^ width) digits =
    rest ∙ ap (λ n. n * (2 ^ width) ^ length digits + number_from_digits (2 ^ width) digits) first
    ∙ ap (λ n. field * n + number_from_digits (2 ^ width) digits) power in
    ap (λ n. word % 2 ^ n) places ∙ apart ∙ ap (λ n. field * 2 ^ (below * width) + n)
    (numbers_join word width below positive) ∙ sym whole
  where
    first_is : (b n : ℕ) → 0 * b + n ≡ n
    first_is b n = omega arith

-- they are what the word holds
pub are_fields : (word width count : ℕ) → 0 < width
    → AreFields word (numbers_in word width count) (record { count = count; width = width })
are_fields word width count positive = record {
  count = length-numbers_in word width count;
  fit = numbers_fit word width count positive;
  bits = numbers_join word width count positive;
}

-- the number at a place
pub number_at : (word width count i : ℕ) → i < count → get_or (numbers_in word width count) i (pos 0)
    ≡ signed_of width (word / 2 ^ ((count - 1 - i) * width) % 2 ^ width)
unfolding numbers_in
number_at word width zero i within = absurd (omega (arith, within))
number_at word width (suc below) zero within =
    let e : suc below - 1 - 0 ≡ below = omega arith in
    sym (ap (λ n. signed_of width (word / 2 ^ (n * width) % 2 ^ width)) e)
number_at word width (suc below) (suc i) within =
    let e : below - 1 - i ≡ suc below - 1 - suc i = omega arith in
    number_at word width below i (omega (arith, within))
    ∙ ap (λ n. signed_of width (word / 2 ^ (n * width) % 2 ^ width)) e
