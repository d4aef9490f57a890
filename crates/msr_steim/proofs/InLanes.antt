-- The fields of a word side by side, each in a lane of sixteen bits.
use Rattle.std.proofs.Common.{◌≡◌, ◌<◌, ◌≤◌, ℕ, zero, suc, ◌+◌, ◌-◌, ◌*◌, ◌/◌, ◌%◌, ◌^◌, ℤ, pos, negsuc, List, [], ◌∷◌, ◌++◌, length, map, refl, sym, ap, ◌∙◌, subst, arith, w8, w16, to_z, of_z, SFits, get_or, replicate, lit<, cond, Bool, true, false}
use Rattle.std.specs.Prelude.{IfSome, IsSomeAnd, None}
use Rattle.std.specs.Int.{int_shr}
use Rattle.std.proofs.Math.Nat.{div-div-eq-div-mul, mod-lt, pow-le-pow_right}
use Rattle.std.proofs.Math.Pow.{mod-mod-pow}
use Rattle.std.proofs.lemmas.Int.{to_z-of_z}
use Rattle.std.proofs.lemmas.Nat.{pow_pos, pow-add, field_of}
use Rattle.std.proofs.lemmas.Simd.{swz_l, length-swz_l}
use lib.Lanes.{Each1, zip2, number_l, digits_l}
use lib.Signed.{shr_z}
use mir.Val.{zeroes}
use Rattle.msr_base.specs.declared.storage.Version.TheVariants.{Two}
use Rattle.msr_steim.specs.Word.{FitsBits, layout_of, numbers_in, signed_of}
use Rattle.msr_steim.proofs.Shifts.{lifted, lowered, signed_fits}

-- ---- one lane

-- what the code makes of sixteen bits
abbrev pub lane : ℕ → ℕ → ℕ → ℤ
lane bits factor down = to_z w16 (of_z w16 (shr_z (to_z w16 (bits * factor % 65536)) (2 ^ down)))

-- the number in a field of sixteen bits, `after` bits from the highest
pub lane_is : (bits low width after : ℕ) → 0 < width → width + low + after ≡ 16
    → lane bits (2 ^ after) (low + after) ≡ signed_of width (bits / 2 ^ low % 2 ^ width)
lane_is bits low width after positive whole =
    let up = lifted bits low width after in
    let field = bits / 2 ^ low % 2 ^ width in
    let within : field < 2 ^ width = mod-lt (bits / 2 ^ low) (pow_pos width) in
    let up_so : bits * 2 ^ after % 65536 ≡ field * 2 ^ (low + after) + up.0 =
    ap (λ n. bits * 2 ^ after % 2 ^ n) (sym whole) ∙ up.2 in
    let number : int_shr (to_z w16 (bits * 2 ^ after % 65536)) (low + after) ≡ signed_of width field =
    ap (λ n. int_shr (to_z w16 n) (low + after)) up_so
    ∙ lowered w16 field width (low + after) up.0 refl positive (omega arith) within up.1 in
    ap (λ z. to_z w16 (of_z w16 z)) number
    ∙ to_z-of_z w16 (signed_of width field) (fits_w16 width (signed_of width field) (omega arith)
    (signed_fits width field positive within))
  where
    fits_w16 : (width : ℕ) (z : ℤ) → width ≤ 16 → FitsBits width z → SFits w16 z
    fits_w16 width (pos n) small fits =
        let bound : 2 ^ (width - 1) ≤ 32768 = pow-le-pow_right {n = 2} (lit< tt) {i = width - 1} {j = 15} (omega arith) in
        record { sfits = omega (arith, fits) }
    fits_w16 width (negsuc n) small fits =
        let bound : 2 ^ (width - 1) ≤ 32768 = pow-le-pow_right {n = 2} (lit< tt) {i = width - 1} {j = 15} (omega arith) in
        record { sfits = omega (arith, fits) }

-- ---- sixteen bits of a word

-- the bytes of a word, the lowest first
record AreBytes (word : ℕ) (bytes : List ℕ) : Type 0 where
  below : Each1 (λ b. b < 256) bytes
  first : get_or bytes 0 0 ≡ word % 256
  second : get_or bytes 1 0 ≡ word / 256 % 256
  third : get_or bytes 2 0 ≡ word / 65536 % 256
  fourth : get_or bytes 3 0 ≡ word / 16777216 % 256

abbrev splat_bytes : ℕ → List ℕ
splat_bytes word = digits_l 256 16 (number_l 4294967296 (replicate 4 word))

are_bytes : (word : ℕ) → word < 4294967296 → AreBytes word (splat_bytes word)
are_bytes word small = record {
  below = digits_below 16 (number_l 4294967296 (replicate 4 word));
  first = omega arith;
  second = omega arith;
  third = omega arith;
  fourth = omega arith;
}
  where
    digits_below : (n x : ℕ) → Each1 (λ b. b < 256) (digits_l 256 n x)
    digits_below zero x = tt
    digits_below (suc n) x = (mod-lt x (lit< tt), digits_below n (x / 256))

-- the lowest, the middle and the highest sixteen bits
pair_0 : (word : ℕ) (bytes : List ℕ) → AreBytes word bytes
    → get_or bytes 0 0 + 256 * get_or bytes 1 0 ≡ word / 2 ^ 0 % 65536
pair_0 word bytes are = omega (arith, are.first, are.second)

pair_1 : (word : ℕ) (bytes : List ℕ) → AreBytes word bytes
    → get_or bytes 1 0 + 256 * get_or bytes 2 0 ≡ word / 2 ^ 8 % 65536
pair_1 word bytes are = omega (arith, are.second, are.third)

pair_2 : (word : ℕ) (bytes : List ℕ) → AreBytes word bytes
    → get_or bytes 2 0 + 256 * get_or bytes 3 0 ≡ word / 2 ^ 16 % 65536
pair_2 word bytes are = omega (arith, are.third, are.fourth)

-- a field that lies within sixteen bits of the word, `low` bits from the lowest of them
field_is : (word bits from low width after : ℕ) → bits ≡ word / 2 ^ from % 65536 → 0 < width → width + low + after ≡ 16
    → lane bits (2 ^ after) (low + after) ≡ signed_of width (word / 2 ^ (from + low) % 2 ^ width)
field_is word bits from low width after bits_is positive whole =
    let x = word / 2 ^ from in
    let places : after + width + low ≡ 16 = omega (arith, whole) in
    let part : x % 65536 / 2 ^ low ≡ x / 2 ^ low % 2 ^ (after + width) =
    ap (λ n. x % 2 ^ n / 2 ^ low) (sym places) ∙ field_of x (after + width) low in
    let moved : x / 2 ^ low ≡ word / 2 ^ (from + low) = div-div-eq-div-mul word (2 ^ from) (2 ^ low)
    ∙ ap (λ n. word / n) (sym (pow-add 2 from low)) in
    lane_is bits low width after positive whole ∙ ap (λ n. signed_of width (n / 2 ^ low % 2 ^ width)) bits_is
    ∙ ap (λ n. signed_of width (n % 2 ^ width)) part ∙ ap (signed_of width) (mod-mod-pow (x / 2 ^ low) after width)
    ∙ ap (λ n. signed_of width (n % 2 ^ width)) moved

-- pairs of neighbours as numbers of sixteen bits
abbrev pub halves : List ℕ → List ℕ
halves [] = []
halves (a ∷ []) = []
halves (a ∷ b ∷ rest) = (a + 256 * b) ∷ halves rest

pub halves_are : (n : ℕ) (bytes : List ℕ) → length bytes ≡ 2 * n → Each1 (λ b. b < 256) bytes
    → digits_l 65536 n (number_l 256 bytes) ≡ halves bytes
halves_are zero [] size below = refl
halves_are zero (a ∷ bytes) size below = absurd (omega (arith, size))
halves_are (suc n) [] size below = absurd (omega (arith, size))
halves_are (suc n) (a ∷ []) size below = absurd (omega (arith, size))
halves_are (suc n) (a ∷ b ∷ bytes) size below =
    let rest = number_l 256 bytes in
    let first : (a + 256 * (b + 256 * rest)) % 65536 ≡ a + 256 * b = omega (arith, below.0, below.1.0) in
    let others : (a + 256 * (b + 256 * rest)) / 65536 ≡ rest = omega (arith, below.0, below.1.0) in
    rw (first, others) (ap (λ l. (a + 256 * b) ∷ l) (halves_are n bytes (omega (arith, size)) below.1.1))

-- bytes at places, or 0
placed_below : (bytes : List ℕ) (i : ℕ) (places : List ℕ) → Each1 (λ b. b < 256) bytes
    → Each1 (λ b. b < 256) (swz_l w8 16 bytes i places)
placed_below bytes i [] below = tt
placed_below bytes i (p ∷ places) below = (one (zeroes 16 w8 p), placed_below bytes (suc i) places below)
  where
    at : (bs : List ℕ) (k : ℕ) → Each1 (λ b. b < 256) bs → get_or bs k 0 < 256
    at [] zero below = lit< tt
    at [] (suc k) below = lit< tt
    at (b ∷ bs) zero below = below.0
    at (b ∷ bs) (suc k) below = at bs k below.1

    one : (z : Bool) → cond z 0 (get_or bytes (16 * (i / 16) + p) 0) < 256
    one true = lit< tt
    one false = at bytes (16 * (i / 16) + p) below

-- ---- eight lanes

abbrev raised : List ℕ → List ℤ → ℤ → List ℤ
raised bits factors down =
    map (to_z w16) (zip2 (λ a b. of_z w16 (shr_z (to_z w16 a) (2 ^ b)))
    (zip2 (λ a b. a * b % 65536) bits (map (of_z w16) factors)) (replicate 8 (of_z w16 down)))

abbrev lanes : ℕ → List ℕ → List ℤ → ℤ → List ℤ
lanes word places factors down =
    raised (digits_l 65536 8 (number_l 256 (swz_l w8 16 (splat_bytes word) 0 places))) factors down

lanes_are : (word : ℕ) (places : List ℕ) (factors : List ℤ) (down : ℤ) (numbers : List ℤ) → word < 4294967296
    → length places ≡ 16
    → ((bytes : List ℕ) → AreBytes word bytes → raised (halves (swz_l w8 16 bytes 0 places)) factors down ≡ numbers)
    → lanes word places factors down ≡ numbers
lanes_are word places factors down numbers small size are =
    let known = are_bytes word small in
    ap (λ l. raised l factors down) (halves_are 8 (swz_l w8 16 (splat_bytes word) 0 places)
    (length-swz_l w8 16 (splat_bytes word) 0 places ∙ size)
    (placed_below (splat_bytes word) 0 places known.below)) ∙ are (splat_bytes word) known

pub cons : {x y : ℤ} {xs ys : List ℤ} → x ≡ y → xs ≡ ys → x ∷ xs ≡ y ∷ ys
cons {x} {y} {xs} {ys} e f = ap (λ z. z ∷ xs) e ∙ ap (λ zs. y ∷ zs) f

-- the rows of each layout

abbrev four_places : List ℕ
four_places = 2 ∷ 3 ∷ 2 ∷ 3 ∷ 1 ∷ 2 ∷ 0 ∷ 1 ∷ 128 ∷ 128 ∷ 128 ∷ 128 ∷ 128 ∷ 128 ∷ 128 ∷ 128 ∷ []

abbrev four_factors : List ℤ
four_factors = pos 1 ∷ pos 256 ∷ pos 256 ∷ pos 256 ∷ pos 0 ∷ pos 0 ∷ pos 0 ∷ pos 0 ∷ []

four : (word : ℕ) (bytes : List ℕ) → AreBytes word bytes
    → raised (halves (swz_l w8 16 bytes 0 four_places)) four_factors (pos 8)
    ≡ numbers_in word 8 4 ++ replicate 4 (pos 0)
unfolding numbers_in
four word bytes are =
    cons (field_is word (get_or bytes 2 0 + 256 * get_or bytes 3 0) 16 8 8 0 (pair_2 word bytes are) (lit< tt) refl)
    (cons (field_is word (get_or bytes 2 0 + 256 * get_or bytes 3 0) 16 0 8 8 (pair_2 word bytes are) (lit< tt) refl)
    (cons (field_is word (get_or bytes 1 0 + 256 * get_or bytes 2 0) 8 0 8 8 (pair_1 word bytes are) (lit< tt) refl)
    (cons (field_is word (get_or bytes 0 0 + 256 * get_or bytes 1 0) 0 0 8 8 (pair_0 word bytes are) (lit< tt) refl)
    refl)))

abbrev three_places : List ℕ
three_places = 2 ∷ 3 ∷ 1 ∷ 2 ∷ 0 ∷ 1 ∷ 128 ∷ 128 ∷ 128 ∷ 128 ∷ 128 ∷ 128 ∷ 128 ∷ 128 ∷ 128 ∷ 128 ∷ []

abbrev three_factors : List ℤ
three_factors = pos 4 ∷ pos 16 ∷ pos 64 ∷ pos 0 ∷ pos 0 ∷ pos 0 ∷ pos 0 ∷ pos 0 ∷ []

three : (word : ℕ) (bytes : List ℕ) → AreBytes word bytes
    → raised (halves (swz_l w8 16 bytes 0 three_places)) three_factors (pos 6)
    ≡ numbers_in word 10 3 ++ replicate 5 (pos 0)
unfolding numbers_in
three word bytes are =
    cons (field_is word (get_or bytes 2 0 + 256 * get_or bytes 3 0) 16 4 10 2 (pair_2 word bytes are) (lit< tt) refl)
    (cons (field_is word (get_or bytes 1 0 + 256 * get_or bytes 2 0) 8 2 10 4 (pair_1 word bytes are) (lit< tt) refl)
    (cons (field_is word (get_or bytes 0 0 + 256 * get_or bytes 1 0) 0 0 10 6 (pair_0 word bytes are) (lit< tt) refl)
    refl))

abbrev five_places : List ℕ
five_places = 2 ∷ 3 ∷ 2 ∷ 3 ∷ 1 ∷ 2 ∷ 0 ∷ 1 ∷ 0 ∷ 1 ∷ 128 ∷ 128 ∷ 128 ∷ 128 ∷ 128 ∷ 128 ∷ []

abbrev five_factors : List ℤ
five_factors = pos 4 ∷ pos 256 ∷ pos 64 ∷ pos 16 ∷ pos 1024 ∷ pos 0 ∷ pos 0 ∷ pos 0 ∷ []

five : (word : ℕ) (bytes : List ℕ) → AreBytes word bytes
    → raised (halves (swz_l w8 16 bytes 0 five_places)) five_factors (pos 10)
    ≡ numbers_in word 6 5 ++ replicate 3 (pos 0)
unfolding numbers_in
five word bytes are =
    cons (field_is word (get_or bytes 2 0 + 256 * get_or bytes 3 0) 16 8 6 2 (pair_2 word bytes are) (lit< tt) refl)
    (cons (field_is word (get_or bytes 2 0 + 256 * get_or bytes 3 0) 16 2 6 8 (pair_2 word bytes are) (lit< tt) refl)
    (cons (field_is word (get_or bytes 1 0 + 256 * get_or bytes 2 0) 8 4 6 6 (pair_1 word bytes are) (lit< tt) refl)
    (cons (field_is word (get_or bytes 0 0 + 256 * get_or bytes 1 0) 0 6 6 4 (pair_0 word bytes are) (lit< tt) refl)
    (cons (field_is word (get_or bytes 0 0 + 256 * get_or bytes 1 0) 0 0 6 10 (pair_0 word bytes are) (lit< tt) refl)
    refl))))

abbrev six_places : List ℕ
six_places = 2 ∷ 3 ∷ 2 ∷ 3 ∷ 1 ∷ 2 ∷ 1 ∷ 2 ∷ 0 ∷ 1 ∷ 0 ∷ 1 ∷ 128 ∷ 128 ∷ 128 ∷ 128 ∷ []

abbrev six_factors : List ℤ
six_factors = pos 4 ∷ pos 128 ∷ pos 16 ∷ pos 512 ∷ pos 64 ∷ pos 2048 ∷ pos 0 ∷ pos 0 ∷ []

six : (word : ℕ) (bytes : List ℕ) → AreBytes word bytes
    → raised (halves (swz_l w8 16 bytes 0 six_places)) six_factors (pos 11) ≡ numbers_in word 5 6 ++ replicate 2 (pos 0)
unfolding numbers_in
six word bytes are =
    cons (field_is word (get_or bytes 2 0 + 256 * get_or bytes 3 0) 16 9 5 2 (pair_2 word bytes are) (lit< tt) refl)
    (cons (field_is word (get_or bytes 2 0 + 256 * get_or bytes 3 0) 16 4 5 7 (pair_2 word bytes are) (lit< tt) refl)
    (cons (field_is word (get_or bytes 1 0 + 256 * get_or bytes 2 0) 8 7 5 4 (pair_1 word bytes are) (lit< tt) refl)
    (cons (field_is word (get_or bytes 1 0 + 256 * get_or bytes 2 0) 8 2 5 9 (pair_1 word bytes are) (lit< tt) refl)
    (cons (field_is word (get_or bytes 0 0 + 256 * get_or bytes 1 0) 0 5 5 6 (pair_0 word bytes are) (lit< tt) refl)
    (cons (field_is word (get_or bytes 0 0 + 256 * get_or bytes 1 0) 0 0 5 11 (pair_0 word bytes are) (lit< tt) refl)
    refl)))))

abbrev seven_places : List ℕ
seven_places = 2 ∷ 3 ∷ 2 ∷ 3 ∷ 2 ∷ 3 ∷ 1 ∷ 2 ∷ 1 ∷ 2 ∷ 0 ∷ 1 ∷ 0 ∷ 1 ∷ 128 ∷ 128 ∷ []

abbrev seven_factors : List ℤ
seven_factors = pos 16 ∷ pos 256 ∷ pos 4096 ∷ pos 256 ∷ pos 4096 ∷ pos 256 ∷ pos 4096 ∷ pos 0 ∷ []

seven : (word : ℕ) (bytes : List ℕ) → AreBytes word bytes
    → raised (halves (swz_l w8 16 bytes 0 seven_places)) seven_factors (pos 12)
    ≡ numbers_in word 4 7 ++ replicate 1 (pos 0)
unfolding numbers_in
seven word bytes are =
    cons (field_is word (get_or bytes 2 0 + 256 * get_or bytes 3 0) 16 8 4 4 (pair_2 word bytes are) (lit< tt) refl)
    (cons (field_is word (get_or bytes 2 0 + 256 * get_or bytes 3 0) 16 4 4 8 (pair_2 word bytes are) (lit< tt) refl)
    (cons (field_is word (get_or bytes 2 0 + 256 * get_or bytes 3 0) 16 0 4 12 (pair_2 word bytes are) (lit< tt) refl)
    (cons (field_is word (get_or bytes 1 0 + 256 * get_or bytes 2 0) 8 4 4 8 (pair_1 word bytes are) (lit< tt) refl)
    (cons (field_is word (get_or bytes 1 0 + 256 * get_or bytes 2 0) 8 0 4 12 (pair_1 word bytes are) (lit< tt) refl)
    (cons (field_is word (get_or bytes 0 0 + 256 * get_or bytes 1 0) 0 4 4 8 (pair_0 word bytes are) (lit< tt) refl)
    (cons (field_is word (get_or bytes 0 0 + 256 * get_or bytes 1 0) 0 0 4 12 (pair_0 word bytes are) (lit< tt) refl)
    refl))))))

-- ---- the keys

no_layout : (code top : ℕ) → 4 ≤ code → layout_of Two code top ≡ None
no_layout code top le = grind arith

abbrev pub HasThree : ℕ → Type 0
HasThree key = IsSomeAnd (layout_of Two (key / 4) (key % 4)) (λ layout. 3 ≤ layout.count)

abbrev after_four : ℕ → ℕ
after_four n = suc (suc (suc (suc n)))

by_four : (P : ℕ → Type 0) → P 0 → P 1 → P 2 → P 3 → ((n : ℕ) → P (after_four n)) → (n : ℕ) → P n
by_four P p0 p1 p2 p3 more zero = p0
by_four P p0 p1 p2 p3 more (suc zero) = p1
by_four P p0 p1 p2 p3 more (suc (suc zero)) = p2
by_four P p0 p1 p2 p3 more (suc (suc (suc zero))) = p3
by_four P p0 p1 p2 p3 more (suc (suc (suc (suc n)))) = more n

-- a word of three to seven fields has one of eight keys
pub by_key : (P : ℕ → Type 0) → P 4 → P 5 → P 6 → P 7 → P 11 → P 12 → P 13 → P 14 → (key : ℕ) → HasThree key → P key
by_key P p4 p5 p6 p7 p11 p12 p13 p14 =
    by_four (λ n. HasThree n → P n) few few few few
    (by_four (λ n. HasThree (after_four n) → P (after_four n)) (λ h. p4) (λ h. p5) (λ h. p6) (λ h. p7)
    (by_four (λ n. HasThree (after_four (after_four n)) → P (after_four (after_four n)))
    (λ h. absurd h) (λ h. absurd (omega (arith, h))) (λ h. absurd (omega (arith, h))) (λ h. p11)
    (by_four (λ n. HasThree (after_four (after_four (after_four n))) → P (after_four (after_four (after_four n))))
    (λ h. p12) (λ h. p13) (λ h. p14) (λ h. absurd h)
    (λ n h. absurd (none (after_four (after_four (after_four (after_four n)))) (omega arith) h)))))
  where
    few : {Q : Type 0} → 3 ≤ 0 → Q
    few h = absurd (omega (arith, h))

    none : (key : ℕ) → 16 ≤ key → HasThree key → ⊥
    none key le h = subst (λ o. IsSomeAnd o (λ layout. 3 ≤ layout.count))
        (no_layout (key / 4) (key % 4) (omega (arith, le))) h

-- ---- the code's tables

abbrev no_places : List ℕ
no_places = replicate 16 128

abbrev no_factors : List ℤ
no_factors = replicate 8 (pos 0)

abbrev places : List (List ℕ)
places = no_places ∷ no_places ∷ no_places ∷ no_places
    ∷ four_places ∷ four_places ∷ four_places ∷ four_places
    ∷ no_places ∷ no_places ∷ no_places ∷ three_places
    ∷ five_places ∷ six_places ∷ seven_places ∷ no_places ∷ []

abbrev factors : List (List ℤ)
factors = no_factors ∷ no_factors ∷ no_factors ∷ no_factors
    ∷ four_factors ∷ four_factors ∷ four_factors ∷ four_factors
    ∷ no_factors ∷ no_factors ∷ no_factors ∷ three_factors
    ∷ five_factors ∷ six_factors ∷ seven_factors ∷ no_factors ∷ []

abbrev shifts : List ℤ
shifts = pos 0 ∷ pos 0 ∷ pos 0 ∷ pos 0
    ∷ pos 8 ∷ pos 8 ∷ pos 8 ∷ pos 8
    ∷ pos 0 ∷ pos 0 ∷ pos 0 ∷ pos 6
    ∷ pos 10 ∷ pos 11 ∷ pos 12 ∷ pos 0 ∷ []

abbrev AreLanes : ℕ → ℕ → Type 0
AreLanes word key =
    IfSome (layout_of Two (key / 4) (key % 4)) (λ layout.
    lanes word (get_or places key []) (get_or factors key []) (get_or shifts key (pos 0))
    ≡ numbers_in word layout.width layout.count ++ replicate (8 - layout.count) (pos 0))

pub are_lanes : (word key : ℕ) → word < 4294967296 → HasThree key → AreLanes word key
are_lanes word key small =
    let as_four = lanes_are word four_places four_factors (pos 8)
    (numbers_in word 8 4 ++ replicate 4 (pos 0)) small refl (four word) in
    by_key (AreLanes word) as_four as_four as_four as_four (lanes_are word three_places three_factors (pos 6)
    (numbers_in word 10 3 ++ replicate 5 (pos 0)) small refl (three word))
    (lanes_are word five_places five_factors (pos 10)
    (numbers_in word 6 5 ++ replicate 3 (pos 0)) small refl (five word)) (lanes_are word six_places six_factors (pos 11)
    (numbers_in word 5 6 ++ replicate 2 (pos 0)) small refl (six word))
    (lanes_are word seven_places seven_factors (pos 12)
    (numbers_in word 4 7 ++ replicate 1 (pos 0)) small refl (seven word)) key
