-- The fields of a word, made from differences.
use Rattle.std.proofs.Common.{◌≡◌, ◌<◌, ◌≤◌, ℕ, zero, suc, ◌+◌, ◌-◌, ◌*◌, ◌/◌, ◌%◌, ◌^◌, ℤ, pos, negsuc, get_or, take, List, [], ◌∷◌, ◌++◌, length, sym, ap, ◌∙◌, subst, arith, w32, w64, SFits, FitsSigned, of_z, bit_and, bit_or, Some, Bool, true, false, cond, eqb, lit<, lit≤}
use Rattle.std.specs.Prelude.{IsSomeAnd, unwrap_or, Option, replicate}
use Rattle.std.specs.Int.{int_wrap}
use Rattle.std.specs.List.{AllByRecursion}
use Rattle.std.proofs.lemmas.Int.{int_wrap_fits}
use Rattle.std.proofs.lemmas.List.{append-nil, take_more, length-take-le}
use Rattle.std.proofs.lemmas.Nat.{and_mask, mod-mul-add, pow_pos, pow-add}
use Rattle.std.proofs.Common.{mod-lt}
use Rattle.std.proofs.Math.Nat.{pow-le-pow_right, mul-le-mul_right, mul-lt-mul_of_pos_right}
use Rattle.msr_base.specs.declared.storage.Version.{Version}
use Rattle.msr_base.specs.declared.storage.Version.TheVariants.{One, Two}
use Rattle.msr_steim.specs.Word.{FitsBits, IsGroup, padding_of, group_top, group_width, group_word, joined_fields, twos_complement}
use Rattle.msr_steim.proofs.Fields.{field_bound, joined_fields_lt, joined_fields_push, ones_shr, power_is_half, push_field}

mask_64 : (width : ℕ) → width ≤ 32 → 18446744073709551615 / 2 ^ (64 - width) ≡ 2 ^ width - 1
mask_64 width small =
    let e : width + (64 - width) ≡ 64 = omega arith in
    subst (λ n. (2 ^ n - 1) / 2 ^ (64 - width) ≡ 2 ^ width - 1) e (ones_shr width (64 - width))

below_whole : (a q m : ℕ) → m ≤ q → a * q + (q - m) ≡ suc a * q - m
below_whole a q m le = omega arith

low_bits : (z : ℤ) (width : ℕ) → 0 < width → width ≤ 32 → SFits w64 z → FitsBits width z
    → of_z w64 z % 2 ^ width ≡ twos_complement width z
low_bits (pos n) width positive small fits here =
    let half : 2 ^ width ≡ 2 * 2 ^ (width - 1) = power_is_half width positive in
    let same : 0 * 2 ^ width + n ≡ n = omega arith in
    ap (λ m. m % 2 ^ width) (sym same) ∙ mod-mul-add 0 (2 ^ width) n (omega arith)
low_bits (negsuc n) width positive small fits here =
    let half : 2 ^ width ≡ 2 * 2 ^ (width - 1) = power_is_half width positive in
    let some : 0 < 2 ^ (64 - width) = pow_pos (64 - width) in
    let e : (64 - width) + width ≡ 64 = omega arith in
    let product : 2 ^ 64 ≡ 2 ^ (64 - width) * 2 ^ width = ap (λ m. 2 ^ m) (sym e) ∙ pow-add 2 (64 - width) width in
    let back : suc (2 ^ (64 - width) - 1) ≡ 2 ^ (64 - width) = omega arith in
    let split : (2 ^ (64 - width) - 1) * 2 ^ width + (2 ^ width - suc n) ≡ 2 ^ 64 - suc n =
    below_whole (2 ^ (64 - width) - 1) (2 ^ width) (suc n) (omega arith) ∙ ap (λ m. m * 2 ^ width - suc n) back
    ∙ ap (λ m. m - suc n) (sym product) in
    ap (λ m. m % 2 ^ width) (sym split) ∙ mod-mul-add (2 ^ (64 - width) - 1) (2 ^ width) (2 ^ width - suc n)
    (omega arith)

pub field_is : (z : ℤ) (width bits : ℕ) → 0 < width → width ≤ 32 → SFits w64 z → FitsBits width z
    → bits ≡ of_z w64 z → bit_and bits (18446744073709551615 / 2 ^ (64 - width)) ≡ twos_complement width z
field_is z width bits positive small fits here e =
    ap (bit_and bits) (mask_64 width small) ∙ and_mask bits width ∙ ap (λ m. m % 2 ^ width) e
    ∙ low_bits z width positive small fits here

pub field_small : (width bits : ℕ) → width ≤ 32 → bit_and bits (18446744073709551615 / 2 ^ (64 - width)) < 2 ^ width
field_small width bits small =
    subst (λ n. n < 2 ^ width) (sym (ap (bit_and bits) (mask_64 width small) ∙ and_mask bits width))
    (mod-lt bits (pow_pos width))

-- ---- fields side by side

all_front : {X : Type 0} (P : X → Type 0) (xs : List X) (i n : ℕ) → i ≤ n → AllByRecursion P (take n xs)
    → AllByRecursion P (take i xs)
all_front P [] zero n le all = tt
all_front P [] (suc i) n le all = tt
all_front P (x ∷ xs) zero n le all = tt
all_front P (x ∷ xs) (suc i) zero le all = absurd (omega arith)
all_front P (x ∷ xs) (suc i) (suc n) le all = (all.0, all_front P xs i n (omega arith) all.1)

all_there : {X : Type 0} (P : X → Type 0) (xs : List X) (i n : ℕ) (d : X) → i < n → n ≤ length xs
    → AllByRecursion P (take n xs) → P (get_or xs i d)
all_there P [] i n d less within all = absurd (omega arith)
all_there P (x ∷ xs) i zero d less within all = absurd (omega arith)
all_there P (x ∷ xs) zero (suc n) d less within all = all.0
all_there P (x ∷ xs) (suc i) (suc n) d less within all = all_there P xs i n d (omega arith) (omega arith) all.1

module _ (width size : ℕ) (xs : List ℤ) (positive : 0 < width) (small : size * width ≤ 32)
    (within : size ≤ length xs) (all : AllByRecursion (FitsBits width) (take size xs)) where
  pub fits_there : (i : ℕ) → i < size → FitsBits width (get_or xs i (pos 0))
  fits_there i less = all_there (FitsBits width) xs i size (pos 0) less within all

  front_lt : (i : ℕ) → i ≤ size → joined_fields width (take i xs) < 2 ^ (i * width)
  front_lt i le =
      let number : length (take i xs) ≡ i = length-take-le i xs (omega arith) in
      subst (λ n. joined_fields width (take i xs) < 2 ^ (n * width)) number
      (joined_fields_lt width (take i xs) positive (all_front (FitsBits width) xs i size le all))

  pub fields_more : (i fields field : ℕ) → i < size → fields ≡ joined_fields width (take i xs)
      → field ≡ twos_complement width (get_or xs i (pos 0))
      → bit_or ((fields * 2 ^ width) % 2 ^ 64) field ≡ joined_fields width (take (i + 1) xs)
  fields_more i fields field less same is =
      let z = get_or xs i (pos 0) in
      let bound : fields < 2 ^ (i * width) = subst (λ n. n < 2 ^ (i * width)) (sym same) (front_lt i (omega arith)) in
      let one : field < 2 ^ width = subst (λ n. n < 2 ^ width) (sym is)
      (field_bound z width positive (fits_there i less)) in
      let room : (i + 1) * width ≤ size * width = mul-le-mul_right width (omega arith) in
      let more : take (i + 1) xs ≡ take i xs ++ get_or xs i (pos 0) ∷ [] = take_more xs i (pos 0) (omega arith) in
      push_field width i fields field bound (omega arith) one
      ∙ ap (λ n. n * 2 ^ width + field) same ∙ ap (λ n. joined_fields width (take i xs) * 2 ^ width + n) is
      ∙ sym (joined_fields_push width (take i xs) (get_or xs i (pos 0))) ∙ ap (joined_fields width) (sym more)

  pub all_lt : (i fields : ℕ) → i ≡ size → fields ≡ joined_fields width (take i xs)
      → (fields ≡ joined_fields width (take size xs)) × (fields < 2 ^ (size * width)) × (fields < 4294967296)
  all_lt i fields e same =
      let whole : fields ≡ joined_fields width (take size xs) = same ∙ ap (λ n. joined_fields width (take n xs)) e in
      let few : fields < 2 ^ (size * width) = subst (λ n. n < 2 ^ (size * width)) (sym whole)
      (front_lt size (omega arith)) in
      let most : 2 ^ (size * width) ≤ 2 ^ 32 = pow-le-pow_right {n = 2} (lit< tt) {i = size * width} {j = 32} small in
      (whole, few, omega arith)

-- all differences of a group fit its width
pub group_bits : (version : Version) (ys : List ℤ) (size width : ℕ) → length ys ≡ size
    → group_width version size ≡ Some width → IsGroup version ys → AllByRecursion (FitsBits width) ys
group_bits version ys size width long width_is is =
    subst (λ o. IsSomeAnd o (λ w. AllByRecursion (FitsBits w) ys)) (ap (group_width version) long ∙ width_is) is

-- fields of these differences are below the power
group_few : (ys : List ℤ) (size width fields : ℕ) → length ys ≡ size → 0 < width
    → AllByRecursion (FitsBits width) ys → fields ≡ joined_fields width ys → fields < 2 ^ (size * width)
group_few ys size width fields long positive all same =
    subst (λ n. n < 2 ^ (size * width)) (sym same)
    (subst (λ n. joined_fields width ys < 2 ^ (n * width)) long (joined_fields_lt width ys positive all))

pub word_is : (ys : List ℤ) (size width top fields : ℕ) → length ys ≡ size → group_width Two size ≡ Some width
    → top ≡ group_top Two size → fields ≡ joined_fields width ys → top * 2 ^ 30 + fields ≡ group_word Two ys
word_is ys size width top fields long width_is top_is fields_is =
    let w : unwrap_or (group_width Two (length ys)) 0 ≡ width = ap (λ n. unwrap_or (group_width Two n) 0) long
    ∙ ap (λ (o : Option ℕ). unwrap_or o 0) width_is in
    let t : group_top Two (length ys) ≡ top = ap (group_top Two) long ∙ sym top_is in
    let j : joined_fields (unwrap_or (group_width Two (length ys)) 0) (ys ++ []) ≡ fields =
    ap (λ n. joined_fields n (ys ++ [])) w ∙ ap (joined_fields width) (append-nil ys) ∙ sym fields_is in
    sym (ap (λ n. n * 2 ^ 30 + joined_fields (unwrap_or (group_width Two (length ys)) 0) (ys ++ [])) t
    ∙ ap (λ n. top * 2 ^ 30 + n) j)

pub added_word_is : (ys : List ℤ) (size width top fields : ℕ) → length ys ≡ size → 0 < width
    → group_width Two size ≡ Some width → IsGroup Two ys → top ≡ group_top Two size
    → fields ≡ joined_fields width ys → top * 2 ^ 30 + 2 ^ (size * width) ≤ 2 ^ 32
    → ((top * 2 ^ 30) % 2 ^ 32 + fields) % 2 ^ 32 ≡ group_word Two ys
added_word_is ys size width top fields long positive width_is is top_is same space =
    let few = group_few ys size width fields long positive (group_bits Two ys size width long width_is is) same in
    let word = word_is ys size width top fields long width_is top_is same in
    let none : ((top * 2 ^ 30) % 2 ^ 32 + fields) % 2 ^ 32 ≡ top * 2 ^ 30 + fields = omega arith in
    none ∙ word

-- ---- the words of Steim-1

padded : (padding : ℕ) (ys : List ℤ) (width : ℕ) → padding ≤ 1
    → joined_fields width ys * 2 ^ (padding * width) ≡ joined_fields width (ys ++ replicate padding (pos 0))
padded zero ys width few =
    let none : 0 * width ≡ 0 = omega arith in
    let one : joined_fields width ys * 2 ^ 0 ≡ joined_fields width ys = omega arith in
    ap (λ n. joined_fields width ys * 2 ^ n) none ∙ one ∙ ap (joined_fields width) (sym (append-nil ys))
padded (suc zero) ys width few =
    let one : 1 * width ≡ width = omega arith in
    let none : joined_fields width ys * 2 ^ width ≡ joined_fields width ys * 2 ^ width + 0 = omega arith in
    ap (λ n. joined_fields width ys * 2 ^ n) one ∙ none ∙ sym (joined_fields_push width ys (pos 0))
padded (suc (suc padding)) ys width few = absurd (omega arith)

padding_few : (n : ℕ) → padding_of One n ≤ 1
padding_few n = either (eqb n 3)
  where
    either : (b : Bool) → cond b 1 0 ≤ 1
    either true = lit≤ tt
    either false = lit≤ tt

pub shifted_word_is : (ys : List ℤ) (size width left fields : ℕ) → length ys ≡ size
    → group_width One size ≡ Some width → left ≡ padding_of One size * width → fields ≡ joined_fields width ys
    → 0 < width → IsGroup One ys → size * width + left ≤ 32 → (fields * 2 ^ left) % 2 ^ 32 ≡ group_word One ys
shifted_word_is ys size width left fields long width_is left_is fields_is positive is within =
    let few = group_few ys size width fields long positive (group_bits One ys size width long width_is is) fields_is in
    let w : unwrap_or (group_width One (length ys)) 0 ≡ width = ap (λ n. unwrap_or (group_width One n) 0) long
    ∙ ap (λ (o : Option ℕ). unwrap_or o 0) width_is in
    let p : padding_of One (length ys) ≡ padding_of One size = ap (padding_of One) long in
    let whole : fields * 2 ^ left ≡ joined_fields (unwrap_or (group_width One (length ys)) 0)
    (ys ++ replicate (padding_of One (length ys)) (pos 0)) =
    ap (λ n. n * 2 ^ left) fields_is ∙ ap (λ n. joined_fields width ys * 2 ^ n) left_is
    ∙ padded (padding_of One size) ys width (padding_few size)
    ∙ ap (λ n. joined_fields width (ys ++ replicate n (pos 0))) (sym p)
    ∙ ap (λ n. joined_fields n (ys ++ replicate (padding_of One (length ys)) (pos 0))) (sym w) in
    let top : joined_fields (unwrap_or (group_width One (length ys)) 0)
    (ys ++ replicate (padding_of One (length ys)) (pos 0)) ≡ group_word One ys = omega arith in
    let scaled : fields * 2 ^ left < 2 ^ (size * width) * 2 ^ left = mul-lt-mul_of_pos_right few (pow_pos left) in
    let product : 2 ^ (size * width) * 2 ^ left ≡ 2 ^ (size * width + left) = sym (pow-add 2 (size * width) left) in
    let most : 2 ^ (size * width + left) ≤ 2 ^ 32 =
    pow-le-pow_right {n = 2} (lit< tt) {i = size * width + left} {j = 32} within in
    let same : fields * 2 ^ left ≡ group_word One ys = whole ∙ top in
    let none : (fields * 2 ^ left) % 2 ^ 32 ≡ fields * 2 ^ left = omega arith in
    none ∙ same

-- cut to 32 bits, a difference of few bits is itself
pub cut_same : (width : ℕ) (z : ℤ) → 0 < width → width ≤ 32 → FitsBits width z → int_wrap w32 z ≡ z
cut_same width z positive small fits = int_wrap_fits w32 z (narrower z fits)
  where
    most : 2 ^ (width - 1) ≤ 2147483648
    most = pow-le-pow_right {n = 2} (lit< tt) {i = width - 1} {j = 31} (omega arith)

    narrower : (z : ℤ) → FitsBits width z → FitsSigned w32 z
    narrower (pos n) f = record { sfits = (let b = most in omega arith) }
    narrower (negsuc n) f = record { sfits = (let b = most in omega arith) }
