-- A word holds one list.
use Rattle.std.proofs.Common.{◌≡◌, ◌<◌, ◌≤◌, ℕ, suc, ◌+◌, ◌*◌, ◌/◌, ◌^◌, ℤ, pos, negsuc, List, [], ◌∷◌, length, map, Bool, true, false, cond, Option, Some, None, refl, sym, ap, ◌∙◌, subst, arith}
use Rattle.std.specs.Prelude.{IfSome, IsSomeAnd, ◌==◌}
use Rattle.std.specs.List.{AllByRecursion}
use Rattle.std.specs.Int.Digits.{number_from_digits_after}
use Rattle.std.proofs.lemmas.List.{length-map}
use Rattle.std.proofs.lemmas.Nat.{same_from_place}
use Rattle.msr_steim.specs.declared.word.WordLayout.{WordLayout}
use Rattle.msr_base.specs.declared.storage.Version.{Version}
use Rattle.msr_base.specs.declared.storage.Version.TheVariants.{One, Two}
use Rattle.msr_steim.specs.Word.{AreFields, FitsBits, Holds, IsUndefinedWord, layout_of, joined_fields, twos_complement}
use Rattle.std.proofs.Math.Nat.{pow-zero, pow-suc}
use Rattle.msr_steim.proofs.Fields.{power_is_half, joined_fields_lt, pow_pow}

-- a field has some bits, if there is one
unfoldable pub HasBits : WordLayout → Type 0
HasBits d = 0 < d.count → 0 < d.width

one_layout : (P : WordLayout → Type 0) → P (record { count = 0; width = 0 })
    → ((count width : ℕ) → 0 < width → count ≤ 7 → P (record { count = count; width = width })) → (a b c d : Bool)
    → IfSome {T = WordLayout} (cond a (Some (record { count = 0; width = 0 }))
    (cond b (Some (record { count = 4; width = 8 }))
    (cond c (Some (record { count = 2; width = 16 })) (cond d (Some (record { count = 1; width = 32 })) None)))) P
one_layout P none row_to true b c d = none
one_layout P none row_to false true c d = row_to 4 8 (omega arith) (omega arith)
one_layout P none row_to false false true d = row_to 2 16 (omega arith) (omega arith)
one_layout P none row_to false false false true = row_to 1 32 (omega arith) (omega arith)
one_layout P none row_to false false false false = tt

two_layout : (P : WordLayout → Type 0) → P (record { count = 0; width = 0 })
    → ((count width : ℕ) → 0 < width → count ≤ 7 → P (record { count = count; width = width }))
    → (a b c d p q r s t u : Bool) → IfSome {T = WordLayout} (cond a (Some (record { count = 0; width = 0 }))
    (cond b (Some (record { count = 4; width = 8 }))
    (cond c
    (cond p (Some (record { count = 1; width = 30 })) (cond q (Some (record { count = 2; width = 15 }))
    (cond r (Some (record { count = 3; width = 10 })) None)))
    (cond d
    (cond s (Some (record { count = 5; width = 6 })) (cond t (Some (record { count = 6; width = 5 }))
    (cond u (Some (record { count = 7; width = 4 })) None)))
    None)))) P
two_layout P none row_to true b c d p q r s t u = none
two_layout P none row_to false true c d p q r s t u = row_to 4 8 (omega arith) (omega arith)
two_layout P none row_to false false true d true q r s t u = row_to 1 30 (omega arith) (omega arith)
two_layout P none row_to false false true d false true r s t u = row_to 2 15 (omega arith) (omega arith)
two_layout P none row_to false false true d false false true s t u = row_to 3 10 (omega arith) (omega arith)
two_layout P none row_to false false true d false false false s t u = tt
two_layout P none row_to false false false true p q r true t u = row_to 5 6 (omega arith) (omega arith)
two_layout P none row_to false false false true p q r false true u = row_to 6 5 (omega arith) (omega arith)
two_layout P none row_to false false false true p q r false false true = row_to 7 4 (omega arith) (omega arith)
two_layout P none row_to false false false true p q r false false false = tt
two_layout P none row_to false false false false p q r s t u = tt

-- what the rows of both tables have
each_layout : (P : WordLayout → Type 0) → P (record { count = 0; width = 0 })
    → ((count width : ℕ) → 0 < width → count ≤ 7 → P (record { count = count; width = width }))
    → (version : Version) (code top : ℕ) → IfSome (layout_of version code top) P
each_layout P none row_to One code top = one_layout P none row_to (code == 0) (code == 1) (code == 2) (code == 3)
each_layout P none row_to Two code top =
    two_layout P none row_to (code == 0) (code == 1) (code == 2) (code == 3) (top == 1) (top == 2) (top == 3) (top == 0)
    (top == 1) (top == 2)

pub has_bits : (version : Version) (code top : ℕ) → IfSome (layout_of version code top) HasBits
unfolding HasBits
has_bits = each_layout HasBits (λ some. absurd (omega (arith, some))) (λ count width positive few some. positive)

-- at most seven fields
pub has_few : (version : Version) (code top : ℕ) → IfSome (layout_of version code top) (λ d. d.count ≤ 7)
has_few = each_layout (λ d. d.count ≤ 7) (omega arith) (λ count width positive few. few)

pub bits_of_fields : (version : Version) (code top : ℕ) (d : WordLayout) → layout_of version code top ≡ Some d
    → 0 < d.count → 0 < d.width
unfolding HasBits
bits_of_fields version code top d layout = subst (λ o. IfSome o HasBits) layout (has_bits version code top)

-- digits after a number
pub number_after : (b n : ℕ) (ds : List ℕ) → number_from_digits_after b n ds
    ≡ n * b ^ length ds + number_from_digits_after b 0 ds
number_after b n [] =
    let one : b ^ 0 ≡ 1 = simp pow-zero in
    let same : n ≡ n * 1 + 0 = omega arith in
    same ∙ ap (λ p. n * p + 0) (sym one)
number_after b n (d ∷ ds) =
    let p : b ^ suc (length ds) ≡ b ^ length ds * b = pow-suc b (length ds) in
    let e : number_from_digits_after b (n * b + d) ds
    ≡ (n * b + d) * b ^ length ds + number_from_digits_after b 0 ds = number_after b (n * b + d) ds in
    let f : number_from_digits_after b (0 * b + d) ds
    ≡ (0 * b + d) * b ^ length ds + number_from_digits_after b 0 ds = number_after b (0 * b + d) ds in
    e ∙ regroup (b ^ length ds) (b ^ suc (length ds)) (number_from_digits_after b 0 ds)
    (number_from_digits_after b (0 * b + d) ds) p f
  where
    regroup : (q r x y : ℕ) → r ≡ q * b → y ≡ (0 * b + d) * q + x → (n * b + d) * q + x ≡ n * r + y
    regroup q r x y e f = rw (e, f) (omega arith)

-- the field of a number has no other
field_is_one : (x y : ℤ) (width : ℕ) → 0 < width → FitsBits width x → FitsBits width y
    → twos_complement width x ≡ twos_complement width y → x ≡ y
field_is_one (pos m) (pos n) width positive f g e = ap pos e
field_is_one (pos m) (negsuc n) width positive f g e = let half = power_is_half width positive in absurd (omega arith)
field_is_one (negsuc m) (pos n) width positive f g e = let half = power_is_half width positive in absurd (omega arith)
field_is_one (negsuc m) (negsuc n) width positive f g e = let half = power_is_half width positive in
    ap negsuc (omega arith)

fields_are_one : (width : ℕ) (xs ys : List ℤ) → 0 < width → length xs ≡ length ys
    → AllByRecursion (FitsBits width) xs → AllByRecursion (FitsBits width) ys
    → joined_fields width xs ≡ joined_fields width ys → xs ≡ ys
fields_are_one width [] [] positive size f g e = refl
fields_are_one width [] (y ∷ ys) positive size f g e = absurd (omega arith)
fields_are_one width (x ∷ xs) [] positive size f g e = absurd (omega arith)
fields_are_one width (x ∷ xs) (y ∷ ys) positive size f g e =
    let b = 2 ^ width in
    let p = b ^ length xs in
    let same : length xs ≡ length ys = omega arith in
    let first = twos_complement width x in
    let second = twos_complement width y in
    let left : joined_fields width (x ∷ xs) ≡ first * p + joined_fields width xs =
    number_after b (0 * b + first) (map (twos_complement width) xs)
    ∙ ap (λ n. (0 * b + first) * b ^ n + joined_fields width xs) (length-map xs (twos_complement width))
    ∙ ap (λ n. n * p + joined_fields width xs) (zero_first b first) in
    let right : joined_fields width (y ∷ ys) ≡ second * p + joined_fields width ys =
    number_after b (0 * b + second) (map (twos_complement width) ys)
    ∙ ap (λ n. (0 * b + second) * b ^ n + joined_fields width ys) (length-map ys (twos_complement width) ∙ sym same)
    ∙ ap (λ n. n * p + joined_fields width ys) (zero_first b second) in
    let below_left : joined_fields width xs < p =
    subst (λ n. joined_fields width xs < n) (sym (pow_pow 2 width (length xs)))
    (joined_fields_lt width xs positive f.1) in
    let below_right : joined_fields width ys < p =
    subst (λ n. joined_fields width ys < n) (sym (pow_pow 2 width (length xs)))
    (subst (λ n. joined_fields width ys < 2 ^ (n * width)) (sym same) (joined_fields_lt width ys positive g.1)) in
    let both = same_from_place first (joined_fields width xs) second
    (joined_fields width ys) p below_left below_right (sym left ∙ e ∙ right) in
    let head : x ≡ y = field_is_one x y width positive f.0 g.0 both.0 in
    let tail : xs ≡ ys = fields_are_one width xs ys positive same f.1 g.1 both.1 in
    ap (λ z. z ∷ xs) head ∙ ap (λ zs. y ∷ zs) tail
  where
    zero_first : (b n : ℕ) → 0 * b + n ≡ n
    zero_first b n = omega arith

same_fields : (word : ℕ) (xs ys : List ℤ) (o : Option WordLayout) → IfSome o HasBits
    → IsSomeAnd o (AreFields word xs) → IsSomeAnd o (AreFields word ys) → xs ≡ ys
unfolding HasBits
same_fields word xs ys None bits f g = absurd f
same_fields word [] [] (Some d) bits f g = refl
same_fields word [] (y ∷ ys) (Some d) bits f g = let e : 0 ≡ suc (length ys) = f.count ∙ sym g.count in
    absurd (omega arith)
same_fields word (x ∷ xs) ys (Some d) bits f g =
    fields_are_one d.width (x ∷ xs) ys (bits (some f.count)) (f.count ∙ sym g.count) f.fit g.fit (sym f.bits ∙ g.bits)
  where
    some : suc (length xs) ≡ d.count → 0 < d.count
    some e = omega arith

pub holds_one : (version : Version) (code word : ℕ) (xs ys : List ℤ) → Holds version code word xs
    → Holds version code word ys → xs ≡ ys
holds_one version code word xs ys f g = same_fields word xs ys (layout_of version code (word / 2 ^ 30))
    (has_bits version code (word / 2 ^ 30)) f g

pub undefined_holds_none : (version : Version) (code word : ℕ) (xs : List ℤ) → IsUndefinedWord version code word
    → Holds version code word xs → ⊥
undefined_holds_none version code word xs undefined holds =
    subst (λ layout. IsSomeAnd layout (AreFields word xs)) undefined holds
