-- The groups of Steim-2, in the form in which each part of a group is a group.
use Rattle.std.specs.Prelude.{◌≡◌, ℕ, zero, suc, ◌+◌, ◌-◌, ◌^◌, ◌<◌, ◌≤◌, ◌≤ℤ◌, ◌↔◌, ℤ, pos, negsuc, neg_ℤ, List, [], ◌∷◌, ◌++◌, length, All, Some}
use Rattle.std.specs.List.{AllByRecursion}
use Rattle.std.proofs.Common.{arith, true, refl, subst, inl, inr, length-append}
use Rattle.std.proofs.lemmas.Int.{ints}
use Rattle.std.proofs.lemmas.Nat.{pow_pos}
use Rattle.std.proofs.lemmas.Bool.{cases_lt}
use Rattle.std.proofs.lemmas.List.{take_at, drop_at}
use Rattle.std.proofs.lemmas.List.Elements.{All-nil, All-cons, All-head, All-tail, All-weaker, All-take, All-drop}
use Rattle.msr_base.specs.declared.storage.Version.TheVariants.{Two}
use Rattle.msr_steim.specs.Word.{AreGroups, FitsBits, IsGroup, group_width}
use Rattle.msr_words.specs.Division.{CanDivide}
use Rattle.msr_words.specs.Groups.{IsCapacity, IsOneBelow}
use Rattle.msr_words.specs.Lemmas.LeastCounts.{a_group_has_few, too_many}
use Rattle.msr_words.proofs.Parts.{HasDivision, HasParts}

-- the number is one of that many bits, in two's complement
abbrev pub IsOfBits : ℕ → ℤ → Type 0
IsOfBits bits d = (neg_ℤ (pos (2 ^ (bits - 1))) ≤ℤ d) × (d ≤ℤ pos (2 ^ (bits - 1) - 1))

-- how many bits each difference has in a Steim-2 word of the given number of them: if there are 1,
-- 2, 3, 4, 5, 6 or 7, each has 30, 15, 10, 8, 6, 5 or 4 bits
abbrev pub steim2_bits : ℕ → ℕ
steim2_bits zero = 0
steim2_bits (suc zero) = 30
steim2_bits (suc (suc zero)) = 15
steim2_bits (suc (suc (suc zero))) = 10
steim2_bits (suc (suc (suc (suc zero)))) = 8
steim2_bits (suc (suc (suc (suc (suc zero))))) = 6
steim2_bits (suc (suc (suc (suc (suc (suc zero)))))) = 5
steim2_bits (suc (suc (suc (suc (suc (suc (suc more))))))) = 4

-- the differences stand in one Steim-2 word
pub record IsSteim2Group (ds : List ℤ) : Type 0 where
  pub some : 1 ≤ length ds
  pub most : length ds ≤ 7
  pub bits : All (IsOfBits (steim2_bits (length ds))) ds

-- ---- the same as the groups of words

pub bits_to : (w : ℕ) (z : ℤ) → FitsBits w z → IsOfBits w z
bits_to w (pos n) fits = let p : 0 < 2 ^ (w - 1) = pow_pos (w - 1) in (omega (arith, ints), omega (arith, ints))
bits_to w (negsuc n) fits = let p : 0 < 2 ^ (w - 1) = pow_pos (w - 1) in (omega (arith, ints), omega (arith, ints))

pub bits_from : (w : ℕ) (z : ℤ) → IsOfBits w z → FitsBits w z
bits_from w (pos n) is = let p : 0 < 2 ^ (w - 1) = pow_pos (w - 1) in omega (arith, ints)
bits_from w (negsuc n) is = omega (arith, ints)

pub all_to : (w : ℕ) (zs : List ℤ) → AllByRecursion (FitsBits w) zs → All (IsOfBits w) zs
all_to w [] all = All-nil (IsOfBits w)
all_to w (z ∷ zs) all = All-cons (IsOfBits w) z zs (bits_to w z all.0) (all_to w zs all.1)

pub all_from : (w : ℕ) (zs : List ℤ) → All (IsOfBits w) zs → AllByRecursion (FitsBits w) zs
all_from w [] all = tt
all_from w (z ∷ zs) all = (
  bits_from w z (All-head (IsOfBits w) z zs all),
  all_from w zs
      (All-tail (IsOfBits w) z zs all),
)

pub group_to : (g : List ℤ) → IsGroup Two g → IsSteim2Group g
group_to [] is = absurd is
group_to (a ∷ []) is = record { some = omega arith; most = omega arith; bits = all_to 30 (a ∷ []) is }
group_to (a ∷ b ∷ []) is = record { some = omega arith; most = omega arith; bits = all_to 15 (a ∷ b ∷ []) is }
group_to (a ∷ b ∷ c ∷ []) is = record { some = omega arith; most = omega arith; bits = all_to 10 (a ∷ b ∷ c ∷ []) is }
group_to (a ∷ b ∷ c ∷ d ∷ []) is = record {
  some = omega arith;
  most = omega arith;
  bits = all_to 8 (a ∷ b ∷ c ∷ d ∷ []) is;
}
group_to (a ∷ b ∷ c ∷ d ∷ e ∷ []) is = record
    { some = omega arith; most = omega arith; bits = all_to 6 (a ∷ b ∷ c ∷ d ∷ e ∷ []) is }
group_to (a ∷ b ∷ c ∷ d ∷ e ∷ f ∷ []) is = record
    { some = omega arith; most = omega arith; bits = all_to 5 (a ∷ b ∷ c ∷ d ∷ e ∷ f ∷ []) is }
group_to (a ∷ b ∷ c ∷ d ∷ e ∷ f ∷ g ∷ []) is =
    record { some = omega arith; most = omega arith; bits = all_to 4 (a ∷ b ∷ c ∷ d ∷ e ∷ f ∷ g ∷ []) is }
group_to (a ∷ b ∷ c ∷ d ∷ e ∷ f ∷ g ∷ h ∷ zs) is = let few =
    (a_group_has_few Two true (a ∷ b ∷ c ∷ d ∷ e ∷ f ∷ g ∷ h ∷ zs) is).1 in absurd (omega arith)

pub group_from : (g : List ℤ) → IsSteim2Group g → IsGroup Two g
group_from [] is = let s = is.some in absurd (omega arith)
group_from (a ∷ []) is = all_from 30 (a ∷ []) is.bits
group_from (a ∷ b ∷ []) is = all_from 15 (a ∷ b ∷ []) is.bits
group_from (a ∷ b ∷ c ∷ []) is = all_from 10 (a ∷ b ∷ c ∷ []) is.bits
group_from (a ∷ b ∷ c ∷ d ∷ []) is = all_from 8 (a ∷ b ∷ c ∷ d ∷ []) is.bits
group_from (a ∷ b ∷ c ∷ d ∷ e ∷ []) is = all_from 6 (a ∷ b ∷ c ∷ d ∷ e ∷ []) is.bits
group_from (a ∷ b ∷ c ∷ d ∷ e ∷ f ∷ []) is = all_from 5 (a ∷ b ∷ c ∷ d ∷ e ∷ f ∷ []) is.bits
group_from (a ∷ b ∷ c ∷ d ∷ e ∷ f ∷ g ∷ []) is = all_from 4 (a ∷ b ∷ c ∷ d ∷ e ∷ f ∷ g ∷ []) is.bits
group_from (a ∷ b ∷ c ∷ d ∷ e ∷ f ∷ g ∷ h ∷ zs) is = let m = is.most in absurd (omega arith)

groups_to : (gs : List (List ℤ)) → AreGroups Two gs → All IsSteim2Group gs
groups_to [] are = All-nil IsSteim2Group
groups_to (g ∷ []) are = All-cons IsSteim2Group g [] (group_to g are) (All-nil IsSteim2Group)
groups_to (g ∷ h ∷ gs) are = All-cons IsSteim2Group g (h ∷ gs) (group_to g are.0) (groups_to (h ∷ gs) are.1)

groups_from : (gs : List (List ℤ)) → All IsSteim2Group gs → AreGroups Two gs
groups_from [] all = tt
groups_from (g ∷ []) all = group_from g (All-head IsSteim2Group g [] all)
groups_from (g ∷ h ∷ gs) all = (
  group_from g (All-head IsSteim2Group g (h ∷ gs) all),
  groups_from (h ∷ gs)
      (All-tail IsSteim2Group g (h ∷ gs) all),
)

-- a division without an order of its groups is a division
pub division_to : (n : ℕ) (ds : List ℤ) → CanDivide Two n ds → HasDivision IsSteim2Group n ds
division_to n ds can = (
  can.groups,
  record {
    all_groups = groups_to can.groups can.are_groups;
    joined = can.join;
    few = can.few;
  },
)

pub division_from : (n : ℕ) (ds : List ℤ) → HasDivision IsSteim2Group n ds → CanDivide Two n ds
division_from n ds (groups, d) = record {
  groups = groups;
  are_groups = groups_from groups d.all_groups;
  join = d.joined;
  few = d.few;
}

-- ---- parts

step : (d : ℤ) (n : ℕ) → IsOfBits (steim2_bits (suc (suc n))) d → IsOfBits (steim2_bits (suc n)) d
step d zero h = (omega (arith, ints), omega (arith, ints))
step d (suc zero) h = (omega (arith, ints), omega (arith, ints))
step d (suc (suc zero)) h = (omega (arith, ints), omega (arith, ints))
step d (suc (suc (suc zero))) h = (omega (arith, ints), omega (arith, ints))
step d (suc (suc (suc (suc zero)))) h = (omega (arith, ints), omega (arith, ints))
step d (suc (suc (suc (suc (suc zero))))) h = (omega (arith, ints), omega (arith, ints))
step d (suc (suc (suc (suc (suc (suc n)))))) h = h

-- what fits if more differences share a word fits if fewer do
pub fewer_wider : (d : ℤ) (m n : ℕ) → 1 ≤ m → m ≤ n → IsOfBits (steim2_bits n) d → IsOfBits (steim2_bits m) d
fewer_wider d m zero l h bits = absurd (omega arith)
fewer_wider d m (suc zero) l h bits = let e : 1 ≡ m = omega arith in subst (λ k. IsOfBits (steim2_bits k) d) e bits
fewer_wider d m (suc (suc n)) l h bits = elim (cases_lt m (suc (suc n))) [
  | inl less ↦ fewer_wider d m (suc n) l (omega arith) (step d n bits)
  | inr same ↦ let e : suc (suc n) ≡ m = omega arith in subst (λ k. IsOfBits (steim2_bits k) d) e bits
]

pub steim2_parts : HasParts IsSteim2Group
steim2_parts = record {
  front = λ xs ys some group. record {
    some = some;
    most = (let m = group.most in let l = length-append xs ys in omega arith);
    bits = All-weaker (IsOfBits (steim2_bits (length (xs ++ ys)))) (IsOfBits (steim2_bits (length xs)))
        (λ d. fewer_wider d (length xs) (length (xs ++ ys)) some (let l = length-append xs ys in omega arith)) xs
        (subst (All (IsOfBits (steim2_bits (length (xs ++ ys))))) (take_at xs ys (length xs) refl)
        (All-take (IsOfBits (steim2_bits (length (xs ++ ys)))) (length xs) (xs ++ ys) group.bits));
  };
  back = λ xs ys some group. record {
    some = some;
    most = (let m = group.most in let l = length-append xs ys in omega arith);
    bits = All-weaker (IsOfBits (steim2_bits (length (xs ++ ys)))) (IsOfBits (steim2_bits (length ys)))
        (λ d. fewer_wider d (length ys) (length (xs ++ ys)) some (let l = length-append xs ys in omega arith)) ys
        (subst (All (IsOfBits (steim2_bits (length (xs ++ ys))))) (drop_at xs ys (length xs) refl)
        (All-drop (IsOfBits (steim2_bits (length (xs ++ ys)))) (length xs) (xs ++ ys) group.bits));
  };
  some = λ group. (let s = group.some in absurd (omega arith));
}

-- ---- the capacity of a word

pub row : (n : ℕ) → 1 ≤ n → n ≤ 7 → group_width Two n ≡ Some (steim2_bits n)
row zero l h = absurd (omega arith)
row (suc zero) l h = refl
row (suc (suc zero)) l h = refl
row (suc (suc (suc zero))) l h = refl
row (suc (suc (suc (suc zero)))) l h = refl
row (suc (suc (suc (suc (suc zero))))) l h = refl
row (suc (suc (suc (suc (suc (suc zero)))))) l h = refl
row (suc (suc (suc (suc (suc (suc (suc zero))))))) l h = refl
row (suc (suc (suc (suc (suc (suc (suc (suc n)))))))) l h = absurd (omega arith)

pub row_of : (n width : ℕ) → group_width Two n ≡ Some width → (1 ≤ n) × (n ≤ 7) × (steim2_bits n ≡ width)
row_of zero width e = absurd (cc)
row_of (suc zero) width e = (omega arith, omega arith, cc)
row_of (suc (suc zero)) width e = (omega arith, omega arith, cc)
row_of (suc (suc (suc zero))) width e = (omega arith, omega arith, cc)
row_of (suc (suc (suc (suc zero)))) width e = (omega arith, omega arith, cc)
row_of (suc (suc (suc (suc (suc zero))))) width e = (omega arith, omega arith, cc)
row_of (suc (suc (suc (suc (suc (suc zero)))))) width e = (omega arith, omega arith, cc)
row_of (suc (suc (suc (suc (suc (suc (suc zero))))))) width e = (omega arith, omega arith, cc)
row_of (suc (suc (suc (suc (suc (suc (suc (suc n)))))))) width e =
    let none = too_many Two (suc (suc (suc (suc (suc (suc (suc (suc n)))))))) (omega arith) in absurd (cc)

pub capacity_at : (d : ℤ) (capacity n : ℕ) → IsCapacity d capacity → 1 ≤ n → n ≤ 7
    → (IsOfBits (steim2_bits n) d ↔ n ≤ capacity)
capacity_at d capacity n is l h =
    let e = is.exact n (steim2_bits n) (row n l h) in
    (λ bits. e.0 (bits_from (steim2_bits n) d bits), λ le. bits_to (steim2_bits n) d (e.1 le))

module _ (size a b c e f g h : ℕ) (a_is : IsOneBelow size 536870912 a) (b_is : IsOneBelow size 16384 b)
    (c_is : IsOneBelow size 512 c) (e_is : IsOneBelow size 128 e)
    (f_is : IsOneBelow size 32 f) (g_is : IsOneBelow size 16 g) (h_is : IsOneBelow size 8 h) where
  one_below : size < 536870912 ↔ 1 ≤ ((a + b + c) + e) + (f + g + h)
  one_below = (λ s. grind (arith), λ n. grind (arith))

  two_below : size < 16384 ↔ 2 ≤ ((a + b + c) + e) + (f + g + h)
  two_below = (λ s. grind (arith), λ n. grind (arith))

  three_below : size < 512 ↔ 3 ≤ ((a + b + c) + e) + (f + g + h)
  three_below = (λ s. grind (arith), λ n. grind (arith))

  four_below : size < 128 ↔ 4 ≤ ((a + b + c) + e) + (f + g + h)
  four_below = (λ s. grind (arith), λ n. grind (arith))

  five_below : size < 32 ↔ 5 ≤ ((a + b + c) + e) + (f + g + h)
  five_below = (λ s. grind (arith), λ n. grind (arith))

  six_below : size < 16 ↔ 6 ≤ ((a + b + c) + e) + (f + g + h)
  six_below = (λ s. grind (arith), λ n. grind (arith))

  seven_below : size < 8 ↔ 7 ≤ ((a + b + c) + e) + (f + g + h)
  seven_below = (λ s. grind (arith), λ n. grind (arith))

pub capacity_is : (d : ℤ) (size a b c e f g h : ℕ) → ((width : ℕ) → (FitsBits width d ↔ size < 2 ^ (width - 1))) →
    IsOneBelow size 536870912 a → IsOneBelow size 16384 b → IsOneBelow size 512 c → IsOneBelow size 128 e
    → IsOneBelow size 32 f → IsOneBelow size 16 g → IsOneBelow size 8 h →
    IsCapacity d (((a + b + c) + e) + (f + g + h))
capacity_is d size a b c e f g h size_is ai bi ci ei fi gi hi = record {
  most = (let p = ai.most in let q = bi.most in let r = ci.most in let s = ei.most in let t = fi.most in
      let u = gi.most in let v = hi.most in omega arith);
  exact = exact;
}
  where
    through : (width n : ℕ) → (size < 2 ^ (width - 1) ↔ n ≤ ((a + b + c) + e) + (f + g + h))
        → (FitsBits width d ↔ n ≤ ((a + b + c) + e) + (f + g + h))
    through width n is = (λ fits. is.0 ((size_is width).0 fits), λ le. (size_is width).1 (is.1 le))

    here : (n : ℕ) → 1 ≤ n → n ≤ 7 → (FitsBits (steim2_bits n) d ↔ n ≤ ((a + b + c) + e) + (f + g + h))
    here zero l m = absurd (omega arith)
    here (suc zero) l m = through 30 1 (one_below size a b c e f g h ai bi ci ei fi gi hi)
    here (suc (suc zero)) l m = through 15 2 (two_below size a b c e f g h ai bi ci ei fi gi hi)
    here (suc (suc (suc zero))) l m = through 10 3 (three_below size a b c e f g h ai bi ci ei fi gi hi)
    here (suc (suc (suc (suc zero)))) l m = through 8 4 (four_below size a b c e f g h ai bi ci ei fi gi hi)
    here (suc (suc (suc (suc (suc zero))))) l m = through 6 5 (five_below size a b c e f g h ai bi ci ei fi gi hi)
    here (suc (suc (suc (suc (suc (suc zero)))))) l m = through 5 6 (six_below size a b c e f g h ai bi ci ei fi gi hi)
    here (suc (suc (suc (suc (suc (suc (suc zero))))))) l m =
        through 4 7 (seven_below size a b c e f g h ai bi ci ei fi gi hi)
    here (suc (suc (suc (suc (suc (suc (suc (suc n)))))))) l m = absurd (omega arith)

    exact : (n width : ℕ) → group_width Two n ≡ Some width → (FitsBits width d ↔ n ≤ ((a + b + c) + e) + (f + g + h))
    exact n width is =
        let r = row_of n width is in
        subst (λ w. FitsBits w d ↔ n ≤ ((a + b + c) + e) + (f + g + h)) r.2 (here n r.0 r.1)
