-- The first Steim-1 group by the differences that follow, if four of 8 bits do not stand in the way.
use Rattle.std.proofs.Common.{◌≡◌, ◌<◌, ◌≤◌, ℕ, zero, suc, ◌+◌, ◌-◌, ℤ, pos, Bool, true, false, eqb, List, [], ◌∷◌, length, take, drop, get_or, sym, ◌∙◌, subst, arith, inl, inr, lit<, lit≤, bit_or}
use Rattle.std.specs.List.{AllByRecursion}
use Rattle.std.proofs.lemmas.Bool.{cases_lt, eq-eqb}
use Rattle.std.proofs.lemmas.Map.Views.{exact_unsigned_eq}
use Rattle.std.proofs.lemmas.List.{drop_all, length-drop, length-take-le}
use Rattle.std.proofs.lemmas.Nat.{le_or_l, le_or_r, or_lt}
use Rattle.msr_base.specs.declared.storage.Version.TheVariants.{One}
use Rattle.msr_steim.specs.Word.{FitsBits, IsGroup, IsGroupAt, IsInnerGroup}
use Rattle.msr_words.specs.Bounds.{BeginsWithFour, IsBeforeFour}
use Rattle.msr_words.specs.Division.{CanDivide}
use Rattle.msr_words.specs.FirstGroup.{IsCanonicalFirst, IsFewestGroups, IsSizeAt}
use Rattle.msr_words.specs.Steim1Reach.{BeginsWithThree, IsOfBitsAt}
use Rattle.msr_words.specs.Lemmas.LeastCounts.{a_group_has_few}
use Rattle.msr_words.specs.Lemmas.SteimLaws.{all_more, none_divides, one_has_few}
use Rattle.msr_words.proofs.WrittenDivision.{at_place_is, divides_can, DividesFrom}
use Rattle.msr_words.proofs.DivisionsExist.{can_more, first_size, has_division}
use Rattle.msr_words.proofs.FirstGroups.{at_end, inside}
use Rattle.msr_words.proofs.Steim1Words.{Shares, from_rest, group_four, group_one, group_three, group_two, shares_of, to_rest}
use Rattle.msr_words.proofs.WordRoom.{four_each, look_back_law}

-- ---- a division with a first group

more : (m n : ℕ) (ds : List ℤ) → m ≤ n → CanDivide One m ds → CanDivide One n ds
more m n ds le can = can_more One m n ds le can

-- one word more before others, which does not hold three
one_before : (n size : ℕ) (ds : List ℤ) → size ≤ length ds → IsGroup One (take size ds) → (size ≡ 3 → ⊥)
    → CanDivide One n (drop size ds) → CanDivide One (suc n) ds
one_before n size ds within is three can =
    let long = length-take-le size ds within in
    let same : n ≡ suc n - 1 = omega arith in
    divides_can One (suc n) size ds (record {
      within = within;
      some = omega arith;
      group = inside (eqb size (length ds)) (take size ds) is (λ e. three (omega arith));
      can = subst (λ m. CanDivide One m (drop size ds)) same can;
    })

-- the same holds if `n` words are left, of which this is one
after_one : (n size : ℕ) (ds : List ℤ) → 0 < n → size ≤ length ds → IsGroup One (take size ds) → (size ≡ 3 → ⊥)
    → CanDivide One (n - 1) (drop size ds) → CanDivide One n ds
after_one n size ds some within is three can =
    let same : suc (n - 1) ≡ n = omega arith in
    subst (λ m. CanDivide One m ds) same (one_before (n - 1) size ds within is three can)

-- the first group of a division
record FirstOf (n size : ℕ) (ds : List ℤ) : Type 0 where
  some : 0 < n
  within : size ≤ length ds
  group : IsGroup One (take size ds)
  can : CanDivide One (n - 1) (drop size ds)

-- if a division begins with one, two, three or four differences
by_first : (P : Type 0) (n : ℕ) (ds : List ℤ) → 0 < length ds → CanDivide One n ds → (FirstOf n 1 ds → P)
    → (FirstOf n 2 ds → P) → (FirstOf n 3 ds → P) → (FirstOf n 4 ds → P) → P
by_first P n ds some can p1 p2 p3 p4 = let first = first_size One n ds some can in go first.0 first.2
  where
    of : (size : ℕ) → DividesFrom One n size ds → FirstOf n size ds
    of size d = record {
      some = d.some;
      within = d.within;
      group = at_place_is One (eqb size (length ds)) (take size ds) d.group;
      can = d.can;
    }

    go : (size : ℕ) → DividesFrom One n size ds → P
    go zero d = let few = (a_group_has_few One true [] (of 0 d).group).0 in absurd (omega arith)
    go (suc zero) d = p1 (of 1 d)
    go (suc (suc zero)) d = p2 (of 2 d)
    go (suc (suc (suc zero))) d = p3 (of 3 d)
    go (suc (suc (suc (suc zero)))) d = p4 (of 4 d)
    go (suc (suc (suc (suc (suc size))))) d =
        let f = of (suc (suc (suc (suc (suc size))))) d in
        let few = one_has_few (take (suc (suc (suc (suc (suc size))))) ds) f.group in
        let long = length-take-le (suc (suc (suc (suc (suc size))))) ds f.within in
        absurd (omega arith)

-- ---- without the first differences

-- without the first difference one word more is enough
without_one : (n : ℕ) (d : ℤ) (ds : List ℤ) → CanDivide One n (d ∷ ds) → CanDivide One (suc n) ds
without_one n d ds can = by_first (CanDivide One (suc n) ds) n (d ∷ ds) (omega arith) can
    (λ f. more (n - 1) (suc n) ds (omega arith) f.can) (two ds) (three ds) (four ds)
  where
    two : (ds : List ℤ) → FirstOf n 2 (d ∷ ds) → CanDivide One (suc n) ds
    two [] f = let w = f.within in absurd (omega arith)
    two (e ∷ ds) f =
        let some = f.some in
        more n (suc n) (e ∷ ds) (omega arith) (after_one n 1 (e ∷ ds) some (omega arith)
        (all_more 16 32 (e ∷ []) (lit≤ tt) f.group.1) (λ h. omega arith) f.can)

    three : (ds : List ℤ) → FirstOf n 3 (d ∷ ds) → CanDivide One (suc n) ds
    three [] f = let w = f.within in absurd (omega arith)
    three (e ∷ []) f = let w = f.within in absurd (omega arith)
    three (e ∷ g ∷ ds) f =
        let some = f.some in
        more n (suc n) (e ∷ g ∷ ds) (omega arith) (after_one n 2 (e ∷ g ∷ ds) some (omega arith)
        (all_more 8 16 (e ∷ g ∷ []) (lit≤ tt) f.group.1) (λ h. omega arith) f.can)

    four : (ds : List ℤ) → FirstOf n 4 (d ∷ ds) → CanDivide One (suc n) ds
    four [] f = let w = f.within in absurd (omega arith)
    four (e ∷ []) f = let w = f.within in absurd (omega arith)
    four (e ∷ g ∷ []) f = let w = f.within in absurd (omega arith)
    four (e ∷ g ∷ h ∷ ds) f =
        let some = f.some in
        let rest : CanDivide One n (h ∷ ds) = after_one n 1 (h ∷ ds) some (omega arith)
        (all_more 8 32 (h ∷ []) (lit≤ tt) f.group.1.1.1) (λ h'. omega arith) f.can in
        one_before n 2 (e ∷ g ∷ h ∷ ds) (omega arith)
        (all_more 8 16 (e ∷ g ∷ []) (lit≤ tt) (f.group.1.0, (f.group.1.1.0, tt))) (λ h'. omega arith) rest

-- without the first two differences no word more is needed
without_two : (n : ℕ) (c d : ℤ) (ds : List ℤ) → CanDivide One n (c ∷ d ∷ ds) → CanDivide One n ds
without_two n c d ds can = by_first (CanDivide One n ds) n (c ∷ d ∷ ds) (omega arith) can
    (λ f. let some = f.some in let same : suc (n - 1) ≡ n = omega arith in
    subst (λ m. CanDivide One m ds) same (without_one (n - 1) d ds f.can))
    (λ f. more (n - 1) n ds (omega arith) f.can) (three ds) (four ds)
  where
    three : (ds : List ℤ) → FirstOf n 3 (c ∷ d ∷ ds) → CanDivide One n ds
    three [] f = let w = f.within in absurd (omega arith)
    three (e ∷ ds) f = after_one n 1 (e ∷ ds) f.some (omega arith) (all_more 8 32 (e ∷ []) (lit≤ tt) f.group.1.1)
        (λ h. omega arith) f.can

    four : (ds : List ℤ) → FirstOf n 4 (c ∷ d ∷ ds) → CanDivide One n ds
    four [] f = let w = f.within in absurd (omega arith)
    four (e ∷ []) f = let w = f.within in absurd (omega arith)
    four (e ∷ g ∷ ds) f = after_one n 2 (e ∷ g ∷ ds) f.some (omega arith)
        (all_more 8 16 (e ∷ g ∷ []) (lit≤ tt) f.group.1.1) (λ h. omega arith) f.can

-- nor without the first three
without_three : (n : ℕ) (b c d : ℤ) (ds : List ℤ) → CanDivide One n (b ∷ c ∷ d ∷ ds) → CanDivide One n ds
without_three n b c d ds can = by_first (CanDivide One n ds) n (b ∷ c ∷ d ∷ ds) (omega arith) can
    (λ f. more (n - 1) n ds (omega arith) (without_two (n - 1) c d ds f.can))
    (λ f. let some = f.some in let same : suc (n - 1) ≡ n = omega arith in
    subst (λ m. CanDivide One m ds) same (without_one (n - 1) d ds f.can))
    (λ f. more (n - 1) n ds (omega arith) f.can) (four ds)
  where
    four : (ds : List ℤ) → FirstOf n 4 (b ∷ c ∷ d ∷ ds) → CanDivide One n ds
    four [] f = let w = f.within in absurd (omega arith)
    four (e ∷ ds) f = after_one n 1 (e ∷ ds) f.some (omega arith) (all_more 8 32 (e ∷ []) (lit≤ tt) f.group.1.1.1)
        (λ h. omega arith) f.can

-- ---- the least number of groups

-- one word for each difference
divide_singly : (ds : List ℤ) → AllByRecursion (FitsBits 32) ds → CanDivide One (length ds) ds
divide_singly [] fits = none_divides One 0
divide_singly (d ∷ ds) fits = one_before (length ds) 1 (d ∷ ds) (omega arith) (fits.0, tt) (λ h. omega arith)
    (divide_singly ds fits.1)

pub fits_from : (n : ℕ) (ds : List ℤ) → AllByRecursion (FitsBits 32) ds → AllByRecursion (FitsBits 32) (drop n ds)
fits_from zero ds fits = fits
fits_from (suc n) [] fits = tt
fits_from (suc n) (d ∷ ds) fits = fits_from n ds fits.1

some_least : (ds : List ℤ) → AllByRecursion (FitsBits 32) ds → (number : ℕ) × IsFewestGroups ds number
some_least ds fits =
    let found = has_division One (length ds) ds (divide_singly ds fits) in (
      length found.groups,
      record {
        can = record {
          groups = found.groups;
          are_groups = found.canonical.are_groups;
          join = found.canonical.join;
          few = omega arith;
        };
        fewest = λ n can. let few = found.canonical.fewest can.groups can.are_groups can.join in
            let few' = can.few in omega arith;
      },
    )

-- ---- the first group

-- four of 8 bits, by their places
four_are : (ds : List ℤ) → BeginsWithThree ds → IsOfBitsAt ds 3 8 → BeginsWithFour ds
four_are [] three fourth = let l = fourth.0 in absurd (omega arith)
four_are (a ∷ []) three fourth = let l = fourth.0 in absurd (omega arith)
four_are (a ∷ b ∷ []) three fourth = let l = fourth.0 in absurd (omega arith)
four_are (a ∷ b ∷ c ∷ []) three fourth = let l = fourth.0 in absurd (omega arith)
four_are (a ∷ b ∷ c ∷ d ∷ ds) three fourth =
    record { enough = omega arith; small = (three.0.1, (three.1.1, (three.2.1, (fourth.1, tt)))) }

-- a group that others may follow, at its place
at_any : (last : Bool) (g : List ℤ) → IsInnerGroup One g → IsGroupAt One last g
at_any true g is = is.0
at_any false g is = is

-- without the second, if it does not begin four of 8 bits
without_next : (n : ℕ) (ds : List ℤ) → 2 ≤ length ds → (BeginsWithFour (drop 1 ds) → ⊥)
    → CanDivide One n (drop 1 ds) → CanDivide One n (drop 2 ds)
without_next n [] some apart can = absurd (omega arith)
without_next n (a ∷ []) some apart can = absurd (omega arith)
without_next n (a ∷ b ∷ ds) some apart can = look_back_law n b ds apart can

-- without all of the first four
after_four : (ds : List ℤ) → 4 ≤ length ds → (other n : ℕ) → 1 ≤ other → other ≤ 4 → (other ≡ 3 → ⊥)
    → CanDivide One n (drop other ds) → CanDivide One n (drop 4 ds)
after_four [] enough other n some most three can = absurd (omega arith)
after_four (a ∷ []) enough other n some most three can = absurd (omega arith)
after_four (a ∷ b ∷ []) enough other n some most three can = absurd (omega arith)
after_four (a ∷ b ∷ c ∷ []) enough other n some most three can = absurd (omega arith)
after_four (a ∷ b ∷ c ∷ d ∷ ds) enough zero n some most three can = absurd (omega arith)
after_four (a ∷ b ∷ c ∷ d ∷ ds) enough (suc zero) n some most three can = without_three n b c d ds can
after_four (a ∷ b ∷ c ∷ d ∷ ds) enough (suc (suc zero)) n some most three can = without_two n c d ds can
after_four (a ∷ b ∷ c ∷ d ∷ ds) enough (suc (suc (suc zero))) n some most three can = absurd (three (omega arith))
after_four (a ∷ b ∷ c ∷ d ∷ ds) enough (suc (suc (suc (suc zero)))) n some most three can = can
after_four (a ∷ b ∷ c ∷ d ∷ ds) enough (suc (suc (suc (suc (suc other))))) n some most three can = absurd (omega arith)

module _ (ds : List ℤ) (fits : AllByRecursion (FitsBits 32) ds) where
  -- a first group of this size, if no other has more differences or leaves fewer groups
  first_where : (size : ℕ) → size ≤ length ds → IsGroupAt One (eqb size (length ds)) (take size ds)
      → ((other n : ℕ) → other ≤ length ds → IsGroupAt One (eqb other (length ds)) (take other ds)
      → Shares ds 0 other → CanDivide One n (drop other ds) → (other ≤ size) × CanDivide One n (drop size ds))
      → IsCanonicalFirst ds size
  first_where size within group best =
      let least = some_least (drop size ds) (fits_from size ds fits) in (
        least.0,
        record {
          within = within;
          group = group;
          left = least.1;
          best = λ other n within' group' can.
              let shares = shares_of ds 0 other (omega arith)
              (at_place_is One (eqb other (length ds)) (take other ds) group') in
              let b = best other n within' group' shares can in
              (least.1.fewest n b.1, λ le. b.0);
        },
      )

  some_of : 0 < length ds → FitsBits 32 (get_or ds 0 (pos 0))
  some_of some = go ds fits some
    where
      go : (xs : List ℤ) → AllByRecursion (FitsBits 32) xs → 0 < length xs → FitsBits 32 (get_or xs 0 (pos 0))
      go [] all h = absurd (omega arith)
      go (x ∷ xs) all h = all.0

  -- one difference, if the first two do not stand together
  single_first : 0 < length ds → (IsOfBitsAt ds 0 16 → IsOfBitsAt ds 1 16 → ⊥) → IsCanonicalFirst ds 1
  single_first some apart = first_where 1 some
      (at_any (eqb 1 (length ds)) (take 1 ds) (group_one ds (some, some_of some)))
      (λ other n within group shares can.
      let one : other ≡ 1 = elim (cases_lt 1 other) [
        | inl many ↦ absurd (apart (shares.all_16 many 0 (omega arith) (omega arith))
            (shares.all_16 many 1 (omega arith) (omega arith)))
        | inr few ↦ (let s = shares.some in omega arith)
      ] in
      (omega arith, subst (λ k. CanDivide One n (drop k ds)) one can))

  -- two, if neither they nor the second begin four of 8 bits, and they are not two of three of 8 bits that are left
  two_first : IsOfBitsAt ds 0 16 → IsOfBitsAt ds 1 16 → (BeginsWithFour ds → ⊥) → (BeginsWithFour (drop 1 ds) → ⊥)
      → (length ds ≡ 3 → BeginsWithThree ds → ⊥) → IsCanonicalFirst ds 2
  two_first first second here next three = first_where 2 (omega (arith, second.0))
      (at_any (eqb 2 (length ds)) (take 2 ds) (group_two ds first second))
      (λ other n within group shares can.
      elim (cases_lt 2 other) [
        | inr few ↦ elim (cases_lt 1 other) [
          | inl two ↦ (let same : other ≡ 2 = omega arith in (few, subst (λ k. CanDivide One n (drop k ds)) same can))
          | inr less ↦
              let some = shares.some in
              let one : other ≡ 1 = omega arith in
              (few, without_next n ds (omega (arith, second.0)) next (subst (λ k. CanDivide One n (drop k ds)) one can))
        ]
        | inl many ↦
            let of_8 = λ (k : ℕ) (less : k < other). shares.all_8 many k (omega arith) (omega arith) in
            elim (cases_lt 3 other) [
              | inl four ↦ absurd (here (four_are ds (
                of_8 0 (omega arith),
                of_8 1 (omega arith),
                of_8 2
                    (omega arith),
              ) (of_8 3 four)))
              | inr last ↦
                  let long : length (take other ds) ≡ 3 = length-take-le other ds within ∙ omega arith in
                  let end = at_end (eqb other (length ds)) (take other ds) group long in
                  absurd (three (sym (exact_unsigned_eq other (length ds) end) ∙ omega arith)
                  (of_8 0 (omega arith), of_8 1 (omega arith), of_8 2 (omega arith)))
            ]
      ])

  -- three, if they are all that is left
  three_first : length ds ≡ 3 → BeginsWithThree ds → IsCanonicalFirst ds 3
  three_first all three = first_where 3 (omega arith)
      (subst (λ b. IsGroupAt One b (take 3 ds)) (sym (eq-eqb 3 (length ds) (sym all))) (group_three ds three))
      (λ other n within group shares can. (
        omega arith,
        subst (CanDivide One n) (sym (drop_all 3 ds (omega arith)))
            (none_divides One n),
      ))

  -- four of 8 bits
  four_first : BeginsWithThree ds → IsOfBitsAt ds 3 8 → IsCanonicalFirst ds 4
  four_first three fourth = first_where 4 (omega (arith, fourth.0))
      (at_any (eqb 4 (length ds)) (take 4 ds) (group_four ds three fourth))
      (λ other n within group shares can.
      let not_three : other ≡ 3 → ⊥ = λ e.
      let long : length (take other ds) ≡ 3 = length-take-le other ds within ∙ e in
      let end = exact_unsigned_eq other (length ds) (at_end (eqb other (length ds)) (take other ds) group long) in
      omega (arith, fourth.0) in
      (shares.most, after_four ds (omega (arith, fourth.0)) other n shares.some shares.most not_three can))

-- ---- by the sizes of the differences

-- each of the first four
four_at : (ds : List ℤ) (k : ℕ) → BeginsWithFour ds → k < 4 → IsOfBitsAt ds k 8
four_at ds k four less = (let e = four.enough in omega arith, four_each ds k four less)

-- each of the four after the first
next_at : (ds : List ℤ) (k : ℕ) → BeginsWithFour (drop 1 ds) → k < 4 → IsOfBitsAt ds (1 + k) 8
next_at ds k four less = from_rest ds 1 k 8 (four_at (drop 1 ds) k four less)

module _ (ds : List ℤ) (one two : ℕ) (h1 : IsSizeAt ds 0 one) (h2 : IsSizeAt ds 1 two) where
  pair_bits : bit_or one two < 32768 → IsOfBitsAt ds 0 16 × IsOfBitsAt ds 1 16
  pair_bits small =
      let l = le_or_l one two in
      let r = le_or_r one two in
      ((h1 16 (lit≤ tt)).0 (omega arith), (h2 16 (lit≤ tt)).0 (omega arith))

  pub one_apart : AllByRecursion (FitsBits 32) ds → 0 < length ds → 32768 ≤ bit_or one two → IsCanonicalFirst ds 1
  one_apart fits some large = single_first ds fits some
      (λ a b. let small = or_lt 15 one two ((h1 16 (lit≤ tt)).1 a) ((h2 16 (lit≤ tt)).1 b) in omega arith)

  pub two_large : AllByRecursion (FitsBits 32) ds → bit_or one two < 32768 → 128 ≤ two → IsCanonicalFirst ds 2
  two_large fits small large =
      let bits = pair_bits small in
      let none = λ (b : IsOfBitsAt ds 1 8). let below = (h2 8 (lit≤ tt)).1 b in let never : ⊥ = omega arith in never in
      two_first ds fits bits.0 bits.1 (λ f. none (four_at ds 1 f (lit< tt))) (λ f. none (next_at ds 0 f (lit< tt)))
      (λ all t. none t.1)

-- three that are left
module _ (ds : List ℤ) (one two three : ℕ) (h1 : IsSizeAt ds 0 one) (h2 : IsSizeAt ds 1 two)
    (h3 : IsSizeAt ds 2 three) where
  pub three_left : AllByRecursion (FitsBits 32) ds → length ds ≡ 3 → two < 128 → bit_or one three < 128
      → IsCanonicalFirst ds 3
  three_left fits all small others =
      let l = le_or_l one three in
      let r = le_or_r one three in
      three_first ds fits all (
        (h1 8 (lit≤ tt)).0 (omega arith),
        (h2 8 (lit≤ tt)).0 small,
        (h3 8 (lit≤ tt)).0
            (omega arith),
      )

  pub two_left : AllByRecursion (FitsBits 32) ds → length ds ≡ 3 → bit_or one two < 32768 → 128 ≤ bit_or one three
      → IsCanonicalFirst ds 2
  two_left fits all small large =
      let bits = pair_bits ds one two h1 h2 small in
      two_first ds fits bits.0 bits.1 (λ f. let e = f.enough in absurd (omega arith))
      (λ f. let e = f.enough in let l = length-drop 1 ds in absurd (omega arith))
      (λ same t. let below = or_lt 7 one three ((h1 8 (lit≤ tt)).1 t.0) ((h3 8 (lit≤ tt)).1 t.2) in
      let never : ⊥ = omega arith in never)

-- if there may be four of 8 bits
module _ (ds : List ℤ) (one two three four : ℕ) (h1 : IsSizeAt ds 0 one) (h2 : IsSizeAt ds 1 two)
    (h3 : IsSizeAt ds 2 three) (h4 : IsSizeAt ds 3 four) where
  middle_small : IsOfBitsAt ds 1 8 → IsOfBitsAt ds 2 8 → IsOfBitsAt ds 3 8 → bit_or (bit_or two three) four < 128
  middle_small a b c = or_lt 7 (bit_or two three) four
      (or_lt 7 two three ((h2 8 (lit≤ tt)).1 a) ((h3 8 (lit≤ tt)).1 b)) ((h4 8 (lit≤ tt)).1 c)

  middle_bits : bit_or (bit_or two three) four < 128 → IsOfBitsAt ds 1 8 × IsOfBitsAt ds 2 8 × IsOfBitsAt ds 3 8
  middle_bits small =
      let l = le_or_l (bit_or two three) four in
      let r = le_or_r (bit_or two three) four in
      let l' = le_or_l two three in
      let r' = le_or_r two three in
      ((h2 8 (lit≤ tt)).0 (omega arith), (h3 8 (lit≤ tt)).0 (omega arith), (h4 8 (lit≤ tt)).0 (omega arith))

  pub two_few : AllByRecursion (FitsBits 32) ds → bit_or one two < 32768 → 128 ≤ bit_or (bit_or two three) four
      → (length ds ≡ 3 → ⊥) → IsCanonicalFirst ds 2
  two_few fits small large long =
      let bits = pair_bits ds one two h1 h2 small in
      let none = λ (a : IsOfBitsAt ds 1 8) (b : IsOfBitsAt ds 2 8) (c : IsOfBitsAt ds 3 8). let below =
      middle_small a b c in let never : ⊥ = omega arith in never in
      two_first ds fits bits.0 bits.1 (λ f. none (four_at ds 1 f (lit< tt)) (four_at ds 2 f (lit< tt))
      (four_at ds 3 f (lit< tt)))
      (λ f. none (next_at ds 0 f (lit< tt)) (next_at ds 1 f (lit< tt)) (next_at ds 2 f (lit< tt))) (λ all t. long all)

  pub four_small : AllByRecursion (FitsBits 32) ds → one < 128 → bit_or (bit_or two three) four < 128
      → IsCanonicalFirst ds 4
  four_small fits small middle = let bits = middle_bits middle in
      four_first ds fits ((h1 8 (lit≤ tt)).0 small, bits.0, bits.1) bits.2

-- if four of 8 bits may begin after the first
module _ (ds : List ℤ) (one two three four five : ℕ) (h1 : IsSizeAt ds 0 one) (h2 : IsSizeAt ds 1 two)
    (h3 : IsSizeAt ds 2 three) (h4 : IsSizeAt ds 3 four) (h5 : IsSizeAt ds 4 five) where
  pub two_before : AllByRecursion (FitsBits 32) ds → bit_or one two < 32768 → 128 ≤ one → 128 ≤ five
      → IsCanonicalFirst ds 2
  two_before fits small large behind =
      let bits = pair_bits ds one two h1 h2 small in
      let none = λ (b : IsOfBitsAt ds 0 8). let below = (h1 8 (lit≤ tt)).1 b in let never : ⊥ = omega arith in never in
      two_first ds fits bits.0 bits.1 (λ f. none (four_at ds 0 f (lit< tt)))
      (λ f. let below = (h5 8 (lit≤ tt)).1 (next_at ds 3 f (lit< tt)) in let never : ⊥ = omega arith in never)
      (λ all t. none t.0)

  -- four of 8 bits after the first
  pub next_four : bit_or (bit_or two three) four < 128 → five < 128 → BeginsWithFour (drop 1 ds)
  next_four middle last =
      let bits = middle_bits ds one two three four h1 h2 h3 h4 middle in
      four_are (drop 1 ds) (to_rest ds 1 0 8 bits.0, to_rest ds 1 1 8 bits.1, to_rest ds 1 2 8 bits.2)
      (to_rest ds 1 3 8 ((h5 8 (lit≤ tt)).0 last))

  -- a larger one comes first, with room for the first of these
  pub before_four : bit_or one two < 32768 → 128 ≤ one → bit_or (bit_or two three) four < 128 → five < 128
      → IsBeforeFour ds
  before_four small large middle last =
      let bits = pair_bits ds one two h1 h2 small in
      record {
        large = λ f. let below = (h1 8 (lit≤ tt)).1 (bits.0.0, f) in let never : ⊥ = omega arith in never;
        room = bits.0.1;
        four = next_four middle last;
      }

  -- and then they are of these sizes
  pub four_behind : IsBeforeFour ds
      → (bit_or one two < 32768) × (two < 128) × (bit_or (bit_or two three) four < 128) × (128 ≤ one) × (five < 128)
  four_behind is =
      let enough = is.four.enough in
      let l = length-drop 1 ds in
      let some : 0 < length ds = omega arith in
      let second = next_at ds 0 is.four (lit< tt) in
      let two_small : two < 128 = (h2 8 (lit≤ tt)).1 second in
      let one_small : one < 32768 = (h1 16 (lit≤ tt)).1 (some, is.room) in
      let large : 128 ≤ one = elim (cases_lt one 128) [
        | inl less ↦ absurd (is.large ((h1 8 (lit≤ tt)).0 less).1)
        | inr not ↦ not
      ] in (
        or_lt 15 one two one_small (omega arith),
        two_small,
        middle_small ds one two three four h1 h2 h3 h4 second (next_at ds 1 is.four (lit< tt))
            (next_at ds 2 is.four (lit< tt)),
        large,
        (h5 8 (lit≤ tt)).1 (next_at ds 3 is.four (lit< tt)),
      )
