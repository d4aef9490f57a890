-- How far Steim-1 words reach: one word more, the last word, and when none is filled.
use Rattle.std.specs.Prelude.{◌≡◌, ◌<◌, ◌≤◌, ◌+◌, ◌-◌, ◌↔◌, ℕ, zero, suc, ℤ, pos, Bool, true, false, IsTrue, List, [], ◌∷◌, ◌++◌, length, take, drop, reverse, get_or}
use Rattle.std.specs.List.{AllByRecursion}
use Rattle.std.proofs.Common.{arith, lit≤, refl, sym, ap, ◌∙◌, subst, inl, inr, length-append, length-drop}
use Rattle.std.proofs.Math.Seq.{take-add, take-append_seam, drop-append_seam}
use Rattle.std.proofs.lemmas.Bool.{cases_lt}
use Rattle.std.proofs.lemmas.List.{drop_at, get_or-drop, get_or-take, length-reverse, length-take, reverse-append, reverse-reverse, take_at}
use Rattle.msr_base.specs.declared.storage.Version.TheVariants.{One}
use Rattle.msr_steim.specs.Word.{FitsBits, IsGroup, IsGroupAt, IsInnerGroup}
use Rattle.msr_words.specs.Counts.{EndsIn, Parts}
use Rattle.msr_words.specs.Division.{CanDivide}
use Rattle.msr_words.specs.Steim1Reach.{BeginsWithThree, IsOfBitsAt, IsSteim1End, IsSteim1Reach, IsSteim1Word, StandIn, Steim1LastLaw, Steim1StopLaw, Steim1WordLaw}
use Rattle.msr_words.specs.Lemmas.Ends.{ends_is_division, turned_group, turned_inner}
use Rattle.msr_words.specs.Lemmas.KindLaws.{last_of}
use Rattle.msr_words.specs.Lemmas.LeastCounts.{a_group_has_few}
use Rattle.msr_steim.proofs.Filling.{inner_is_group}
use Rattle.msr_words.specs.Lemmas.SteimLaws.{all_more, none_divides, one_has_few}

-- ---- the bits of one difference

wider_at : (ds : List ℤ) (at v w : ℕ) → v ≤ w → IsOfBitsAt ds at v → IsOfBitsAt ds at w
wider_at ds at v w le is = (is.0, (all_more v w (get_or ds at (pos 0) ∷ []) le (is.1, tt)).0)

same_at : (ds : List ℤ) (at other width : ℕ) → at ≡ other → IsOfBitsAt ds at width → IsOfBitsAt ds other width
same_at ds at other width e is = subst (λ n. IsOfBitsAt ds n width) e is

-- a difference of those from m on
pub from_rest : (ds : List ℤ) (m at width : ℕ) → IsOfBitsAt (drop m ds) at width → IsOfBitsAt ds (m + at) width
from_rest ds m at width is =
    let l = length-drop m ds in
    let less = is.0 in
    (omega arith, subst (FitsBits width) (get_or-drop m ds at (pos 0)) is.1)

pub to_rest : (ds : List ℤ) (m at width : ℕ) → IsOfBitsAt ds (m + at) width → IsOfBitsAt (drop m ds) at width
to_rest ds m at width is =
    let l = length-drop m ds in
    let less = is.0 in
    (omega arith, subst (FitsBits width) (sym (get_or-drop m ds at (pos 0))) is.1)

-- ---- groups by the bits of their differences

-- `size` differences from `p` on share a word
pub record Shares (ds : List ℤ) (p size : ℕ) : Type 0 where
  pub some : 1 ≤ size
  pub most : size ≤ 4
  pub all_32 : (i : ℕ) → p ≤ i → i < p + size → IsOfBitsAt ds i 32
  pub all_16 : 2 ≤ size → (i : ℕ) → p ≤ i → i < p + size → IsOfBitsAt ds i 16
  pub all_8 : 3 ≤ size → (i : ℕ) → p ≤ i → i < p + size → IsOfBitsAt ds i 8

each_at : (width : ℕ) (xs : List ℤ) (i : ℕ) → AllByRecursion (FitsBits width) xs → i < length xs
    → FitsBits width (get_or xs i (pos 0))
each_at width [] i all less = absurd (omega arith)
each_at width (x ∷ xs) zero all less = all.0
each_at width (x ∷ xs) (suc i) all less = each_at width xs i all.1 (omega arith)

-- the bits of the differences of a group
record HasBits (g : List ℤ) : Type 0 where
  pub some : 1 ≤ length g
  pub most : length g ≤ 4
  pub all_32 : AllByRecursion (FitsBits 32) g
  pub all_16 : 2 ≤ length g → AllByRecursion (FitsBits 16) g
  pub all_8 : 3 ≤ length g → AllByRecursion (FitsBits 8) g

bits_of : (g : List ℤ) → IsGroup One g → HasBits g
bits_of [] is = let few = (a_group_has_few One true [] is).0 in absurd (omega arith)
bits_of (a ∷ []) is = record {
  some = omega arith;
  most = omega arith;
  all_32 = is;
  all_16 = λ h. absurd (omega arith);
  all_8 = λ h. absurd (omega arith);
}
bits_of (a ∷ b ∷ []) is = record {
  some = omega arith;
  most = omega arith;
  all_32 = all_more 16 32 (a ∷ b ∷ []) (lit≤ tt) is;
  all_16 = λ h. is;
  all_8 = λ h. absurd (omega arith);
}
bits_of (a ∷ b ∷ c ∷ []) is = record {
  some = omega arith;
  most = omega arith;
  all_32 = all_more 8 32 (a ∷ b ∷ c ∷ []) (lit≤ tt) is;
  all_16 = λ h. all_more 8 16 (a ∷ b ∷ c ∷ []) (lit≤ tt) is;
  all_8 = λ h. is;
}
bits_of (a ∷ b ∷ c ∷ d ∷ []) is = record {
  some = omega arith;
  most = omega arith;
  all_32 = all_more 8 32 (a ∷ b ∷ c ∷ d ∷ []) (lit≤ tt) is;
  all_16 = λ h. all_more 8 16 (a ∷ b ∷ c ∷ d ∷ []) (lit≤ tt) is;
  all_8 = λ h. is;
}
bits_of (a ∷ b ∷ c ∷ d ∷ e ∷ g) is = let few = one_has_few (a ∷ b ∷ c ∷ d ∷ e ∷ g) is in absurd (omega arith)

module _ (ds : List ℤ) (p size : ℕ) (within : p + size ≤ length ds) where
  long : length (take size (drop p ds)) ≡ size
  long = let l = length-drop p ds in let m = length-take size (drop p ds) in omega arith

  at_of : (width i : ℕ) → AllByRecursion (FitsBits width) (take size (drop p ds)) → p ≤ i → i < p + size
      → IsOfBitsAt ds i width
  at_of width i all le less =
      let l = long in
      let e : p + (i - p) ≡ i = omega arith in
      let here : get_or (take size (drop p ds)) (i - p) (pos 0) ≡ get_or ds i (pos 0) =
      get_or-take size (drop p ds) (i - p) (pos 0) (omega arith) ∙ get_or-drop p ds (i - p) (pos 0)
      ∙ ap (λ n. get_or ds n (pos 0)) e in
      (omega arith, subst (FitsBits width) here (each_at width (take size (drop p ds)) (i - p) all (omega arith)))

  pub shares_of : IsGroup One (take size (drop p ds)) → Shares ds p size
  shares_of is =
      let bits = bits_of (take size (drop p ds)) is in
      let l = long in
      let some = bits.some in
      let most = bits.most in
      record {
        some = omega arith;
        most = omega arith;
        all_32 = λ i. at_of 32 i bits.all_32;
        all_16 = λ h i. at_of 16 i (bits.all_16 (omega arith));
        all_8 = λ h i. at_of 8 i (bits.all_8 (omega arith));
      }

pub group_one : (xs : List ℤ) → IsOfBitsAt xs 0 32 → IsInnerGroup One (take 1 xs)
group_one [] a = let l = a.0 in absurd (omega arith)
group_one (x ∷ xs) a = ((a.1, tt), λ e. absurd (omega arith))

pub group_two : (xs : List ℤ) → IsOfBitsAt xs 0 16 → IsOfBitsAt xs 1 16 → IsInnerGroup One (take 2 xs)
group_two [] a b = let l = a.0 in absurd (omega arith)
group_two (x ∷ []) a b = let l = b.0 in absurd (omega arith)
group_two (x ∷ y ∷ xs) a b = ((a.1, (b.1, tt)), λ e. absurd (omega arith))

pub group_three : (xs : List ℤ) → BeginsWithThree xs → IsGroup One (take 3 xs)
group_three [] a = let l = a.0.0 in absurd (omega arith)
group_three (x ∷ []) a = let l = a.1.0 in absurd (omega arith)
group_three (x ∷ y ∷ []) a = let l = a.2.0 in absurd (omega arith)
group_three (x ∷ y ∷ z ∷ xs) a = (a.0.1, (a.1.1, (a.2.1, tt)))

pub group_four : (xs : List ℤ) → BeginsWithThree xs → IsOfBitsAt xs 3 8 → IsInnerGroup One (take 4 xs)
group_four [] a b = let l = a.0.0 in absurd (omega arith)
group_four (x ∷ []) a b = let l = a.1.0 in absurd (omega arith)
group_four (x ∷ y ∷ []) a b = let l = a.2.0 in absurd (omega arith)
group_four (x ∷ y ∷ z ∷ []) a b = let l = b.0 in absurd (omega arith)
group_four (x ∷ y ∷ z ∷ w ∷ xs) a b = ((a.0.1, (a.1.1, (a.2.1, (b.1, tt)))), λ e. absurd (omega arith))

-- ---- the last group of the first differences

turned_at : (last : Bool) (g : List ℤ) → IsGroupAt One last g → IsGroupAt One last (reverse g)
turned_at true g is = turned_group One g is
turned_at false g is = turned_inner One g is

group_at : (last : Bool) (g : List ℤ) → IsGroupAt One last g → IsGroup One g
group_at true g is = is
group_at false g is = inner_is_group One g is

record EndsWith (last : Bool) (words : ℕ) (ds : List ℤ) (n : ℕ) : Type 0 where
  pub from : ℕ
  pub size : ℕ
  pub sum : n ≡ from + size
  pub group : IsGroupAt One last (take size (drop from ds))
  pub shares : Shares ds from size
  pub stand : StandIn words ds from

past_more : (ds : List ℤ) (m size : ℕ) → reverse (take (m + size) ds) ≡ reverse (take size (drop m ds))
    ++ reverse (take m ds)
past_more ds m size = ap reverse (take-add m size ds) ∙ reverse-append (take m ds) (take size (drop m ds))

ends_with : (last : Bool) (words : ℕ) (ds : List ℤ) (n : ℕ) → n ≤ length ds
    → EndsIn One last (suc words) (reverse (take n ds)) → EndsWith last words ds n
ends_with last words ds n within e =
    let size = length e.group in
    let from = length e.rest in
    let few = e.few in
    let t = length-take n ds in
    let r = length-reverse (take n ds) in
    let both : length (reverse (take n ds)) ≡ length e.group + length e.rest = ap length e.join
    ∙ length-append e.group e.rest in
    let sum : n ≡ length e.rest + length e.group = omega arith in
    let front : length (reverse (take (length e.group) (drop (length e.rest) ds))) ≡ length e.group =
    length-reverse (take (length e.group) (drop (length e.rest) ds))
    ∙ long ds (length e.rest) (length e.group) (omega arith) in
    let whole : e.group ++ e.rest ≡ reverse (take (length e.group) (drop (length e.rest) ds))
    ++ reverse (take (length e.rest) ds) =
    sym e.join ∙ ap (λ k. reverse (take k ds)) sum ∙ past_more ds (length e.rest) (length e.group) in
    let group_is : e.group ≡ reverse (take (length e.group) (drop (length e.rest) ds)) =
    sym (take-append_seam e.group e.rest) ∙ ap (take (length e.group)) whole
    ∙ take_at (reverse (take (length e.group) (drop (length e.rest) ds))) (reverse (take (length e.rest) ds))
    (length e.group) front in
    let rest_is : e.rest ≡ reverse (take (length e.rest) ds) =
    sym (drop-append_seam e.group e.rest) ∙ ap (drop (length e.group)) whole
    ∙ drop_at (reverse (take (length e.group) (drop (length e.rest) ds))) (reverse (take (length e.rest) ds))
    (length e.group) front in
    let turned : IsGroupAt One last (take (length e.group) (drop (length e.rest) ds)) =
    subst (IsGroupAt One last) (ap reverse group_is
    ∙ reverse-reverse (take (length e.group) (drop (length e.rest) ds))) (turned_at last e.group e.newest) in
    record {
      from = from;
      size = size;
      sum = sum;
      group = turned;
      shares = shares_of ds (length e.rest) (length e.group) (omega arith)
          (group_at last (take (length e.group) (drop (length e.rest) ds)) turned);
      stand = record { number = e.number; few = omega arith; parts = subst (Parts One e.number) rest_is e.parts };
    }

-- ---- words that others may follow

more_words : (words more : ℕ) (ds : List ℤ) (n : ℕ) → words ≤ more → StandIn words ds n → StandIn more ds n
more_words words more ds n le a = let few = a.few in record { number = a.number; few = omega arith; parts = a.parts }

one_more : (words : ℕ) (ds : List ℤ) (m size n : ℕ) → m + size ≡ n → IsInnerGroup One (take size (drop m ds))
    → StandIn words ds m → StandIn (suc words) ds n
one_more words ds m size n e is a =
    let few = a.few in
    record {
      number = suc a.number;
      few = omega arith;
      parts = (
        reverse (take size (drop m ds)),
        reverse (take m ds),
        turned_inner One
            (take size (drop m ds)) is,
        a.parts,
        ap (λ k. reverse (take k ds)) (sym e) ∙ past_more ds m size,
      );
    }

last_word : (words : ℕ) (ds : List ℤ) (n : ℕ) → n ≤ length ds → 0 < n → StandIn (suc words) ds n
    → EndsWith false words ds n
last_word words ds n within some a = go a.number a.few a.parts
  where
    go : (number : ℕ) → number ≤ suc words → Parts One number (reverse (take n ds)) → EndsWith false words ds n
    go zero few parts =
        let none : length (reverse (take n ds)) ≡ 0 = ap length parts in
        let t = length-take n ds in
        let r = length-reverse (take n ds) in
        absurd (omega arith)
    go (suc number) few parts =
        ends_with false words ds n within (record {
          group = parts.0;
          rest = parts.1;
          number = number;
          few = few;
          newest = parts.2;
          parts = parts.3;
          join = parts.4;
        })

-- ---- divisions, of which the last word may hold three

module _ (words : ℕ) (ds : List ℤ) (n : ℕ) (within : n ≤ length ds) (some : 0 < n) where
  none_taken : take n ds ≡ [] → ⊥
  none_taken e = let none : length (take n ds) ≡ 0 = ap length e in let t = length-take n ds in omega arith

  last_divided : CanDivide One (suc words) (take n ds) → EndsWith true words ds n
  last_divided can = elim (last_of (take n ds)) [
    | inl e ↦ absurd (none_taken e)
    | inr e ↦ ends_with true words ds n within
        (subst (λ xs. EndsIn One true (suc words) (reverse xs)) (sym e.2)
        ((ends_is_division One (suc words) e.1 e.0).1 (subst (CanDivide One (suc words)) e.2 can)))
  ]

  divided : EndsIn One true words (reverse (take n ds)) → CanDivide One words (take n ds)
  divided ends = elim (last_of (take n ds)) [
    | inl e ↦ absurd (none_taken e)
    | inr e ↦ subst (CanDivide One words) (sym e.2)
        ((ends_is_division One words e.1 e.0).0 (subst (λ xs. EndsIn One true words (reverse xs)) e.2 ends))
  ]

-- a last word after others
one_last : (words : ℕ) (ds : List ℤ) (m size n : ℕ) → m + size ≡ n → n ≤ length ds → 0 < size
    → IsGroup One (take size (drop m ds)) → StandIn words ds m → CanDivide One (suc words) (take n ds)
one_last words ds m size n e within some is a =
    let few = a.few in
    divided (suc words) ds n within (omega arith)
    (record {
      group = reverse (take size (drop m ds));
      rest = reverse (take m ds);
      number = a.number;
      few = omega arith;
      newest = turned_group One (take size (drop m ds)) is;
      parts = a.parts;
      join = ap (λ k. reverse (take k ds)) (sym e) ∙ past_more ds m size;
    })

-- no word holds a difference
no_words : (ds : List ℤ) (n : ℕ) → n ≤ length ds → 0 < n → StandIn 0 ds n → ⊥
no_words ds n within some a = go a.number a.few a.parts
  where
    go : (number : ℕ) → number ≤ 0 → Parts One number (reverse (take n ds)) → ⊥
    go zero few parts =
        let none : length (reverse (take n ds)) ≡ 0 = ap length parts in
        let t = length-take n ds in
        let r = length-reverse (take n ds) in
        omega arith
    go (suc number) few parts = omega arith

pub nothing_reached : (ds : List ℤ) → IsSteim1Reach 0 ds 0 false
nothing_reached ds = record {
  within = omega arith;
  stand = record { number = 0; few = omega arith; parts = refl };
  furthest = λ n within a. elim (cases_lt 0 n) [
    | inl some ↦ absurd (no_words ds n within some a)
    | inr none ↦ none
  ];
  spare_is = (λ t. cc, λ h. absurd (let l = h.0 in omega arith));
}

-- words that others may follow are a division
stand_divides : (words : ℕ) (ds : List ℤ) (n : ℕ) → n ≤ length ds → StandIn words ds n → CanDivide One words (take n ds)
stand_divides words ds zero within a = none_divides One words
stand_divides zero ds (suc n) within a = absurd (no_words ds (suc n) within (omega arith) a)
stand_divides (suc words) ds (suc n) within a =
    let e = last_word words ds (suc n) within (omega arith) a in
    let s = e.shares.some in
    one_last words ds e.from e.size (suc n) (sym e.sum) within (omega arith)
    (inner_is_group One (take e.size (drop e.from ds)) e.group) e.stand

-- ---- the next word

module _ (words : ℕ) (ds : List ℤ) (m : ℕ) (spare : Bool) (is : IsSteim1Reach words ds m spare) where
  -- the differences that are left, by their places
  there : (k i width : ℕ) → m + k ≡ i → IsOfBitsAt (drop m ds) k width → IsOfBitsAt ds i width
  there k i width e b = same_at ds (m + k) i width e (from_rest ds m k width b)

  left : (k i width : ℕ) → m + k ≡ i → IsOfBitsAt ds i width → IsOfBitsAt (drop m ds) k width
  left k i width e b = to_rest ds m k width (same_at ds i (m + k) width (sym e) b)

  starts : (last : Bool) (n : ℕ) → n ≤ length ds → (e : EndsWith last words ds n) → e.from ≤ m
  starts last n within e = let sum = e.sum in is.furthest e.from (omega arith) e.stand

  -- no further than that, if no last word reaches further
  bounded : (reach n : ℕ) → ((e : EndsWith false words ds n) → reach < n → ⊥) → n ≤ length ds
      → StandIn (suc words) ds n → n ≤ reach
  bounded reach n none within stand = elim (cases_lt reach n) [
    | inl more ↦ absurd (none (last_word words ds n within (omega arith) stand) more)
    | inr not ↦ not
  ]

  -- a spare difference shares a word with the next three
  with_spare : IsTrue spare → BeginsWithThree (drop m ds) → StandIn (suc words) ds (m + 3)
  with_spare t three =
      let s = is.spare_is.0 t in
      let some = s.0 in
      let back = λ (k i : ℕ) (e : i ≡ m - 1 + k) (b : IsOfBitsAt ds i 8). to_rest ds (m - 1) k 8
      (same_at ds i (m - 1 + k) 8 e b) in
      one_more words ds (m - 1) 4 (m + 3) (omega arith)
      (group_four (drop (m - 1) ds) (
        back 0 (m - 1) (omega arith) s.1,
        back 1 m (omega arith) (there 0 m 8 (omega arith) three.0),
        back 2 (m + 1)
            (omega arith) (there 1 (m + 1) 8 refl three.1),
      )
      (back 3 (m + 2) (omega arith) (there 2 (m + 2) 8 refl three.2))) s.2

  four_more : (after : Bool) → BeginsWithThree (drop m ds) → IsOfBitsAt (drop m ds) 3 8 → after ≡ spare
      → IsSteim1Reach (suc words) ds (m + 4) after
  four_more after three fourth same = record {
    within = (let b = (there 3 (m + 3) 8 refl fourth).0 in omega arith);
    stand = one_more words ds m 4 (m + 4) refl (group_four (drop m ds) three fourth) is.stand;
    furthest = λ n within. bounded (m + 4) n (λ e more. let f = starts false n within e in let s = e.sum in
        let l = e.shares.most in omega arith) within;
    spare_is = rw same (
      λ t. (
        omega arith,
        there 3 (m + 4 - 1) 8 (omega arith) fourth,
        subst (StandIn (suc words) ds) (omega arith)
            (with_spare t three),
      ),
      λ h. let inside = (there 3 (m + 3) 8 refl fourth).0 in
          let e = last_word words ds (m + 4 - 1) (omega arith) (omega arith) h.2 in
          let f = starts false (m + 4 - 1) (omega arith) e in
          let s = e.sum in
          let l = e.shares.most in
          let three_not : e.size ≡ 3 → ⊥ = λ c. e.group.1 (long ds e.from e.size (omega arith) ∙ c) in
          let four : e.size ≡ 4 = elim (cases_lt e.size 4) [
            | inl less ↦ absurd (three_not (omega arith))
            | inr more ↦ omega arith
          ] in
          let p : e.from ≡ m - 1 = omega arith in
          let first : IsOfBitsAt ds (m - 1) 8 = e.shares.all_8 (omega arith) (m - 1) (omega arith) (omega arith) in
          is.spare_is.1 (omega arith, first, subst (StandIn words ds) p e.stand),
    );
  }

  three_more : (after : Bool) → BeginsWithThree (drop m ds) → (IsOfBitsAt (drop m ds) 3 8 → ⊥) → IsTrue spare
      → IsTrue after → IsSteim1Reach (suc words) ds (m + 3) after
  three_more after three fourth t on = record {
    within = (let b = (there 2 (m + 2) 8 refl three.2).0 in omega arith);
    stand = with_spare t three;
    furthest = λ n within. bounded (m + 3) n
        (λ e more.
        let f = starts false n within e in
        let s = e.sum in
        let l = e.shares.most in
        fourth (left 3 (m + 3) 8 refl (e.shares.all_8 (omega arith) (m + 3) (omega arith) (omega arith)))) within;
    spare_is = (
      λ _. (
        omega arith,
        there 2 (m + 3 - 1) 8 (omega arith) three.2,
        one_more words ds m 2 (m + 3 - 1) (omega arith)
            (group_two (drop m ds) (wider_at (drop m ds) 0 8 16 (lit≤ tt) three.0)
            (wider_at (drop m ds) 1 8 16 (lit≤ tt) three.1)) is.stand,
      ),
      λ _. on,
    );
  }

  two_more : (after : Bool) → IsOfBitsAt (drop m ds) 0 16 → IsOfBitsAt (drop m ds) 1 16
      → (BeginsWithThree (drop m ds) → (IsOfBitsAt (drop m ds) 3 8 → ⊥) × (IsTrue spare → ⊥))
      → (IsTrue after ↔ IsOfBitsAt (drop m ds) 1 8) → IsSteim1Reach (suc words) ds (m + 2) after
  two_more after first second barred on = record {
    within = (let b = (there 1 (m + 1) 16 refl second).0 in omega arith);
    stand = one_more words ds m 2 (m + 2) refl (group_two (drop m ds) first second) is.stand;
    furthest = λ n within. bounded (m + 2) n
        (λ e more.
        let f = starts false n within e in
        let s = e.sum in
        let l = e.shares.most in
        let three_not : e.size ≡ 3 → ⊥ = λ c. e.group.1 (long ds e.from e.size (omega arith) ∙ c) in
        let of_8 = λ (k : ℕ) (h : k < 3). left k (m + k) 8 refl
        (e.shares.all_8 (omega arith) (m + k) (omega arith) (omega arith)) in
        let not = barred (of_8 0 (lit≤ tt), of_8 1 (lit≤ tt), of_8 2 (lit≤ tt)) in
        elim (cases_lt e.from m) [
          | inl before ↦
              let four : e.size ≡ 4 = elim (cases_lt e.size 4) [
                | inl less ↦ absurd (three_not (omega arith))
                | inr enough ↦ omega arith
              ] in
              let p : e.from ≡ m - 1 = omega arith in
              not.1 (is.spare_is.1 (
                omega arith,
                e.shares.all_8 (omega arith) (m - 1) (omega arith)
                    (omega arith),
                subst (StandIn words ds) p e.stand,
              ))
          | inr here ↦
              let four : e.size ≡ 4 = elim (cases_lt e.size 4) [
                | inl less ↦ absurd (three_not (omega arith))
                | inr enough ↦ omega arith
              ] in
              not.0 (left 3 (m + 3) 8 refl (e.shares.all_8 (omega arith) (m + 3) (omega arith) (omega arith)))
        ]) within;
    spare_is = (
      λ t. (
        omega arith,
        there 1 (m + 2 - 1) 8 (omega arith) (on.0 t),
        one_more words ds m 1 (m + 2 - 1)
            (omega arith) (group_one (drop m ds) (wider_at (drop m ds) 0 16 32 (lit≤ tt) first)) is.stand,
      ),
      λ h. on.1 (left 1 (m + 2 - 1) 8 (omega arith) h.1),
    );
  }

  single_more : (after : Bool) → IsOfBitsAt (drop m ds) 0 32
      → (IsOfBitsAt (drop m ds) 0 16 → IsOfBitsAt (drop m ds) 1 16 → ⊥)
      → (IsTrue after ↔ IsOfBitsAt (drop m ds) 0 8) → IsSteim1Reach (suc words) ds (m + 1) after
  single_more after first barred on = record {
    within = (let b = (there 0 m 32 (omega arith) first).0 in omega arith);
    stand = one_more words ds m 1 (m + 1) refl (group_one (drop m ds) first) is.stand;
    furthest = λ n within. bounded (m + 1) n
        (λ e more.
        let f = starts false n within e in
        let s = e.sum in
        barred (left 0 m 16 (omega arith) (e.shares.all_16 (omega arith) m (omega arith) (omega arith)))
        (left 1 (m + 1) 16 refl (e.shares.all_16 (omega arith) (m + 1) (omega arith) (omega arith)))) within;
    spare_is = (
      λ t. (
        omega arith,
        there 0 (m + 1 - 1) 8 (omega arith) (on.0 t),
        subst (StandIn (suc words) ds) (omega arith)
            (more_words words (suc words) ds m (omega arith) is.stand),
      ),
      λ h. on.1 (left 0 (m + 1 - 1) 8 (omega arith) h.1),
    );
  }

  pub next_word : (size : ℕ) (after : Bool) → IsSteim1Word (drop m ds) spare size after → 0 < size
      → IsSteim1Reach (suc words) ds (m + size) after
  next_word size after next some = elim next.which [
    | inl four ↦ rw four.0 (four_more after four.1 four.2 four.3)
    | inr a ↦ elim a [
      | inl three ↦ rw three.0 (three_more after three.1 three.2 three.3 three.4)
      | inr b ↦ elim b [
        | inl two ↦ rw two.0 (two_more after two.1 two.2 two.3 two.4)
        | inr c ↦ elim c [
          | inl one ↦ rw one.0 (single_more after one.1 one.2 one.3)
          | inr none ↦ absurd (omega (arith, none.0))
        ]
      ]
    ]
  ]

  -- ---- the last word

  -- no further than that, if no last word reaches further
  last_bounded : (reach n : ℕ) → ((e : EndsWith true words ds n) → reach < n → ⊥) → n ≤ length ds
      → CanDivide One (suc words) (take n ds) → n ≤ reach
  last_bounded reach n none within can = elim (cases_lt reach n) [
    | inl more ↦ absurd (none (last_divided words ds n within (omega arith) can) more)
    | inr not ↦ not
  ]

  -- if the next difference stands in no word
  pub stopped : (more : ℕ) → words ≤ more → (IsOfBitsAt ds m 32 → ⊥) → IsSteim1End more ds m
  stopped more le barred = record {
    within = is.within;
    fits = stand_divides more ds m is.within (more_words words more ds m le is.stand);
    furthest = λ n within can. elim (cases_lt m n) [
      | inl past ↦ absurd (barred (each_fits more n within past can))
      | inr not ↦ not
    ];
  }
    where
      -- a difference stands in some word
      inside : (words n : ℕ) → n ≤ length ds → m < n → StandIn words ds n → IsOfBitsAt ds m 32
      inside zero n within past stand = absurd (no_words ds n within (omega arith) stand)
      inside (suc words) n within past stand =
          let e = last_word words ds n within (omega arith) stand in
          let s = e.sum in
          elim (cases_lt m e.from) [
            | inl before ↦ inside words e.from (omega arith) before e.stand
            | inr here ↦ e.shares.all_32 m here (omega arith)
          ]

      each_fits : (more n : ℕ) → n ≤ length ds → m < n → CanDivide One more (take n ds) → IsOfBitsAt ds m 32
      each_fits more n within past can =
          let e = last_divided more ds n within (omega arith)
          (record {
            groups = can.groups;
            are_groups = can.are_groups;
            join = can.join;
            few = (let f = can.few in omega arith);
          }) in
          let s = e.sum in
          elim (cases_lt m e.from) [
            | inl before ↦ inside more e.from (omega arith) before e.stand
            | inr here ↦ e.shares.all_32 m here (omega arith)
          ]

  last_four : BeginsWithThree (drop m ds) → IsOfBitsAt (drop m ds) 3 8 → IsSteim1End (suc words) ds (m + 4)
  last_four three fourth =
      let inside = (there 3 (m + 3) 8 refl fourth).0 in
      record {
        within = omega arith;
        fits = one_last words ds m 4 (m + 4) refl (omega arith) (omega arith)
            (inner_is_group One (take 4 (drop m ds)) (group_four (drop m ds) three fourth)) is.stand;
        furthest = λ n within. last_bounded (m + 4) n
            (λ e more. let f = starts true n within e in let s = e.sum in let l = e.shares.most in omega arith) within;
      }

  last_three : BeginsWithThree (drop m ds) → (IsOfBitsAt (drop m ds) 3 8 → ⊥) → IsSteim1End (suc words) ds (m + 3)
  last_three three fourth =
      let inside = (there 2 (m + 2) 8 refl three.2).0 in
      record {
        within = omega arith;
        fits = one_last words ds m 3 (m + 3) refl (omega arith) (omega arith) (group_three (drop m ds) three) is.stand;
        furthest = λ n within. last_bounded (m + 3) n
            (λ e more.
            let f = starts true n within e in
            let s = e.sum in
            let l = e.shares.most in
            fourth (left 3 (m + 3) 8 refl (e.shares.all_8 (omega arith) (m + 3) (omega arith) (omega arith)))) within;
      }

  last_two : IsOfBitsAt (drop m ds) 0 16 → IsOfBitsAt (drop m ds) 1 16 → (BeginsWithThree (drop m ds) → ⊥)
      → IsSteim1End (suc words) ds (m + 2)
  last_two first second barred =
      let inside = (there 1 (m + 1) 16 refl second).0 in
      record {
        within = omega arith;
        fits = one_last words ds m 2 (m + 2) refl (omega arith) (omega arith)
            (inner_is_group One (take 2 (drop m ds)) (group_two (drop m ds) first second)) is.stand;
        furthest = λ n within. last_bounded (m + 2) n
            (λ e more.
            let f = starts true n within e in
            let s = e.sum in
            let of_8 = λ (k : ℕ) (h : k < 3). left k (m + k) 8 refl
            (e.shares.all_8 (omega arith) (m + k) (omega arith) (omega arith)) in
            barred (of_8 0 (lit≤ tt), of_8 1 (lit≤ tt), of_8 2 (lit≤ tt))) within;
      }

  last_one : IsOfBitsAt (drop m ds) 0 32 → (IsOfBitsAt (drop m ds) 0 16 → IsOfBitsAt (drop m ds) 1 16 → ⊥)
      → IsSteim1End (suc words) ds (m + 1)
  last_one first barred =
      let inside = (there 0 m 32 (omega arith) first).0 in
      record {
        within = omega arith;
        fits = one_last words ds m 1 (m + 1) refl (omega arith) (omega arith)
            (inner_is_group One (take 1 (drop m ds)) (group_one (drop m ds) first)) is.stand;
        furthest = λ n within. last_bounded (m + 1) n
            (λ e more.
            let f = starts true n within e in
            let s = e.sum in
            barred (left 0 m 16 (omega arith) (e.shares.all_16 (omega arith) m (omega arith) (omega arith)))
            (left 1 (m + 1) 16 refl (e.shares.all_16 (omega arith) (m + 1) (omega arith) (omega arith)))) within;
      }

  pub last_of_all : (size : ℕ) (after : Bool) → IsSteim1Word (drop m ds) true size after
      → IsSteim1End (suc words) ds (m + size)
  last_of_all size after next = elim next.which [
    | inl four ↦ rw four.0 (last_four four.1 four.2)
    | inr a ↦ elim a [
      | inl three ↦ rw three.0 (last_three three.1 three.2)
      | inr b ↦ elim b [
        | inl two ↦ rw two.0 (last_two two.1 two.2 (λ three. (two.3 three).1 refl))
        | inr c ↦ elim c [
          | inl one ↦ rw one.0 (last_one one.1 one.2)
          | inr none ↦
              let here : m ≡ m + size = omega (arith, none.0) in
              subst (IsSteim1End (suc words) ds) here (stopped (suc words) (omega arith)
              (λ b. none.1 (left 0 m 32 (omega arith) b)))
        ]
      ]
    ]
  ]

  pub stopped_here : (more : ℕ) (after : Bool) → IsSteim1Word (drop m ds) spare 0 after → words ≤ more
      → IsSteim1End more ds m
  stopped_here more after next le = elim next.which [
    | inl four ↦ absurd (omega (arith, four.0))
    | inr a ↦ elim a [
      | inl three ↦ absurd (omega (arith, three.0))
      | inr b ↦ elim b [
        | inl two ↦ absurd (omega (arith, two.0))
        | inr c ↦ elim c [
          | inl one ↦ absurd (omega (arith, one.0))
          | inr none ↦ stopped more le (λ h. none.1 (left 0 m 32 (omega arith) h))
        ]
      ]
    ]
  ]

pub word_law : Steim1WordLaw
word_law words ds reach size spare after is next some = next_word words ds reach spare is size after next some

pub last_law : Steim1LastLaw
last_law words ds reach size spare after is next = last_of_all words ds reach spare is size after next

pub stop_law : Steim1StopLaw
stop_law words more ds reach spare after is next le = stopped_here words ds reach spare is more after next le
