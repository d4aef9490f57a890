-- What one more difference does to the least numbers of Steim-1 groups.
use Rattle.std.proofs.Common.{◌≡◌, ◌↔◌, ◌<◌, ◌≤◌, ℕ, zero, suc, ◌+◌, ◌-◌, ℤ, Bool, true, false, List, [], ◌∷◌, length, take, drop, sym, ap, ◌∙◌, subst, arith, length-append, ◌⊎◌, inl, inr, bit_or, ◌^◌, lit<, ◌++◌, refl}
use Rattle.std.proofs.lemmas.Bool.{cases_lt}
use Rattle.std.proofs.lemmas.List.{length-take, take-append-drop}
use Rattle.msr_base.specs.declared.storage.Version.TheVariants.{One}
use Rattle.msr_steim.specs.Word.{IsGroup, IsGroupAt}
use Rattle.msr_words.specs.declared.counts.LeastCounts.{LeastCounts}
use Rattle.msr_words.specs.Counts.{AtMost, EndsIn, IsLeastUpTo, Parts}
use Rattle.msr_words.specs.FirstGroup.{AreFewest, IsSizeAt}
use Rattle.msr_words.specs.Window.{IsSize}
use Rattle.msr_words.proofs.GroupSizes.{four_is, pair_is, size_here, size_later, triple_at}
use Rattle.std.proofs.Math.Nat.{pow-le-pow_right}
use Rattle.msr_words.specs.AreCounts.{AreCounts}
use Rattle.msr_words.specs.Lemmas.LeastCounts.{a_group_has_few}
use Rattle.msr_steim.proofs.Filling.{inner_is_group}
use Rattle.msr_words.specs.Lemmas.SteimLaws.{one_has_few}
use Rattle.std.proofs.Math.Seq.{take-append_seam, drop-append_seam}
use Rattle.msr_base.specs.declared.storage.Version.{Version}

-- ---- one more difference

-- the least number of groups that end in one that others may follow is the least number of groups
least_of_ends : (version : Version) (words c : ℕ) (d : ℤ) (past : List ℤ)
    → IsLeastUpTo (EndsIn version false) words c (d ∷ past) → IsLeastUpTo (AtMost version) words c (d ∷ past)
least_of_ends version words c d past least n few =
    (λ le. at_most ((least n few).0 le), λ a. (least n few).1 (ends a.number a.few a.parts))
  where
    at_most : EndsIn version false n (d ∷ past) → AtMost version n (d ∷ past)
    at_most e = record { number = suc e.number; few = e.few; parts = (e.group, e.rest, e.newest, e.parts, e.join) }

    ends : (m : ℕ) → m ≤ n → Parts version m (d ∷ past) → EndsIn version false n (d ∷ past)
    ends zero le parts = absurd (cc)
    ends (suc m) le parts = record {
      group = parts.0;
      rest = parts.1;
      number = m;
      few = le;
      newest = parts.2;
      parts = parts.3;
      join = parts.4;
    }

-- no difference yet
none_least : (version : Version) (words : ℕ) → IsLeastUpTo (AtMost version) words 0 []
none_least version words n few = (λ le. record { number = 0; few = le; parts = refl }, λ a. omega arith)

-- ---- the newest group

-- the newest group and the rest, by the group's length
front_is : (group rest past : List ℤ) (i : ℕ) → past ≡ group ++ rest → length group ≡ i
    → (take i past ≡ group) × (drop i past ≡ rest)
front_is group rest past i join size = (
  ap (λ n. take n past) (sym size) ∙ ap (take (length group)) join
      ∙ take-append_seam group rest,
  ap (λ n. drop n past) (sym size) ∙ ap (drop (length group)) join
      ∙ drop-append_seam group rest,
)

pub ends_with : (last : Bool) (k n c words : ℕ) (past : List ℤ) → n ≤ words → IsGroupAt One last (take k past)
    → IsLeastUpTo (AtMost One) words c (drop k past) → c < n → EndsIn One last n past
ends_with last k n c words past small group least less =
    let a = (least (n - 1) (omega arith)).0 (omega arith) in
    let few = a.few in
    record {
      group = take k past;
      rest = drop k past;
      number = a.number;
      few = omega arith;
      newest = group;
      parts = a.parts;
      join = sym (take-append-drop k past);
    }

pub ends_of : (last : Bool) (k n c words : ℕ) (past : List ℤ) → n ≤ words → (e : EndsIn One last n past)
    → length e.group ≡ k → (k ≤ length past → IsLeastUpTo (AtMost One) words c (drop k past)) →
    (k ≤ length past) × IsGroupAt One last (take k past) × (c < n)
ends_of last k n c words past small e size least =
    let front = front_is e.group e.rest past k e.join size in
    let some = e.few in
    let long : length past ≡ length e.group + length e.rest = ap length e.join ∙ length-append e.group e.rest in
    let in' : k ≤ length past = omega arith in
    let count = (least in' (n - 1) (omega arith)).1
    (record { number = e.number; few = omega arith; parts = subst (Parts One e.number) (sym front.1) e.parts }) in
    (in', subst (IsGroupAt One last) (sym front.0) e.newest, omega arith)

module _ (words : ℕ) (d : ℤ) (past : List ℤ) (old : LeastCounts) (is : AreCounts words past old)
    (size fewest count : ℕ) (here : IsSize d size)
    (fewest_is : AreFewest old.now old.one old.three size (bit_or size old.first)
    (bit_or (bit_or (bit_or size old.first) old.second) old.third) words fewest)
    (count_is : (n : ℕ) → n ≤ words → (count ≤ n ↔ fewest < n)) where
  two_group : bit_or size old.first < 32768 ↔ (2 ≤ length (d ∷ past)) × IsGroup One (take 2 (d ∷ past))
  two_group = pair_is d past size old.first here is.first_is

  four_group : bit_or (bit_or (bit_or size old.first) old.second) old.third < 128
      ↔ (4 ≤ length (d ∷ past)) × IsGroup One (take 4 (d ∷ past))
  four_group = four_is d past size old.first old.second old.third here is.first_is is.second_is is.third_is

  found : (n : ℕ) → n ≤ words → count ≤ n → EndsIn One false n (d ∷ past)
  found n small le =
      let less : fewest < n = (count_is n small).0 le in
      elim fewest_is.which [
        | inl first ↦ ends_with false 1 n old.now words (d ∷ past) small
            (((here 32).1 (omega (arith, first.0)), tt), λ e. absurd (omega arith)) is.now_is (omega (arith, first.1))
        | inr more ↦ elim more [
          | inl second ↦
              let g = two_group.0 second.0 in
              let l = length-take 2 (d ∷ past) in
              let in' = g.0 in
              ends_with false 2 n old.one words (d ∷ past) small (g.1, λ e. absurd (omega arith))
              (is.one_is (omega arith)) (omega (arith, second.1))
          | inr many ↦ elim many [
            | inl fourth ↦
                let g = four_group.0 fourth.0 in
                let l = length-take 4 (d ∷ past) in
                let in' = g.0 in
                ends_with false 4 n old.three words (d ∷ past) small (g.1, λ e. absurd (omega arith))
                (is.three_is (omega arith)) (omega (arith, fourth.1))
            | inr none ↦ absurd (omega arith)
          ]
        ]
      ]

  only : (n : ℕ) → n ≤ words → EndsIn One false n (d ∷ past) → count ≤ n
  only n small e =
      let some = (a_group_has_few One false e.group e.newest).0 in
      let most = one_has_few e.group e.newest.0 in
      elim (cases_lt (length e.group) 2) [
        | inl one ↦
            let h = ends_of false 1 n old.now words (d ∷ past) small e (omega arith) (λ _. is.now_is) in
            let fits = (here 32).0 h.1.0.0 in
            let few = fewest_is.of_one (omega arith) in (count_is n small).1 (omega (arith, h.2))
        | inr more ↦ elim (cases_lt (length e.group) 3) [
          | inl two ↦
              let h = ends_of false 2 n old.one words (d ∷ past) small e (omega arith)
              (λ in'. is.one_is (omega arith)) in
              let few = fewest_is.of_two (two_group.1 (h.0, h.1.0)) in (count_is n small).1 (omega (arith, h.2))
          | inr many ↦ elim (cases_lt (length e.group) 4) [
            | inl three ↦ absurd (e.newest.1 (omega arith))
            | inr four ↦
                let h = ends_of false 4 n old.three words (d ∷ past) small e (omega arith)
                (λ in'. is.three_is (omega arith)) in
                let few = fewest_is.of_four (four_group.1 (h.0, h.1.0)) in (count_is n small).1 (omega (arith, h.2))
          ]
        ]
      ]

  least_with : IsLeastUpTo (AtMost One) words count (d ∷ past)
  least_with = least_of_ends One words count d past (λ n small. (found n small, only n small))

  pub counted_with : (new : LeastCounts) → new.now ≡ count → new.one ≡ old.now → new.two ≡ old.one
      → new.three ≡ old.two → new.first ≡ size → new.second ≡ old.first → new.third ≡ old.second →
      AreCounts words (d ∷ past) new
  counted_with new e f g h i j k = record {
    now_is = subst (λ c. IsLeastUpTo (AtMost One) words c (d ∷ past)) (sym e) least_with;
    one_is = λ in'. subst (λ c. IsLeastUpTo (AtMost One) words c past) (sym f) is.now_is;
    two_is = λ in'. subst (λ c. IsLeastUpTo (AtMost One) words c (drop 1 past)) (sym g) (is.one_is (omega arith));
    three_is = λ in'. subst (λ c. IsLeastUpTo (AtMost One) words c (drop 2 past)) (sym h) (is.two_is (omega arith));
    first_is = subst (IsSizeAt (d ∷ past) 0) (sym i) (size_here d past size here);
    second_is = subst (IsSizeAt (d ∷ past) 1) (sym j) (size_later d past 0 old.first is.first_is);
    third_is = subst (IsSizeAt (d ∷ past) 2) (sym k) (size_later d past 1 old.second is.second_is);
  }

-- ---- whether the words hold all

at_most_ends : (n m : ℕ) (past : List ℤ) → m ≤ n → 0 < length past → Parts One m past → EndsIn One true n past
at_most_ends n zero past few some parts = let e : length past ≡ 0 = ap length parts in absurd (omega arith)
at_most_ends n (suc m) past few some parts =
    record {
      group = parts.0;
      rest = parts.1;
      number = m;
      few = omega arith;
      newest = inner_is_group One parts.0 parts.2;
      parts = parts.3;
      join = parts.4;
    }

module _ (words : ℕ) (past : List ℤ) (counts : LeastCounts) (is : AreCounts words past counts)
    (some : 0 < length past) where
  three_group : bit_or (bit_or counts.first counts.second) counts.third < 128
      ↔ (3 ≤ length past) × IsGroup One (take 3 past)
  three_group = triple_at past counts.first counts.second counts.third is.first_is is.second_is is.third_is

  pub within_yes : (counts.now ≤ words) ⊎ ((bit_or (bit_or counts.first counts.second) counts.third < 128)
      × (counts.three < words)) → EndsIn One true words past
  within_yes why = elim why [
    | inl few ↦ let a = (is.now_is words (omega arith)).0 few in at_most_ends words a.number past a.few some a.parts
    | inr three ↦
        let g = three_group.0 three.0 in
        ends_with true 3 words counts.three words past (omega arith) g.1 (is.three_is g.0) three.1
  ]

  pub within_no : (words < counts.now) → (bit_or (bit_or counts.first counts.second) counts.third < 128
      → counts.three < words → ⊥) → EndsIn One true words past → ⊥
  within_no many three e = elim (cases_lt (length e.group) 3) [
    | inl less ↦ inner (λ h. absurd (omega arith))
    | inr more ↦ elim (cases_lt 3 (length e.group)) [
      | inl four ↦ inner (λ h. absurd (omega arith))
      | inr same ↦
          let h = ends_of true 3 words counts.three words past (omega arith) e (omega arith) is.three_is in
          three (three_group.1 (h.0, h.1)) h.2
    ]
  ]
    where
      inner : (length e.group ≡ 3 → ⊥) → ⊥
      inner not =
          let few = e.few in
          let le = (is.now_is words (omega arith)).1 (record {
            number = suc e.number;
            few = omega arith;
            parts =
                (e.group, e.rest, (e.newest, not), e.parts, e.join);
          }) in
          omega arith

-- ---- no differences

no_size : (at size : ℕ) → 4294967296 ≤ size → IsSizeAt [] at size
no_size at size large width small =
    let most : 2 ^ (width - 1) ≤ 2 ^ 32 = pow-le-pow_right {n = 2} (lit< tt) {i = width - 1} {j = 32} (omega arith) in
    (λ less. absurd (omega arith), λ fits. let e = fits.0 in absurd (omega arith))

pub none_counted : (words : ℕ) (counts : LeastCounts) → counts.now ≡ 0 → 4294967296 ≤ counts.first
    → 4294967296 ≤ counts.second → 4294967296 ≤ counts.third → AreCounts words [] counts
none_counted words counts e f g h = record {
  now_is = subst (λ c. IsLeastUpTo (AtMost One) words c []) (sym e) (none_least One words);
  one_is = λ h. absurd (omega arith);
  two_is = λ h. absurd (omega arith);
  three_is = λ h. absurd (omega arith);
  first_is = no_size 0 counts.first f;
  second_is = no_size 1 counts.second g;
  third_is = no_size 2 counts.third h;
}
