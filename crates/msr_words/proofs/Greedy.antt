-- The division of Steim-2 differences that takes the longest group from the start on.
use Rattle.std.proofs.Common.{rules, ◌≡◌, ◌↔◌, ◌<◌, ◌≤◌, ◌⊎◌, min, ℕ, zero, suc, ◌+◌, ◌-◌, ℤ, pos, negsuc, w32, SFits, get_or, take, drop, List, [], ◌∷◌, ◌++◌, length, refl, sym, ap, ◌∙◌, subst, arith, inl, inr, append_assoc, length-append}
use Rattle.std.specs.List.{All}
use Rattle.std.proofs.lemmas.Bool.{cases_lt}
use Rattle.std.proofs.lemmas.List.{append-nil, nil_from_length, take_at}
use Rattle.std.proofs.lemmas.List.Elements.{All-cons, All-contains, All-nil, All-push, All-take, Contains-push}
use Rattle.msr_base.specs.declared.storage.Version.TheVariants.{Two}
use Rattle.msr_steim.specs.Area.{joined_groups}
use Rattle.msr_steim.specs.Word.{AreGroups, FitsBits}
use Rattle.msr_words.specs.Division.{CanDivide}
use Rattle.msr_words.specs.Canonical.{IsCanonicalDivision}
use Rattle.msr_words.specs.Groups.{IsCapacity}
use Rattle.msr_words.specs.Lemmas.SteimLaws.{head_group}
use Rattle.msr_words.proofs.WrittenDivision.{inner_first}
use Rattle.msr_words.proofs.Parts.{HasDivision, cut, division_back, division_rest, first_fits, none_left}
use Rattle.msr_words.proofs.Steim2Groups.{IsOfBits, IsSteim2Group, capacity_at, division_from, division_to, group_from, group_to, steim2_bits, steim2_parts}

-- ---- one group more before the others

-- the group has no room for the next difference
pub record IsFull (group rest : List ℤ) : Type 0 where
  pub group_is : IsSteim2Group group
  pub apart : (y : ℤ) (ys : List ℤ) → rest ≡ y ∷ ys → IsSteim2Group (group ++ y ∷ []) → ⊥

fewest_with : (g rest : List ℤ) (gs : List (List ℤ)) → IsFull g rest → IsCanonicalDivision Two gs rest
    → (others : List (List ℤ)) → AreGroups Two others → joined_groups others ≡ g ++ rest → suc (length gs) ≤ length others
fewest_with g rest gs full chosen [] are join =
    let some = full.group_is.some in
    let size : 0 ≡ length g + length rest = ap length join ∙ length-append g rest in absurd (omega arith)
fewest_with g rest gs full chosen (o ∷ os) are join =
    let whole = division_to (suc (length os)) (g ++ rest)
    (record { groups = o ∷ os; are_groups = are; join = join; few = omega arith }) in
    let left = division_from (length os) rest (division_rest IsSteim2Group steim2_parts
    (length os) g rest full.group_is full.apart whole) in
    let fewer = chosen.fewest left.groups left.are_groups left.join in
    let few = left.few in
    omega arith

longest_with : (g rest : List ℤ) → IsFull g rest → (other more : List ℤ) → IsSteim2Group other
    → other ++ more ≡ g ++ rest → length other ≤ length g
longest_with g rest full other more is join = elim (cut other more g rest join) [
  | inl c ↦ beyond c.0 c.1 c.2
  | inr c ↦ let size : length g ≡ length other + length c.0 = ap length c.1 ∙ length-append other c.0 in omega arith
]
  where
    beyond : (m : List ℤ) → other ≡ g ++ m → rest ≡ m ++ more → length other ≤ length g
    beyond [] p q = let size : length other ≡ length g + 0 = ap length p ∙ length-append g [] in omega arith
    beyond (y ∷ ys) p q =
        let long : IsSteim2Group ((g ++ y ∷ []) ++ ys) = rw append_assoc (subst IsSteim2Group p is) in
        absurd (full.apart y (ys ++ more) q (steim2_parts.front (g ++ y ∷ []) ys
        (let l = length-append g (y ∷ []) in omega arith) long))

pub full_first : (g rest : List ℤ) (gs : List (List ℤ)) → IsFull g rest → IsCanonicalDivision Two gs rest
    → IsCanonicalDivision Two (g ∷ gs) (g ++ rest)
full_first g rest gs full chosen =
    let joined : joined_groups (g ∷ gs) ≡ g ++ rest = ap (λ x. g ++ x) chosen.join in
    record {
      are_groups = inner_first Two g gs (group_from g full.group_is) chosen.are_groups;
      join = joined;
      fewest = λ others are join. fewest_with g rest gs full chosen others are join;
      longest = (
        λ other others are join short. longest_with g rest full other (joined_groups others)
            (group_to other (head_group Two other others are)) (join ∙ joined),
        chosen.longest,
      );
    }

no_division : IsCanonicalDivision Two [] []
no_division = record { are_groups = tt; join = refl; fewest = λ others are join. omega arith; longest = tt }

-- ---- one difference after another

pub cut_at : (ds : List ℤ) (i : ℕ) → i < length ds → ds ≡ take i ds ++ get_or ds i (pos 0) ∷ drop (i + 1) ds
cut_at [] i less = absurd (omega arith)
cut_at (d ∷ ds) zero less = refl
cut_at (d ∷ ds) (suc i) less = let one : suc i + 1 ≡ suc (i + 1) = omega arith in
    rw one (ap (λ r. d ∷ r) (cut_at ds i (omega arith)))

bits_fit : (d : ℤ) → FitsBits 30 d → SFits w32 d
bits_fit (pos n) fits = search rules
bits_fit (negsuc n) fits = search rules

-- a difference that stands in a word fits 32 bits
pub in_word : (d : ℤ) (capacity : ℕ) → IsCapacity d capacity → 0 < capacity → SFits w32 d
in_word d capacity cap some = bits_fit d ((cap.exact 1 30 refl).1 (omega arith))

-- The groups so far, of which `current` is still open: as many as `most` have room in its word. Whatever comes next,
-- these groups stand in the division that is chosen, and no division has fewer.
pub record IsGreedy (words : ℕ) (past current : List ℤ) (groups : List (List ℤ)) (most : ℕ) : Type 0 where
  pub room : length current ≤ most
  pub limit : most ≤ 7
  pub bits : (n : ℕ) → 1 ≤ n → n ≤ 7 → (All (IsOfBits (steim2_bits n)) current ↔ n ≤ most)
  pub few : length groups < words
  pub left : (tail : List ℤ) → HasDivision IsSteim2Group words (past ++ tail)
      → HasDivision IsSteim2Group (words - length groups) (current ++ tail)
  pub build : (tail : List ℤ) (gs : List (List ℤ)) → IsCanonicalDivision Two gs (current ++ tail)
      → IsCanonicalDivision Two (groups ++ gs) (past ++ tail)

pub greedy_start : (words : ℕ) → 0 < words → IsGreedy words [] [] [] 7
greedy_start words some = record {
  room = omega arith;
  limit = omega arith;
  bits = λ n l h. (λ all. h, λ le. All-nil (IsOfBits (steim2_bits n)));
  few = some;
  left = λ tail h. subst (λ n. HasDivision IsSteim2Group n tail) (omega arith) h;
  build = λ tail gs h. h;
}

module _ (words most : ℕ) (past current : List ℤ) (groups : List (List ℤ))
    (is : IsGreedy words past current groups most) where
  open_is : 0 < length current → IsSteim2Group current
  open_is some =
      let room = is.room in
      let limit = is.limit in
      record {
        some = omega arith;
        most = omega arith;
        bits = (is.bits (length current) (omega arith) (omega arith)).1 room;
      }

  module _ (d : ℤ) (capacity : ℕ) (cap : IsCapacity d capacity) where
    bits_more : (n : ℕ) → 1 ≤ n → n ≤ 7 → (All (IsOfBits (steim2_bits n)) (current ++ d ∷ []) ↔ n ≤ min most capacity)
    bits_more n l h =
        let old = is.bits n l h in
        let new = capacity_at d capacity n cap l h in (
          λ all. let a = old.0 (subst (All (IsOfBits (steim2_bits n)))
              (take_at current (d ∷ []) (length current) refl)
              (All-take (IsOfBits (steim2_bits n)) (length current) (current ++ d ∷ []) all)) in
              let b = new.0 (All-contains (IsOfBits (steim2_bits n)) (current ++ d ∷ []) d all
              (Contains-push current d)) in omega arith,
          λ le. All-push (IsOfBits (steim2_bits n)) current d (old.1 (omega arith)) (new.1 (omega arith)),
        )

    -- the difference has room in the open word
    pub greedy_same : length current < min most capacity
        → IsGreedy words (past ++ d ∷ []) (current ++ d ∷ []) groups (min most capacity)
    greedy_same less =
        let limit = is.limit in
        record {
          room = (let l = length-append current (d ∷ []) in omega arith);
          limit = omega arith;
          bits = bits_more;
          few = is.few;
          left = λ tail. rw (append_assoc past (d ∷ []) tail, append_assoc current (d ∷ []) tail) (is.left (d ∷ tail));
          build = λ tail. rw (append_assoc past (d ∷ []) tail, append_assoc current (d ∷ []) tail)
              (is.build (d ∷ tail));
        }

    some_open : min most capacity ≤ length current → 0 < capacity → 0 < length current
    some_open full some =
        let nil : length current ≡ 0 → 1 ≤ most = λ e. (is.bits 1 (omega arith) (omega arith)).0
        (subst (All (IsOfBits 30)) (sym (nil_from_length current e)) (All-nil (IsOfBits 30))) in
        elim (cases_lt 0 (length current)) [
          | inl yes' ↦ yes'
          | inr none ↦ absurd (let m = nil (omega arith) in omega arith)
        ]

    closed : min most capacity ≤ length current → IsSteim2Group (current ++ d ∷ []) → ⊥
    closed full group =
        let l = length-append current (d ∷ []) in
        let b = (bits_more (length (current ++ d ∷ [])) group.some group.most).0 group.bits in
        omega arith

    is_full : (tail : List ℤ) → min most capacity ≤ length current → 0 < capacity → IsFull current (d ∷ tail)
    is_full tail full some = record {
      group_is = open_is (some_open full some);
      apart = λ y ys e group. let same : y ≡ d = cc in
          closed full (subst (λ z. IsSteim2Group (current ++ z ∷ [])) same group);
    }

    left_behind : (n : ℕ) (tail : List ℤ) → min most capacity ≤ length current → 0 < capacity
        → suc n ≡ words - length groups → HasDivision IsSteim2Group words (past ++ d ∷ tail)
        → HasDivision IsSteim2Group n (d ∷ tail)
    left_behind n tail full some e h =
        let f = is_full tail full some in
        division_rest IsSteim2Group steim2_parts n current (d ∷ tail) f.group_is f.apart
        (subst (λ m. HasDivision IsSteim2Group m (current ++ d ∷ tail)) (sym e) (is.left (d ∷ tail) h))

    -- the difference opens the next word
    pub greedy_next : min most capacity ≤ length current → 0 < capacity → length groups + 1 < words
        → IsGreedy words (past ++ d ∷ []) (d ∷ []) (groups ++ current ∷ []) capacity
    greedy_next full some enough =
        let seven = cap.most in
        let size : length (groups ++ current ∷ []) ≡ length groups + 1 = length-append groups (current ∷ []) in
        record {
          room = omega arith;
          limit = seven;
          bits = λ n l h. (
            λ all. (capacity_at d capacity n cap l h).0 (all 0 d (omega arith)),
            λ le. All-cons (IsOfBits (steim2_bits n)) d [] ((capacity_at d capacity n cap l h).1 le)
                (All-nil (IsOfBits (steim2_bits n))),
          );
          few = omega arith;
          left = λ tail h. left_behind (words - length (groups ++ current ∷ [])) tail full some (omega arith)
              (subst (HasDivision IsSteim2Group words) (append_assoc past (d ∷ []) tail) h);
          build = λ tail gs h. rw (append_assoc past (d ∷ []) tail, append_assoc groups (current ∷ []) gs)
              (is.build (d ∷ tail) (current ∷ gs) (full_first current (d ∷ tail) gs (is_full tail full some) h));
        }

    -- the difference stands in no word, or no word is left
    pub greedy_no : min most capacity ≤ length current → (capacity ≡ 0) ⊎ (words ≤ length groups + 1)
        → (tail : List ℤ) → CanDivide Two words (past ++ d ∷ tail) → ⊥
    greedy_no full why tail can =
        let h = division_to words (past ++ d ∷ tail) can in
        let alone = first_fits IsSteim2Group steim2_parts words d tail
        (division_back IsSteim2Group steim2_parts words past (d ∷ tail) h) in
        let some : 0 < capacity = (capacity_at d capacity 1 cap (omega arith) (omega arith)).0
        (alone.bits 0 d (omega arith)) in
        elim why [
          | inl none ↦ omega arith
          | inr all ↦ let few = is.few in none_left IsSteim2Group steim2_parts d tail
              (left_behind 0 tail full some (omega arith) h)
        ]

  -- no difference is left
  pub greedy_last : 0 < length current → IsCanonicalDivision Two (groups ++ current ∷ []) past
  greedy_last some =
      let one : IsCanonicalDivision Two (current ∷ []) (current ++ []) =
      full_first current [] [] (record {
        group_is = open_is some;
        apart = λ y ys e group. let l : 0 ≡ suc (length ys) = ap length e in omega arith;
      }) no_division in
      subst (IsCanonicalDivision Two (groups ++ current ∷ [])) (append-nil past) (is.build [] (current ∷ []) one)

  pub greedy_none : length current ≡ 0 → IsCanonicalDivision Two groups past
  greedy_none none =
      let nil : current ++ [] ≡ [] = append-nil current ∙ nil_from_length current none in
      subst (IsCanonicalDivision Two groups) (append-nil past)
      (subst (λ gs. IsCanonicalDivision Two gs (past ++ [])) (append-nil groups)
      (is.build [] [] (subst (IsCanonicalDivision Two []) (sym nil) no_division)))
