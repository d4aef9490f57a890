-- The words of the groups that are written, one after the other.
use Rattle.std.proofs.Common.{lit<, ◌≡◌, ◌<◌, ◌≤◌, ◌↔◌, min, ℕ, zero, suc, ◌+◌, ◌-◌, ◌*◌, ◌/◌, ◌%◌, ◌^◌, ◌||◌, ltb, eqb, Bool, true, false, cond, ℤ, pos, negsuc, get_or, take, drop, List, [], ◌∷◌, ◌++◌, length, map, refl, sym, ap, ◌∙◌, subst, arith, inl, inr, append_assoc, length-append, zero-add, lit≤}
use Rattle.std.specs.Prelude.{flat_map}
use Rattle.std.specs.Int.{cast_unsigned, w32}
use Rattle.std.specs.List.{range_with_len}
use Rattle.std.specs.Int.Digits.{number_from_digits}
use Rattle.std.proofs.lemmas.Bool.{cases_lt, ne_eqb, eq-eqb, le-ltb, lt-ltb}
use Rattle.std.proofs.lemmas.Grind.{flat_map-append, pow_more}
use Rattle.std.proofs.lemmas.List.{append-nil, nil_from_length, take-append-drop, take_at, drop_at, drop_all, drop-drop, get_or-drop, length-drop, length-take}
use Rattle.std.proofs.lemmas.List.FromFn.{length-map-range_with_len, map-range_with_len_more}
use Rattle.byteorder.specs.Endian.{big_bytes}
use Rattle.msr_base.specs.declared.storage.Version.{Version}
use Rattle.msr_base.specs.declared.storage.Version.TheVariants.{One, Two}
use Rattle.msr_steim.specs.Word.{FitsBits, group_code, group_word}
use Rattle.msr_steim.specs.Frames.{code_in, codes_word, frame_bytes, frame_word, group_in}
use Rattle.msr_steim.proofs.Filling.{codes_more, length-words}
use Rattle.msr_words.specs.Division.{CanDivide}
use Rattle.msr_words.specs.Canonical.{IsCanonicalDivision}
use Rattle.msr_words.specs.Groups.{IsCapacity, IsLongestGroup, IsOneBelow}
use Rattle.msr_filling.specs.NextWord.{IsNextGroup}
use Rattle.msr_words.proofs.WrittenDivision.{one_chosen}
use Rattle.msr_words.proofs.Greedy.{IsFull, IsGreedy, full_first, greedy_last, greedy_next, greedy_no, greedy_none, greedy_same, greedy_start}
use Rattle.msr_words.proofs.Parts.{division_rest}
use Rattle.msr_words.proofs.Plain.{next_of, none_fits}
use Rattle.msr_words.proofs.Steim2Groups.{IsSteim2Group, capacity_is, division_from, division_to, group_from, group_to, steim2_parts}
use Rattle.msr_filling.proofs.NextGroups.{next_none}

-- ---- there is a division that is written

below_of : (size limit : ℕ) → (r : ℕ) × IsOneBelow size limit r
below_of size limit = elim (cases_lt size limit) [
  | inl less ↦ (1, record { most = lit≤ tt; below = (λ h. less, λ h. lit≤ tt) })
  | inr more ↦ (0, record { most = lit≤ tt; below = (λ h. absurd (omega arith), λ h. absurd (omega arith)) })
]

capacity_from : (d : ℤ) (size : ℕ) → ((width : ℕ) → (FitsBits width d ↔ size < 2 ^ (width - 1)))
    → (capacity : ℕ) × IsCapacity d capacity
capacity_from d size is =
    let a = below_of size 536870912 in
    let b = below_of size 16384 in
    let c = below_of size 512 in
    let e = below_of size 128 in
    let f = below_of size 32 in
    let g = below_of size 16 in
    let h = below_of size 8 in (
      ((a.0 + b.0 + c.0) + e.0) +
          (f.0 + g.0 + h.0),
      capacity_is d size a.0 b.0 c.0 e.0 f.0 g.0 h.0 is a.1 b.1 c.1 e.1 f.1 g.1 h.1,
    )

capacity_of : (d : ℤ) → (capacity : ℕ) × IsCapacity d capacity
capacity_of (pos n) = capacity_from (pos n) n (λ width. (λ h. h, λ h. h))
capacity_of (negsuc n) = capacity_from (negsuc n) n (λ width. (λ h. h, λ h. h))

division_after : (words most : ℕ) (past current ds : List ℤ) (groups : List (List ℤ))
    → IsGreedy words past current groups most → CanDivide Two words (past ++ ds)
    → (gs : List (List ℤ)) × IsCanonicalDivision Two gs (past ++ ds)
division_after words most past current [] groups is can = elim (cases_lt 0 (length current)) [
  | inl some ↦ (
    groups ++ current ∷ [],
    subst (IsCanonicalDivision Two (groups ++ current ∷ []))
        (sym (append-nil past)) (greedy_last words most past current groups is some),
  )
  | inr none ↦ (
    groups,
    subst (IsCanonicalDivision Two groups) (sym (append-nil past))
        (greedy_none words most past current groups is (omega arith)),
  )
]
division_after words most past current (d ∷ ds) groups is can =
    let c = capacity_of d in
    let whole : (past ++ d ∷ []) ++ ds ≡ past ++ d ∷ ds = append_assoc past (d ∷ []) ds in
    let can' : CanDivide Two words ((past ++ d ∷ []) ++ ds) = subst (CanDivide Two words) (sym whole) can in
    elim (cases_lt (length current) (min most c.0)) [
      | inl less ↦
          let found = division_after words (min most c.0) (past ++ d ∷ []) (current ++ d ∷ []) ds groups
          (greedy_same words most past current groups is d c.0 c.1 less) can' in
          (found.0, subst (IsCanonicalDivision Two found.0) whole found.1)
      | inr full ↦ elim (cases_lt 0 c.0) [
        | inr none ↦ absurd (greedy_no words most past current groups is d c.0 c.1 full (inl (omega arith)) ds can)
        | inl some ↦ elim (cases_lt (length groups + 1) words) [
          | inr all ↦ absurd (greedy_no words most past current groups is d c.0 c.1 full (inr all) ds can)
          | inl enough ↦
              let found = division_after words c.0 (past ++ d ∷ []) (d ∷ []) ds (groups ++ current ∷ [])
              (greedy_next words most past current groups is d c.0 c.1 full some enough) can' in
              (found.0, subst (IsCanonicalDivision Two found.0) whole found.1)
        ]
      ]
    ]

pub some_division : (words : ℕ) (ds : List ℤ) → CanDivide Two words ds
    → (gs : List (List ℤ)) × IsCanonicalDivision Two gs ds
some_division words ds can =
    division_after (suc words) 7 [] [] ds [] (greedy_start (suc words) (omega arith))
    (record {
      groups = can.groups;
      are_groups = can.are_groups;
      join = can.join;
      few = (let f = can.few in omega arith);
    })

-- ---- its first group is the longest

full_of : (ys : List ℤ) (size : ℕ) → IsLongestGroup ys size → 0 < size → IsFull (take size ys) (drop size ys)
full_of ys size longest some = record {
  group_is = group_to (take size ys) (longest.group some);
  apart = λ y zs e group.
      let l : length (drop size ys) ≡ suc (length zs) = ap length e in
      let m = length-drop size ys in
      longest.no_more (omega arith) (let one : suc size ≡ size + 1 = omega arith in
      group_from (take (size + 1) ys) (subst (λ n. IsSteim2Group (take n ys)) one
      (subst IsSteim2Group (next_of ys size y zs e) group)));
}

pub next_is : (gs : List (List ℤ)) (xs : List ℤ) (size : ℕ) → IsCanonicalDivision Two gs xs
    → IsLongestGroup xs size → IsNextGroup Two gs xs size
next_is gs [] size chosen longest =
    let within = longest.within in
    let zero_size : size ≡ 0 = omega arith in
    let few : length gs ≤ 0 = chosen.fewest [] tt refl in
    let none : gs ≡ [] = nil_from_length gs (omega arith) in
    record {
      group = ap (λ (hs : List (List ℤ)). get_or hs 0 []) none ∙ ap (λ n. take n []) (sym zero_size);
      rest = subst (λ hs. IsCanonicalDivision Two (drop 1 hs) (drop size [])) (sym none)
          (subst (λ n. IsCanonicalDivision Two [] (drop n [])) (sym zero_size)
          (subst (λ hs. IsCanonicalDivision Two hs []) none chosen));
      none = λ e. omega arith;
      some = λ some. absurd (omega arith);
    }
next_is gs (x ∷ xs) size chosen longest = elim (cases_lt 0 size) [
  | inr none ↦
      let zero_size : size ≡ 0 = omega arith in
      absurd (none_fits (length gs) (x ∷ xs) (inr (subst (IsLongestGroup (x ∷ xs)) zero_size longest))
      (omega arith) (record { groups = gs; are_groups = chosen.are_groups; join = chosen.join; few = omega arith }))
  | inl some ↦
      let ys : List ℤ = x ∷ xs in
      let g = take size (x ∷ xs) in
      let r = drop size (x ∷ xs) in
      let joined : g ++ r ≡ x ∷ xs = take-append-drop size (x ∷ xs) in
      let full : IsFull (take size (x ∷ xs)) (drop size (x ∷ xs)) = full_of (x ∷ xs) size longest some in
      let whole = division_to (suc (length gs)) (g ++ r)
      (record {
        groups = gs;
        are_groups = chosen.are_groups;
        join = chosen.join ∙ sym joined;
        few = omega arith;
      }) in
      let left = division_from (length gs) r (division_rest IsSteim2Group steim2_parts
      (length gs) g r full.group_is full.apart whole) in
      let found = some_division (length gs) r left in
      let first : IsCanonicalDivision Two (g ∷ found.0) (x ∷ xs) =
      subst (IsCanonicalDivision Two (g ∷ found.0)) joined (full_first g r found.0 full found.1) in
      let same : gs ≡ g ∷ found.0 = one_chosen Two gs (g ∷ found.0) (x ∷ xs) chosen first in
      let number : length gs ≡ suc (length found.0) = ap length same in
      let tail : drop 1 gs ≡ found.0 = ap (drop 1) same in
      let number' : length (drop 1 gs) ≡ length found.0 = ap length tail in
      record {
        group = ap (λ (hs : List (List ℤ)). get_or hs 0 []) same;
        rest = subst (λ hs. IsCanonicalDivision Two hs r) (sym tail) found.1;
        none = λ e. absurd (omega arith);
        some = λ s. omega arith;
      }
]

-- if differences are left, a group is
pub some_next : (version : Version) (gs : List (List ℤ)) (ds : List ℤ) (size : ℕ)
    → IsCanonicalDivision version gs ds → IsNextGroup version gs ds size → size ≡ 0 → length ds ≡ 0
some_next version gs ds size chosen next none =
    let no : gs ≡ [] = nil_from_length gs (next.none none) in
    let join : flat_map (λ g. g) [] ≡ ds = subst (λ hs. flat_map (λ g. g) hs ≡ ds) no chosen.join in
    sym (ap length join)

-- ---- bytes of words

-- a word after the others
pub put_next : (ws : List ℕ) (w n : ℕ) (old area new : List ℕ) → length ws ≡ n
    → area ≡ flat_map (big_bytes 4) ws ++ drop (4 * n) old
    → new ≡ take (4 * n) area ++ (big_bytes 4 w ++ drop (4 * n + 4) area)
    → new ≡ flat_map (big_bytes 4) (ws ++ w ∷ []) ++ drop (4 * (n + 1)) old
put_next ws w n old area new number same put =
    let g = flat_map (big_bytes 4) ws in
    let d = drop (4 * n) old in
    let size : length g ≡ 4 * n = length-words ws ∙ ap (λ m. 4 * m) number in
    let front : take (4 * n) area ≡ g = ap (take (4 * n)) same ∙ take_at g d (4 * n) size in
    let back : drop (4 * n) area ≡ d = ap (drop (4 * n)) same ∙ drop_at g d (4 * n) size in
    let places : 4 * n + 4 ≡ 4 * (n + 1) = omega arith in
    let rest : drop (4 * n + 4) area ≡ drop (4 * (n + 1)) old = sym (drop-drop 4 (4 * n) area) ∙ ap (drop 4) back
    ∙ drop-drop 4 (4 * n) old ∙ ap (λ m. drop m old) places in
    let more : flat_map (big_bytes 4) (ws ++ w ∷ []) ≡ g ++ big_bytes 4 w = flat_map-append (big_bytes 4) ws (w ∷ []) in
    put ∙ ap (λ x. x ++ (big_bytes 4 w ++ drop (4 * n + 4) area)) front ∙ ap (λ x. g ++ (big_bytes 4 w ++ x)) rest
    ∙ sym (append_assoc g (big_bytes 4 w) (drop (4 * (n + 1)) old)) ∙ ap (λ x. x ++ drop (4 * (n + 1)) old) (sym more)

-- a word in the place of another
pub put_back : (ps rs : List ℕ) (v w n : ℕ) (tail area new : List ℕ) → length ps ≡ n
    → area ≡ flat_map (big_bytes 4) (ps ++ v ∷ rs) ++ tail
    → new ≡ take (4 * n) area ++ (big_bytes 4 w ++ drop (4 * n + 4) area)
    → new ≡ flat_map (big_bytes 4) (ps ++ w ∷ rs) ++ tail
put_back ps rs v w n tail area new number same put =
    let g = flat_map (big_bytes 4) ps in
    let f = flat_map (big_bytes 4) rs in
    let size : length g ≡ 4 * n = length-words ps ∙ ap (λ m. 4 * m) number in
    let area_is : area ≡ g ++ (big_bytes 4 v ++ (f ++ tail)) =
    same ∙ ap (λ x. x ++ tail) (flat_map-append (big_bytes 4) ps (v ∷ rs))
    ∙ append_assoc g (big_bytes 4 v ++ f) tail ∙ ap (λ x. g ++ x) (append_assoc (big_bytes 4 v) f tail) in
    let front : take (4 * n) area ≡ g = ap (take (4 * n)) area_is
    ∙ take_at g (big_bytes 4 v ++ (f ++ tail)) (4 * n) size in
    let back : drop (4 * n) area ≡ big_bytes 4 v ++ (f ++ tail) = ap (drop (4 * n)) area_is
    ∙ drop_at g (big_bytes 4 v ++ (f ++ tail)) (4 * n) size in
    let rest : drop (4 * n + 4) area ≡ f ++ tail = sym (drop-drop 4 (4 * n) area) ∙ ap (drop 4) back in
    put ∙ ap (λ x. x ++ (big_bytes 4 w ++ drop (4 * n + 4) area)) front ∙ ap (λ x. g ++ (big_bytes 4 w ++ x)) rest
    ∙ sym (ap (λ x. x ++ tail) (flat_map-append (big_bytes 4) ps (w ∷ rs))
    ∙ append_assoc g (big_bytes 4 w ++ f) tail ∙ ap (λ x. g ++ x) (append_assoc (big_bytes 4 w) f tail))

pub range_join : (f : ℕ → ℕ) (a n m : ℕ) → map f (range_with_len a (n + m)) ≡ map f (range_with_len a n)
    ++ map f (range_with_len (a + n) m)
range_join f a n zero =
    let none : n + 0 ≡ n = omega arith in
    ap (λ k. map f (range_with_len a k)) none ∙ sym (append-nil (map f (range_with_len a n)))
range_join f a n (suc m) =
    let one : n + suc m ≡ (n + m) + 1 = omega arith in
    let two : m + 1 ≡ suc m = omega arith in
    ap (λ k. map f (range_with_len a k)) one ∙ map-range_with_len_more f a (n + m) (a + (n + m)) refl
    ∙ ap (λ x. x ++ f (a + (n + m)) ∷ []) (range_join f a n m)
    ∙ append_assoc (map f (range_with_len a n)) (map f (range_with_len (a + n) m)) (f (a + (n + m)) ∷ [])
    ∙ ap (λ x. map f (range_with_len a n) ++ x) (sym (map-range_with_len_more f (a + n) m (a + (n + m)) (omega arith)))
    ∙ ap (λ k. map f (range_with_len a n) ++ map f (range_with_len (a + n) k)) two

-- ---- the groups in the words

data_word : (gs : List (List ℤ)) (frame slot : ℕ) → slot < 15 → 2 ≤ 15 * frame + slot
    → group_in gs (16 * frame + slot + 1) ≡ get_or gs (15 * frame + slot - 2) []
data_word gs frame slot small data' =
    let n = 16 * frame + slot + 1 in
    let low : ltb (16 * frame + slot + 1) 3 ≡ false = le-ltb (16 * frame + slot + 1) 3 (omega arith) in
    let inside : eqb ((16 * frame + slot + 1) % 16) 0 ≡ false =
    ne_eqb ((16 * frame + slot + 1) % 16) 0 (λ e. omega arith) in
    let place : (16 * frame + slot + 1) - (16 * frame + slot + 1) / 16 - 3 ≡ 15 * frame + slot - 2 = omega arith in
    rw (low, inside, place) refl

no_data : (gs : List (List ℤ)) (number : ℕ) → number < 3 → group_in gs number ≡ []
no_data gs number low =
    let is : ltb number 3 ≡ true = lt-ltb number 3 low in
    rw is refl

frame_start : (gs : List (List ℤ)) (frame : ℕ) → group_in gs (16 * frame) ≡ []
frame_start gs frame =
    let whole : eqb ((16 * frame) % 16) 0 ≡ true = eq-eqb ((16 * frame) % 16) 0 (omega arith) in
    rw whole (either (ltb (16 * frame) 3))
  where
    either : (b : Bool) → cond (b || true) [] (get_or gs (16 * frame - 16 * frame / 16 - 3) []) ≡ []
    either true = refl
    either false = refl

pub no_code : (version : Version) → 0 ≡ group_code version 0
no_code One = refl
no_code Two = refl

pub no_word : (version : Version) → 0 ≡ group_word version []
no_word One = refl
no_word Two = refl

code_of_none : (version : Version) (gs : List (List ℤ)) (number : ℕ) → group_in gs number ≡ []
    → 0 ≡ code_in version gs number
code_of_none version gs number none = no_code version ∙ sym (ap (λ (g : List ℤ). group_code version (length g)) none)

pub word_at_start : (version : Version) (first last : ℤ) (gs : List (List ℤ)) (frame : ℕ)
    → frame_word version first last gs (16 * frame)
    ≡ number_from_digits 4 (map (code_in version gs) (range_with_len (16 * frame) 16))
unfolding frame_word codes_word
word_at_start version first last gs frame =
    let whole : eqb ((16 * frame) % 16) 0 ≡ true = eq-eqb ((16 * frame) % 16) 0 (omega arith) in
    rw whole refl

word_one : (version : Version) (first last : ℤ) (gs : List (List ℤ))
    → frame_word version first last gs 1 ≡ cast_unsigned w32 first
unfolding frame_word
word_one version first last gs = refl

word_two : (version : Version) (first last : ℤ) (gs : List (List ℤ))
    → frame_word version first last gs 2 ≡ cast_unsigned w32 last
unfolding frame_word
word_two version first last gs = refl

pub word_data : (version : Version) (first last : ℤ) (gs : List (List ℤ)) (number : ℕ) → 3 ≤ number
    → (number % 16 ≡ 0 → ⊥) → frame_word version first last gs number ≡ group_word version (group_in gs number)
unfolding frame_word
word_data version first last gs number high inside =
    let a : eqb (number % 16) 0 ≡ false = ne_eqb (number % 16) 0 inside in
    let b : eqb number 1 ≡ false = ne_eqb number 1 (λ e. omega arith) in
    let c : eqb number 2 ≡ false = ne_eqb number 2 (λ e. omega arith) in
    rw (a, b, c) refl

pub constant_one : (version : Version) (number : ℕ) (first last : ℤ) (gs : List (List ℤ)) → number ≡ 1
    → cast_unsigned w32 first ≡ frame_word version first last gs number
constant_one version number first last gs one =
    sym (ap (frame_word version first last gs) one ∙ word_one version first last gs)

pub constant_two : (version : Version) (number : ℕ) (first last : ℤ) (gs : List (List ℤ)) → number ≡ 2
    → cast_unsigned w32 last ≡ frame_word version first last gs number
constant_two version number first last gs two =
    sym (ap (frame_word version first last gs) two ∙ word_two version first last gs)

-- one code more
pub codes_below_more : (codes code k : ℕ) → codes < 4 ^ k → code < 4 → {new : ℕ} → new ≡ codes * 4 + code
    → new < 4 ^ (k + 1)
codes_below_more codes code k few small {new} same =
    let one : 4 ^ (k + 1) ≡ 4 ^ k * 4 = pow_more 4 k in
    omega arith

pub some_codes : (k : ℕ) → 0 < 4 ^ k
some_codes zero = lit< tt
some_codes (suc k) =
    let less = some_codes k in
    let one : 4 ^ (k + 1) ≡ 4 ^ k * 4 = pow_more 4 k in
    let next : k + 1 ≡ suc k = omega arith in
    subst (λ n. 0 < 4 ^ n) next (omega arith)

-- ---- frame by frame

-- the first `frame` frames are filled
pub record IsFramed (version : Version) (gs : List (List ℤ)) (ds : List ℤ) (first last : ℤ) (frame at used : ℕ)
    (old area : List ℕ) : Type 0 where
  pub left : IsCanonicalDivision version (drop (15 * frame - 2) gs) (drop at ds)
  pub number : used + length (drop (15 * frame - 2) gs) ≡ length gs
  pub bytes : area ≡ flat_map (big_bytes 4) (map (frame_word version first last gs)
      (range_with_len 0 (16 * frame))) ++ drop (4 * (16 * frame)) old

-- and so are `slot` words of the next one, after its codes, which are still 0
pub record IsFilled (version : Version) (gs : List (List ℤ)) (ds : List ℤ) (first last : ℤ)
    (frame slot at used codes : ℕ) (old area : List ℕ) : Type 0 where
  pub left : IsCanonicalDivision version (drop (15 * frame + slot - 2) gs) (drop at ds)
  pub number : used + length (drop (15 * frame + slot - 2) gs) ≡ length gs
  pub codes_are : codes ≡ number_from_digits 4 (map (code_in version gs) (range_with_len (16 * frame) (slot + 1)))
  pub bytes : area ≡ flat_map (big_bytes 4) (map (frame_word version first last gs) (range_with_len 0 (16 * frame))
      ++ 0 ∷ map (frame_word version first last gs) (range_with_len (16 * frame + 1) slot))
      ++ drop (4 * (16 * frame + slot + 1)) old

module _ (version : Version) (gs : List (List ℤ)) (ds : List ℤ) (first last : ℤ) (frame at used : ℕ)
    (old area new : List ℕ) where
  pub frame_begins : IsFramed version gs ds first last frame at used old area
      → new ≡ take (4 * (16 * frame)) area ++ (big_bytes 4 0 ++ drop (4 * (16 * frame) + 4) area)
      → IsFilled version gs ds first last frame 0 at used 0 old new
  frame_begins is put =
      let f = frame_word version first last gs in
      let same : 15 * frame + 0 - 2 ≡ 15 * frame - 2 = omega arith in
      let place : 16 * frame + 1 ≡ 16 * frame + 0 + 1 = omega arith in
      record {
        left = subst (λ n. IsCanonicalDivision version (drop n gs) (drop at ds)) (sym same) is.left;
        number = subst (λ n. used + length (drop n gs) ≡ length gs) (sym same) is.number;
        codes_are = code_of_none version gs (16 * frame) (frame_start gs frame)
            ∙ sym (zero-add (code_in version gs (16 * frame)));
        bytes = put_next (map f (range_with_len 0 (16 * frame))) 0 (16 * frame) old area new
            (length-map-range_with_len f 0 (16 * frame)) is.bytes put
            ∙ ap (λ n. flat_map (big_bytes 4) (map f (range_with_len 0 (16 * frame)) ++ 0 ∷ [])
            ++ drop (4 * n) old) place;
      }

  pub frame_ends : (slot codes : ℕ) → slot ≡ 15
      → IsFilled version gs ds first last frame slot at used codes old area
      → new ≡ take (4 * (16 * frame)) area ++ (big_bytes 4 codes ++ drop (4 * (16 * frame) + 4) area)
      → IsFramed version gs ds first last (frame + 1) at used old new
  frame_ends slot codes all is' put =
      let is : IsFilled version gs ds first last frame 15 at used codes old area =
      subst (λ s. IsFilled version gs ds first last frame s at used codes old area) all is' in
      let f = frame_word version first last gs in
      let same : 15 * frame + 15 - 2 ≡ 15 * (frame + 1) - 2 = omega arith in
      let place : 16 * frame + 15 + 1 ≡ 16 * (frame + 1) = omega arith in
      let number : 16 * frame + 16 ≡ 16 * (frame + 1) = omega arith in
      let codes_is : codes ≡ f (16 * frame) = is.codes_are ∙ sym (word_at_start version first last gs frame) in
      let ps = map f (range_with_len 0 (16 * frame)) in
      let rs = map f (range_with_len (16 * frame + 1) 15) in
      let whole : ps ++ codes ∷ rs ≡ map f (range_with_len 0 (16 * (frame + 1))) = ap (λ w. ps ++ w ∷ rs) codes_is
      ∙ ap (λ a. ps ++ map f (range_with_len a 16)) (sym (zero-add (16 * frame)))
      ∙ sym (range_join f 0 (16 * frame) 16) ∙ ap (λ n. map f (range_with_len 0 n)) number in
      record {
        left = subst (λ n. IsCanonicalDivision version (drop n gs) (drop at ds)) same is.left;
        number = subst (λ n. used + length (drop n gs) ≡ length gs) same is.number;
        bytes = put_back ps rs 0 codes (16 * frame) (drop (4 * (16 * frame + 15 + 1)) old) area new
            (length-map-range_with_len f 0 (16 * frame)) is.bytes put
            ∙ ap (λ ws. flat_map (big_bytes 4) ws ++ drop (4 * (16 * frame + 15 + 1)) old) whole
            ∙ ap (λ n. flat_map (big_bytes 4) (map f (range_with_len 0 (16 * (frame + 1)))) ++ drop (4 * n) old) place;
      }

  module _ (slot codes : ℕ) (is : IsFilled version gs ds first last frame slot at used codes old area)
      (small : slot < 15) where
    words_more : (w : ℕ) → w ≡ frame_word version first last gs (16 * frame + slot + 1)
        → new ≡ take (4 * (16 * frame + slot + 1)) area
        ++ (big_bytes 4 w ++ drop (4 * (16 * frame + slot + 1) + 4) area)
        → new ≡ flat_map (big_bytes 4) (map (frame_word version first last gs) (range_with_len 0 (16 * frame))
        ++ 0 ∷ map (frame_word version first last gs)
        (range_with_len (16 * frame + 1) (slot + 1))) ++ drop (4 * (16 * frame + (slot + 1) + 1)) old
    words_more w w_is put =
        let f = frame_word version first last gs in
        let ps = map f (range_with_len 0 (16 * frame)) in
        let rs = map f (range_with_len (16 * frame + 1) slot) in
        let a : length ps ≡ 16 * frame = length-map-range_with_len f 0 (16 * frame) in
        let b : length rs ≡ slot = length-map-range_with_len f (16 * frame + 1) slot in
        let c : length (ps ++ 0 ∷ rs) ≡ length ps + suc (length rs) = length-append ps (0 ∷ rs) in
        let size : length (ps ++ 0 ∷ rs) ≡ 16 * frame + slot + 1 = omega arith in
        let place : 16 * frame + slot + 1 + 1 ≡ 16 * frame + (slot + 1) + 1 = omega arith in
        let more : map f (range_with_len (16 * frame + 1) (slot + 1)) ≡ rs ++ f (16 * frame + slot + 1) ∷ [] =
        map-range_with_len_more f (16 * frame + 1) slot (16 * frame + slot + 1) (omega arith) in
        put_next (ps ++ 0 ∷ rs) w (16 * frame + slot + 1) old area new size is.bytes put
        ∙ ap (λ ws. flat_map (big_bytes 4) ws ++ drop (4 * (16 * frame + slot + 1 + 1)) old)
        (append_assoc ps (0 ∷ rs) (w ∷ []) ∙ ap (λ v. ps ++ 0 ∷ (rs ++ v ∷ [])) w_is
        ∙ ap (λ ws. ps ++ 0 ∷ ws) (sym more))
        ∙ ap (λ n. flat_map (big_bytes 4) (ps ++ 0 ∷ map f (range_with_len (16 * frame + 1) (slot + 1)))
        ++ drop (4 * n) old) place

    codes_and : (code : ℕ) → code ≡ code_in version gs (16 * frame + slot + 1)
        → codes * 4 + code ≡ number_from_digits 4 (map (code_in version gs)
        (range_with_len (16 * frame) (slot + 1 + 1)))
    codes_and code code_is =
        let place : 16 * frame + slot + 1 ≡ 16 * frame + (slot + 1) = omega arith in
        ap (λ n. n * 4 + code) is.codes_are
        ∙ ap (λ n. number_from_digits 4 (map (code_in version gs) (range_with_len (16 * frame) (slot + 1))) * 4
        + n) (code_is ∙ ap (code_in version gs) place)
        ∙ sym (codes_more version gs (16 * frame) (slot + 1))

    -- one of the two constants
    pub constant_more : (w : ℕ) → 16 * frame + slot + 1 < 3 → codes ≡ 0
        → w ≡ frame_word version first last gs (16 * frame + slot + 1)
        → new ≡ take (4 * (16 * frame + slot + 1)) area
        ++ (big_bytes 4 w ++ drop (4 * (16 * frame + slot + 1) + 4) area)
        → IsFilled version gs ds first last frame (slot + 1) at used codes old new
    constant_more w low none w_is put =
        let same : 15 * frame + slot - 2 ≡ 15 * frame + (slot + 1) - 2 = omega arith in
        record {
          left = subst (λ n. IsCanonicalDivision version (drop n gs) (drop at ds)) same is.left;
          number = subst (λ n. used + length (drop n gs) ≡ length gs) same is.number;
          codes_are = (let twice : codes ≡ codes * 4 + 0 = omega arith in twice
              ∙ codes_and 0 (code_of_none version gs (16 * frame + slot + 1) (no_data gs (16 * frame + slot + 1) low)));
          bytes = words_more w w_is put;
        }

    -- a group
    pub group_more : (w code size used' : ℕ) → 3 ≤ 16 * frame + slot + 1
        → (IsCanonicalDivision version (drop (15 * frame + slot - 2) gs) (drop at ds)
        → IsNextGroup version (drop (15 * frame + slot - 2) gs)
        (drop at ds) size) → size ≤ length (drop at
        ds) → code ≡ group_code version size → w ≡ group_word version (take size (drop at ds))
        → (0 < size → used' ≡ used + 1) → (size ≡ 0 → used' ≡ used)
        → new ≡ take (4 * (16 * frame + slot + 1)) area
        ++ (big_bytes 4 w ++ drop (4 * (16 * frame + slot + 1) + 4) area)
        → IsFilled version gs ds first last frame (slot + 1) (at + size) used' (codes * 4 + code) old new
    group_more w code size used' high follows within code_is w_is more same put =
        let k = 15 * frame + slot - 2 in
        let next : IsNextGroup version (drop (15 * frame + slot - 2) gs) (drop at ds) size = follows is.left in
        let zero_off : 15 * frame + slot - 2 + 0 ≡ 15 * frame + slot - 2 = omega arith in
        let group : group_in gs (16 * frame + slot + 1) ≡ take size (drop at ds) =
        data_word gs frame slot small (omega arith) ∙ ap (λ n. get_or gs n []) (sym zero_off)
        ∙ sym (get_or-drop (15 * frame + slot - 2) gs 0 []) ∙ next.group in
        let long : length (take size (drop at ds)) ≡ size = (let l = length-take size (drop at ds) in omega arith) in
        let word : w ≡ frame_word version first last gs (16 * frame + slot + 1) = w_is
        ∙ sym (ap (group_word version) group) ∙ sym (word_data version first last gs
        (16 * frame + slot + 1) high (λ e. omega arith)) in
        let code' : code ≡ code_in version gs (16 * frame + slot + 1) = code_is
        ∙ sym (ap (group_code version) long) ∙ sym (ap (λ (g : List ℤ). group_code version (length g)) group) in
        let places : 1 + (15 * frame + slot - 2) ≡ 15 * frame + (slot + 1) - 2 = omega arith in
        let places' : (15 * frame + slot - 2) + 1 ≡ 15 * frame + (slot + 1) - 2 = omega arith in
        let gs_left : drop 1 (drop (15 * frame + slot - 2) gs) ≡ drop (15 * frame + (slot + 1) - 2) gs =
        drop-drop 1 (15 * frame + slot - 2) gs ∙ ap (λ n. drop n gs) places' in
        let ds_left : drop size (drop at ds) ≡ drop (at + size) ds = drop-drop size at ds in
        let gone : length (drop 1 (drop (15 * frame + slot - 2) gs))
        ≡ length (drop (15 * frame + (slot + 1) - 2) gs) = ap length gs_left in
        let before : used + length (drop (15 * frame + slot - 2) gs) ≡ length gs = is.number in
        record {
          left = subst (λ hs. IsCanonicalDivision version hs (drop (at + size) ds)) gs_left
              (subst (IsCanonicalDivision version (drop 1 (drop (15 * frame + slot - 2) gs))) ds_left next.rest);
          number = elim (cases_lt 0 size) [
            | inl some ↦ let a = next.some some in let b = more some in omega arith
            | inr none ↦
                let a = next.none (omega arith) in let b = same (omega arith) in
                let c = length-drop 1 (drop (15 * frame + slot - 2) gs) in omega arith
          ];
          codes_are = codes_and code code';
          bytes = words_more w word put;
        }

    -- a word of no group after the last
    pub none_more : 2 ≤ 16 * frame + slot → length (drop at ds) ≡ 0
        → new ≡ take (4 * (16 * frame + slot + 1)) area
        ++ (big_bytes 4 0 ++ drop (4 * (16 * frame + slot + 1) + 4) area)
        → IsFilled version gs ds first last frame (slot + 1) at used (codes * 4) old new
    none_more high end put =
        let same : at + 0 ≡ at = omega arith in
        let codes_same : codes * 4 + 0 ≡ codes * 4 = omega arith in
        let all = group_more 0 0 0 used (omega arith)
        (λ left. next_none version (drop (15 * frame + slot - 2) gs) (drop at ds) end left)
        (omega arith) (no_code version) (no_word version) (λ s. absurd (omega arith)) (λ none. refl) put in
        subst (λ n. IsFilled version gs ds first last frame (slot + 1) n used (codes * 4) old new) same
        (subst (λ n. IsFilled version gs ds first last frame (slot + 1) (at + 0) used n old new) codes_same all)

-- both constants, after the codes of the first frame
pub constants_more : (version : Version) (gs : List (List ℤ)) (ds : List ℤ) (first last : ℤ) (frame at used : ℕ)
    (old area one new : List ℕ) → frame ≡ 0 → IsFilled version gs ds first last frame 0 at used 0 old area
    → one ≡ take (4 * (16 * frame + 1)) area ++ (big_bytes 4 (cast_unsigned w32 first)
    ++ drop (4 * (16 * frame + 1) + 4) area)
    → new ≡ take (4 * (16 * frame + 2)) one ++ (big_bytes 4 (cast_unsigned w32 last)
    ++ drop (4 * (16 * frame + 2) + 4) one)
    → IsFilled version gs ds first last frame 2 at used 0 old new
constants_more version gs ds first last frame at used old area one new start is put_first put_last =
    let place : 16 * frame + 1 ≡ 16 * frame + 0 + 1 = omega arith in
    let next : 16 * frame + 2 ≡ 16 * frame + 1 + 1 = omega arith in
    let w = cast_unsigned w32 first in
    let v = cast_unsigned w32 last in
    let is_one : IsFilled version gs ds first last frame 1 at used 0 old one =
    constant_more version gs ds first last frame at used old area one 0 0 is (omega arith) w (omega arith) refl
    (constant_one version (16 * frame + 0 + 1) first last gs (omega arith))
    (subst (λ n. one ≡ take (4 * n) area ++ (big_bytes 4 (cast_unsigned w32 first)
    ++ drop (4 * n + 4) area)) place put_first) in
    constant_more version gs ds first last frame at used old one new 1 0 is_one (omega arith) v (omega arith) refl
    (constant_two version (16 * frame + 1 + 1) first last gs (omega arith))
    (subst (λ n. new ≡ take (4 * n) one ++ (big_bytes 4 (cast_unsigned w32 last)
    ++ drop (4 * n + 4) one)) next put_last)

pub framed_all : (version : Version) (gs : List (List ℤ)) (ds : List ℤ) (first last : ℤ)
    (last_frame frame at used : ℕ) (old area : List ℕ) → last_frame ≡ frame
    → IsFramed version gs ds first last last_frame at used old area → length old ≡ 64 * frame
    → length gs + 2 ≤ 15 * frame
    → (area ≡ frame_bytes version first last gs frame) × (used ≡ length gs)
framed_all version gs ds first last last_frame frame at used old area all is' size room =
    let is : IsFramed version gs ds first last frame at used old area =
    subst (λ f. IsFramed version gs ds first last f at used old area) all is' in
    let none : drop (4 * (16 * frame)) old ≡ [] = drop_all (4 * (16 * frame)) old (omega arith) in
    let left = length-drop (15 * frame - 2) gs in
    let number = is.number in (
      is.bytes ∙ ap (λ x. flat_map (big_bytes 4) (map (frame_word version first last gs)
          (range_with_len 0 (16 * frame))) ++ x) none ∙ append-nil (flat_map (big_bytes 4) (map
          (frame_word version first last gs) (range_with_len 0 (16 * frame)))),
      omega arith,
    )
