-- Lemmas on the area that is written for some groups.
use Rattle.std.proofs.Common.{◌≡◌, ◌<◌, ◌≤◌, ℕ, zero, suc, ◌+◌, ◌-◌, ◌*◌, ◌/◌, ◌%◌, ◌^◌, ◌||◌, ltb, eqb, ℤ, List, [], ◌∷◌, ◌++◌, length, map, take, drop, get_or, Bool, true, false, cond, refl, sym, ap, ◌∙◌, arith, append_assoc, ◌⊎◌, inl, inr, ⊎_elim, lit<}
use Rattle.std.specs.Prelude.{flat_map}
use Rattle.std.specs.List.{range_with_len}
use Rattle.std.specs.Int.Digits.{number_from_digits, AllBelowBase}
use Rattle.std.proofs.lemmas.Int.Digits.{number_push, number_lt}
use Rattle.std.proofs.lemmas.List.FromFn.{map-range_with_len_more, length-map-range_with_len}
use Rattle.std.proofs.lemmas.List.{append-nil, drop-drop, length-drop, take_all, drop_all, take_at, drop_at}
use Rattle.std.proofs.lemmas.Grind.{flat_map-append}
use borrow.Rule.Slice.PartMut.{put_mid}
use Rattle.byteorder.specs.Endian.{big_bytes}
use Rattle.std.proofs.Math.Nat.{pow-le-pow_right}
use Rattle.msr_base.specs.declared.storage.Version.{Version}
use Rattle.msr_base.specs.declared.storage.Version.TheVariants.{One, Two}
use Rattle.msr_steim.specs.Word.{AreGroups, IsGroup, IsInnerGroup, group_code, group_word}
use Rattle.msr_steim.specs.Frames.{code_in, group_in}

-- ---- the group of a word

pub inner_is_group : (version : Version) (group : List ℤ) → IsInnerGroup version group → IsGroup version group
inner_is_group One group is = is.0
inner_is_group Two group is = is

group_at_place : (version : Version) (gs : List (List ℤ)) (i : ℕ) → AreGroups version gs
    → (get_or gs i [] ≡ []) ⊎ IsGroup version (get_or gs i [])
group_at_place version [] i are = inl refl
group_at_place version (g ∷ []) zero are = inr are
group_at_place version (g ∷ []) (suc i) are = inl refl
group_at_place version (g ∷ h ∷ gs) zero are = inr (inner_is_group version g are.0)
group_at_place version (g ∷ h ∷ gs) (suc i) are = group_at_place version (h ∷ gs) i are.1

none_or : (version : Version) (b : Bool) (g : List ℤ) → (g ≡ []) ⊎ IsGroup version g
    → (cond b [] g ≡ []) ⊎ IsGroup version (cond b [] g)
none_or version true g h = inl refl
none_or version false g h = h

-- a word has no group, or one that a word can hold
pub group_or_none : (version : Version) (gs : List (List ℤ)) (number : ℕ) → AreGroups version gs
    → (group_in gs number ≡ []) ⊎ IsGroup version (group_in gs number)
group_or_none version gs number are = none_or version (ltb number 3 || eqb (number % 16) 0)
    (get_or gs (number - number / 16 - 3) []) (group_at_place version gs (number - number / 16 - 3) are)

word_of_none : (version : Version) → 0 ≡ group_word version []
word_of_none One = refl
word_of_none Two = refl

-- a word without a group is 0
pub no_group_no_word : (version : Version) (gs : List (List ℤ)) (number : ℕ) → AreGroups version gs
    → (IsGroup version (group_in gs number) → ⊥) → 0 ≡ group_word version (group_in gs number)
no_group_no_word version gs number are not_one =
    ⊎_elim (λ (e : group_in gs number ≡ []). word_of_none version ∙ ap (group_word version) (sym e))
    (λ (is : IsGroup version (group_in gs number)). absurd (not_one is)) (group_or_none version gs number are)

code_of_none : (version : Version) → 0 ≡ group_code version 0
code_of_none One = refl
code_of_none Two = refl

-- and its code is 0
pub no_group_no_code : (version : Version) (gs : List (List ℤ)) (number : ℕ) → AreGroups version gs
    → (IsGroup version (group_in gs number) → ⊥) → 0 ≡ code_in version gs number
no_group_no_code version gs number are not_one =
    ⊎_elim (λ (e : group_in gs number ≡ []). code_of_none version ∙ ap (λ group. group_code version (length group)) (sym e))
    (λ (is : IsGroup version (group_in gs number)). absurd (not_one is)) (group_or_none version gs number are)

-- ---- the codes of a frame

code_lt_one : (a b c d : Bool) → cond a 3 (cond b 2 (cond c 1 (cond d 1 0))) < 4
code_lt_one true b c d = lit< tt
code_lt_one false true c d = lit< tt
code_lt_one false false true d = lit< tt
code_lt_one false false false true = lit< tt
code_lt_one false false false false = lit< tt

code_lt_two : (a b c d e f g : Bool) → cond a 2 (cond b 2 (cond c 2 (cond d 1 (cond e 3 (cond f 3 (cond g 3 0)))))) < 4
code_lt_two true b c d e f g = lit< tt
code_lt_two false true c d e f g = lit< tt
code_lt_two false false true d e f g = lit< tt
code_lt_two false false false true e f g = lit< tt
code_lt_two false false false false true f g = lit< tt
code_lt_two false false false false false true g = lit< tt
code_lt_two false false false false false false true = lit< tt
code_lt_two false false false false false false false = lit< tt

-- a code has two bits
pub code_lt : (version : Version) (n : ℕ) → group_code version n < 4
code_lt One n = code_lt_one (eqb n 1) (eqb n 2) (eqb n 3) (eqb n 4)
code_lt Two n = code_lt_two (eqb n 1) (eqb n 2) (eqb n 3) (eqb n 4) (eqb n 5) (eqb n 6) (eqb n 7)

pub codes_below : (version : Version) (gs : List (List ℤ)) (ns : List ℕ) → AllBelowBase 4 (map (code_in version gs) ns)
codes_below version gs [] = tt
codes_below version gs (n ∷ ns) = (code_lt version (length (group_in gs n)), codes_below version gs ns)

-- the codes of `k` words, as digits of base 4, give a number below 4 ^ k
pub codes_lt : (version : Version) (gs : List (List ℤ)) (number k : ℕ)
    → number_from_digits 4 (map (code_in version gs) (range_with_len number k)) < 4 ^ k
codes_lt version gs number k =
    rw (length-map-range_with_len (code_in version gs) number k) at
    (number_lt 4 (map (code_in version gs) (range_with_len number k))
    (codes_below version gs (range_with_len number k)))

-- one more code
pub codes_more : (version : Version) (gs : List (List ℤ)) (number k : ℕ)
    → number_from_digits 4 (map (code_in version gs) (range_with_len number (k + 1)))
    ≡ number_from_digits 4 (map (code_in version gs) (range_with_len number k)) * 4 + code_in version gs
    (number + k)
codes_more version gs number k =
    ap (number_from_digits 4) (map-range_with_len_more (code_in version gs) number k (number + k) refl)
    ∙ number_push 4 (map (code_in version gs) (range_with_len number k)) (code_in version gs (number + k))

-- there is room for one more code
pub codes_fit : (codes k : ℕ) → codes < 4 ^ k → k < 16 → codes < 1073741824
codes_fit codes k few small =
    let most : 4 ^ k ≤ 4 ^ 15 = pow-le-pow_right {n = 4} (lit< tt) {i = k} {j = 15} (omega arith) in
    omega arith

-- ---- the bytes of the words

pub length-words : (ws : List ℕ) → length (flat_map (big_bytes 4) ws) ≡ 4 * length ws
length-words [] = refl
length-words (w ∷ ws) = let e : length (flat_map (big_bytes 4) ws) ≡ 4 * length ws = length-words ws in omega arith

-- one more word
pub fill_step : (ws : List ℕ) (w n : ℕ) (old area buf : List ℕ) → length ws ≡ n
    → area ≡ flat_map (big_bytes 4) ws ++ drop (4 * n) old
    → buf ≡ big_bytes 4 w ++ drop 4 (take (length area - 4 * n) (drop (4 * n) area)) → 4 * n + 4 ≤ length area
    → put_mid (4 * n) (length area - 4 * n) area buf ≡ flat_map (big_bytes 4) (ws ++ w ∷ []) ++ drop (4 * (n + 1)) old
fill_step ws w n old area buf number same written room =
    let g = flat_map (big_bytes 4) ws in
    let d = drop (4 * n) old in
    let k = length area - 4 * n in
    let size : length g ≡ 4 * n = length-words ws ∙ ap (λ m. 4 * m) number in
    let front : take (4 * n) area ≡ g = ap (take (4 * n)) same ∙ take_at g d (4 * n) size in
    let back : drop (4 * n) area ≡ d = ap (drop (4 * n)) same ∙ drop_at g d (4 * n) size in
    let left : length (drop (4 * n) area) ≡ length area - 4 * n = length-drop (4 * n) area in
    let whole : take k (drop (4 * n) area) ≡ drop (4 * n) area = take_all k (drop (4 * n) area) (omega arith) in
    let none : drop k (drop (4 * n) area) ≡ [] = drop_all k (drop (4 * n) area) (omega arith) in
    let places : 4 * n + 4 ≡ 4 * (n + 1) = omega arith in
    let rest : drop 4 d ≡ drop (4 * (n + 1)) old = drop-drop 4 (4 * n) old ∙ ap (λ m. drop m old) places in
    let more : flat_map (big_bytes 4) (ws ++ w ∷ []) ≡ g ++ big_bytes 4 w = flat_map-append (big_bytes 4) ws (w ∷ []) in
    let now : buf ≡ big_bytes 4 w ++ drop (4 * (n + 1)) old = written
    ∙ ap (λ x. big_bytes 4 w ++ drop 4 x) (whole ∙ back) ∙ ap (λ x. big_bytes 4 w ++ x) rest in
    ap (λ x. x ++ (buf ++ drop k (drop (4 * n) area))) front ∙ ap (λ x. g ++ (buf ++ x)) none
    ∙ ap (λ x. g ++ x) (append-nil buf ∙ now)
    ∙ sym (append_assoc g (big_bytes 4 w) (drop (4 * (n + 1)) old)) ∙ ap (λ x. x ++ drop (4 * (n + 1)) old) (sym more)
