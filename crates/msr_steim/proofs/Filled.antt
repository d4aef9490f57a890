-- A filled area carries the samples whose differences it was filled with.
use Rattle.std.proofs.Common.{◌≡◌, ◌<◌, ◌≤◌, ℕ, zero, suc, ◌+◌, ◌-◌, ◌*◌, ◌/◌, ◌%◌, ◌^◌, ◌||◌, ltb, eqb, ℤ, pos, ◌+ℤ◌, ◌-ℤ◌, List, [], ◌∷◌, ◌++◌, length, map, take, drop, get_or, replicate, Bool, true, false, cond, Option, Some, None, refl, sym, ap, ◌∙◌, subst, arith, append_assoc, length-append, ◌⊎◌, inl, inr, ⊎_elim, lit<, lit≤, w32, SFits, to_z, of_z}
use Rattle.std.specs.Prelude.{flat_map, slice_get, IsSomeAnd, All}
use Rattle.std.specs.Int.{int_wrap}
use Rattle.std.specs.List.{range_with_len, AllByRecursion}
use Rattle.std.specs.Int.Digits.{number_from_digits, number_from_digits_after, AllBelowBase}
use Rattle.std.proofs.Math.Arith.{digits_div, digits_mod}
use Rattle.std.proofs.Math.Facts.{Fits-of_z}
use Rattle.std.proofs.Math.Nat.{pow-le-pow_right, mod-one}
use Rattle.std.proofs.lemmas.Int.{to_z-of_z, int_wrap_fits, ints}
use Rattle.std.proofs.lemmas.Int.Digits.{number_lt}
use Rattle.std.proofs.lemmas.Nat.{pow-add}
use Rattle.std.proofs.lemmas.Bool.{cases_lt}
use Rattle.std.proofs.lemmas.Bool.Decides.{nat_tests}
use Rattle.std.proofs.lemmas.List.{append-nil, take_all, take_more}
use Rattle.std.proofs.lemmas.List.Elements.{All-get_or}
use Rattle.std.proofs.lemmas.List.FromFn.{length-map-range_with_len, get_or-map-range_with_len, map-range_with_len_more}
use Rattle.std.proofs.lemmas.Grind.{flat_map-append}
use Rattle.byteorder.specs.Endian.{big_bytes, big_number}
use Rattle.byteorder.specs.Numbers.{big_number-reads_back}
use Rattle.msr_base.specs.declared.order.Order.TheVariants.{Big}
use Rattle.msr_base.specs.declared.storage.Version.{Version}
use Rattle.msr_base.specs.declared.storage.Version.TheVariants.{One, Two}
use Rattle.msr_steim.specs.Word.{AreGroups, FitsBits, Holds, IsGroup, IsInnerGroup, IsWordOf, as_read, layout_of, group_code, group_width, group_word, joined_fields, padding_of}
use Rattle.msr_steim.specs.Area.{CarriesSteim, FirstWordsHold, ReverseAgrees, WordHolds, arranged_word, constant, joined_groups, samples_of, sums_after, whole_word, word_code}
use Rattle.msr_steim.specs.Frames.{code_in, codes_word, differences_after, frame_bytes, frame_word, frame_words, group_in}
use Rattle.msr_steim.proofs.Fields.{joined_fields_lt, all_fit_zeros, pow_pow}
use Rattle.msr_steim.proofs.OneList.{number_after}
use Rattle.msr_steim.proofs.OneOutcome.{samples_more}
use Rattle.msr_steim.proofs.Words.{word_holds}
use Rattle.msr_steim.proofs.Filling.{codes_below, codes_lt, group_or_none, length-words}

-- ---- the word of a group

-- fields that fill the word
whole_word_of : (version : Version) (code count width fields : ℕ) → count * width ≡ 32
    → ((top : ℕ) → layout_of version code top ≡ Some (record { count = count; width = width }))
    → fields < 2 ^ (count * width) → IsWordOf version code 0 fields count width
whole_word_of version code count width fields size layout few =
    let few_so : fields < 2 ^ 32 = subst (λ n. fields < 2 ^ n) size few in
    record {
      small = omega arith;
      layout = layout ((0 * 2 ^ 30 + fields) / 2 ^ 30);
      lowest = subst (λ n. (0 * 2 ^ 30 + fields) % 2 ^ n ≡ fields) (sym size) (omega arith);
      others = subst (λ n. (0 * 2 ^ 30 + fields) % 2 ^ 30 < 2 ^ n) (sym size) (omega arith);
    }

-- fields below two bits that tell the layout
top_word_of : (version : Version) (code top count width fields : ℕ) → count * width ≤ 30 → top < 4
    → layout_of version code top ≡ Some (record { count = count; width = width })
    → fields < 2 ^ (count * width) → IsWordOf version code top fields count width
top_word_of version code top count width fields size small layout few =
    let s = count * width in
    let most : 2 ^ s ≤ 2 ^ 30 = pow-le-pow_right {n = 2} (lit< tt) {i = s} {j = 30} size in
    let below : fields < 2 ^ 30 = omega arith in
    let split : 30 - s + s ≡ 30 = omega arith in
    let product : 2 ^ 30 ≡ 2 ^ (30 - s) * 2 ^ s = ap (λ n. 2 ^ n) (sym split) ∙ pow-add 2 (30 - s) s in
    let spelled : top * 2 ^ 30 + fields ≡ (top * 2 ^ (30 - s)) * 2 ^ s + fields =
    regroup top (2 ^ 30) (2 ^ (30 - s)) (2 ^ s) product in
    record {
      small = omega arith;
      layout = ap (layout_of version code) (digits_div top below) ∙ layout;
      lowest = ap (λ n. n % 2 ^ s) spelled ∙ digits_mod (top * 2 ^ (30 - s)) few;
      others = subst (λ n. n < 2 ^ s) (sym (digits_mod top below)) few;
    }
  where
    regroup : (t p q r : ℕ) → p ≡ q * r → t * p + fields ≡ (t * q) * r + fields
    regroup t p q r e = rw e (omega arith)

-- the word of these differences holds them
record HoldsAll (version : Version) (code word : ℕ) (zs : List ℤ) : Type 0 where
  holds : Holds version code word zs
  small : word < 4294967296

made : (version : Version) (code top count width : ℕ) (zs : List ℤ) → 0 < width → length zs ≡ count
    → AllByRecursion (FitsBits width) zs
    → ((fields : ℕ) → fields < 2 ^ (count * width) → IsWordOf version code top fields count width)
    → HoldsAll version code (top * 2 ^ 30 + joined_fields width zs) zs
made version code top count width zs positive number all words =
    let few : joined_fields width zs < 2 ^ (count * width) =
    subst (λ n. joined_fields width zs < 2 ^ (n * width)) number (joined_fields_lt width zs positive all) in
    let is = words (joined_fields width zs) few in
    record {
      holds = (word_holds version code top (joined_fields width zs) count width
          (top * 2 ^ 30 + joined_fields width zs) zs is refl number all refl).0;
      small = is.small;
    }

too_many : (version : Version) (n : ℕ) → (4 < n → version ≡ One → group_width One n ≡ None)
too_many version n many one =
    let a : eqb n 1 ≡ false = grind (arith, nat_tests) in
    let b : eqb n 2 ≡ false = grind (arith, nat_tests) in
    let c : eqb n 3 ≡ false = grind (arith, nat_tests) in
    let d : eqb n 4 ≡ false = grind (arith, nat_tests) in
    simp (a, b, c, d)

too_many_two : (n : ℕ) → 7 < n → group_width Two n ≡ None
too_many_two n many =
    let a : eqb n 1 ≡ false = grind (arith, nat_tests) in
    let b : eqb n 2 ≡ false = grind (arith, nat_tests) in
    let c : eqb n 3 ≡ false = grind (arith, nat_tests) in
    let d : eqb n 4 ≡ false = grind (arith, nat_tests) in
    let e : eqb n 5 ≡ false = grind (arith, nat_tests) in
    let f : eqb n 6 ≡ false = grind (arith, nat_tests) in
    let g : eqb n 7 ≡ false = grind (arith, nat_tests) in
    simp (a, b, c, d, e, f, g)

no_group : (zs : List ℤ) (o : Option ℕ) → o ≡ None → IsSomeAnd o (λ width. AllByRecursion (FitsBits width) zs) → ⊥
no_group zs o none is = subst (λ w. IsSomeAnd w (λ width. AllByRecursion (FitsBits width) zs)) none is

-- the word of a group holds it
group_held : (version : Version) (zs : List ℤ) → IsGroup version zs
    → HoldsAll version (group_code version (length zs)) (group_word version zs) (as_read version zs)
group_held One [] is = absurd is
group_held One (a ∷ []) is = made One 3 0 1 32 (a ∷ []) (lit< tt) refl is
    (λ f few. whole_word_of One 3 1 32 f refl (λ t. refl) few)
group_held One (a ∷ b ∷ []) is = made One 2 0 2 16 (a ∷ b ∷ []) (lit< tt) refl is
    (λ f few. whole_word_of One 2 2 16 f refl (λ t. refl) few)
group_held One (a ∷ b ∷ c ∷ []) is = made One 1 0 4 8 (a ∷ b ∷ c ∷ pos 0 ∷ []) (lit< tt) refl
    (all_fit_zeros 8 1 (a ∷ b ∷ c ∷ []) is) (λ f few. whole_word_of One 1 4 8 f refl (λ t. refl) few)
group_held One (a ∷ b ∷ c ∷ d ∷ []) is = made One 1 0 4 8 (a ∷ b ∷ c ∷ d ∷ []) (lit< tt) refl is
    (λ f few. whole_word_of One 1 4 8 f refl (λ t. refl) few)
group_held One (a ∷ b ∷ c ∷ d ∷ e ∷ zs) is =
    let many : 4 < length (a ∷ b ∷ c ∷ d ∷ e ∷ zs) = omega arith in
    absurd (no_group (a ∷ b ∷ c ∷ d ∷ e ∷ zs) (group_width One (length (a ∷ b ∷ c ∷ d ∷ e ∷ zs)))
    (too_many One (length (a ∷ b ∷ c ∷ d ∷ e ∷ zs)) many refl) is)
group_held Two [] is = absurd is
group_held Two (a ∷ []) is = made Two 2 1 1 30 (a ∷ []) (lit< tt) refl is
    (λ f few. top_word_of Two 2 1 1 30 f (lit≤ tt) (lit< tt) refl few)
group_held Two (a ∷ b ∷ []) is = made Two 2 2 2 15 (a ∷ b ∷ []) (lit< tt) refl is
    (λ f few. top_word_of Two 2 2 2 15 f (lit≤ tt) (lit< tt) refl few)
group_held Two (a ∷ b ∷ c ∷ []) is = made Two 2 3 3 10 (a ∷ b ∷ c ∷ []) (lit< tt) refl is
    (λ f few. top_word_of Two 2 3 3 10 f (lit≤ tt) (lit< tt) refl few)
group_held Two (a ∷ b ∷ c ∷ d ∷ []) is = made Two 1 0 4 8 (a ∷ b ∷ c ∷ d ∷ []) (lit< tt) refl is
    (λ f few. whole_word_of Two 1 4 8 f refl (λ t. refl) few)
group_held Two (a ∷ b ∷ c ∷ d ∷ e ∷ []) is =
    made Two 3 0 5 6 (a ∷ b ∷ c ∷ d ∷ e ∷ []) (lit< tt) refl is
    (λ f few. top_word_of Two 3 0 5 6 f (lit≤ tt) (lit< tt) refl few)
group_held Two (a ∷ b ∷ c ∷ d ∷ e ∷ f ∷ []) is =
    made Two 3 1 6 5 (a ∷ b ∷ c ∷ d ∷ e ∷ f ∷ []) (lit< tt) refl is
    (λ f few. top_word_of Two 3 1 6 5 f (lit≤ tt) (lit< tt) refl few)
group_held Two (a ∷ b ∷ c ∷ d ∷ e ∷ f ∷ g ∷ []) is =
    made Two 3 2 7 4 (a ∷ b ∷ c ∷ d ∷ e ∷ f ∷ g ∷ []) (lit< tt) refl is
    (λ f few. top_word_of Two 3 2 7 4 f (lit≤ tt) (lit< tt) refl few)
group_held Two (a ∷ b ∷ c ∷ d ∷ e ∷ f ∷ g ∷ h ∷ zs) is =
    let many : 7 < length (a ∷ b ∷ c ∷ d ∷ e ∷ f ∷ g ∷ h ∷ zs) = omega arith in
    absurd (no_group (a ∷ b ∷ c ∷ d ∷ e ∷ f ∷ g ∷ h ∷ zs)
    (group_width Two (length (a ∷ b ∷ c ∷ d ∷ e ∷ f ∷ g ∷ h ∷ zs)))
    (too_many_two (length (a ∷ b ∷ c ∷ d ∷ e ∷ f ∷ g ∷ h ∷ zs)) many) is)

-- ---- the words of an area

word_read : (ws : List ℕ) (n : ℕ) → ((k : ℕ) → k < length ws → get_or ws k 0 < 4294967296) → n < length ws
    → big_number 4 (drop (4 * n) (flat_map (big_bytes 4) ws)) ≡ get_or ws n 0
word_read [] n small within = absurd (omega arith)
word_read (w ∷ ws) zero small within = big_number-reads_back 4 w (flat_map (big_bytes 4) ws) (small 0 (omega arith))
word_read (w ∷ ws) (suc n) small within =
    let e : 4 * suc n ≡ suc (suc (suc (suc (4 * n)))) = omega arith in
    ap (λ k. big_number 4 (drop k (flat_map (big_bytes 4) (w ∷ ws)))) e
    ∙ word_read ws n (λ k h. small (suc k) (omega arith)) (omega arith)

-- a digit of a number
digit_at : (b n : ℕ) (ds : List ℕ) (i : ℕ) → AllBelowBase b ds → i < length ds
    → number_from_digits_after b n ds / b ^ (length ds - 1 - i) % b ≡ get_or ds i 0
digit_at b n [] i all within = absurd (omega arith)
digit_at b n (d ∷ ds) zero all within =
    let places : length (d ∷ ds) - 1 - 0 ≡ length ds = omega arith in
    let few : number_from_digits b ds < b ^ length ds = number_lt b ds all.1 in
    ap (λ k. number_from_digits_after b (n * b + d) ds / b ^ k % b) places
    ∙ ap (λ x. x / b ^ length ds % b) (number_after b (n * b + d) ds) ∙ ap (λ x. x % b) (digits_div (n * b + d) few)
    ∙ digits_mod n all.0
digit_at b n (d ∷ ds) (suc i) all within =
    let places : length (d ∷ ds) - 1 - suc i ≡ length ds - 1 - i = omega arith in
    ap (λ k. number_from_digits_after b (n * b + d) ds / b ^ k % b) places
    ∙ digit_at b (n * b + d) ds i all.1 (omega arith)

one_of_four : (a b c : Bool) (p q r s : ℕ) → p < 4294967296 → q < 4294967296 → r < 4294967296 → s < 4294967296
    → cond a p (cond b q (cond c r s)) < 4294967296
one_of_four true b c p q r s hp hq hr hs = hp
one_of_four false true c p q r s hp hq hr hs = hq
one_of_four false false true p q r s hp hq hr hs = hr
one_of_four false false false p q r s hp hq hr hs = hs

codes_word_lt : (version : Version) (gs : List (List ℤ)) (number : ℕ) → codes_word version gs number < 4294967296
unfolding codes_word
codes_word_lt version gs number = codes_lt version gs number 16

no_word_lt : (version : Version) → group_word version [] < 4294967296
no_word_lt One = lit< tt
no_word_lt Two = lit< tt

group_word_lt : (version : Version) (g : List ℤ) → (g ≡ []) ⊎ IsGroup version g → group_word version g < 4294967296
group_word_lt version g (inl e) = subst (λ h. group_word version h < 4294967296) (sym e) (no_word_lt version)
group_word_lt version g (inr is) = (group_held version g is).small

unsigned_lt : (z : ℤ) → SFits w32 z → of_z w32 z < 4294967296
unsigned_lt z fits = (Fits-of_z fits).fits

frame_word_lt : (version : Version) (first last : ℤ) (gs : List (List ℤ)) (number : ℕ) → AreGroups version gs
    → SFits w32 first → SFits w32 last → frame_word version first last gs number < 4294967296
unfolding frame_word
frame_word_lt version first last gs number are f g =
    one_of_four (eqb (number % 16) 0) (eqb number 1) (eqb number 2) (codes_word version gs number) (of_z w32 first)
    (of_z w32 last) (group_word version (group_in gs number))
    (codes_word_lt version gs number) (unsigned_lt first f) (unsigned_lt last g)
    (group_word_lt version (group_in gs number) (group_or_none version gs number are))

-- a word of the area is the word with that number
word_is : (version : Version) (first last : ℤ) (gs : List (List ℤ)) (frames number : ℕ) → AreGroups version gs
    → SFits w32 first → SFits w32 last → number < 16 * frames
    → whole_word Big (frame_bytes version first last gs frames) number ≡ frame_word version first last gs number
word_is version first last gs frames number are f g within =
    let w = frame_word version first last gs in
    let ws = frame_words version first last gs frames in
    let size : length ws ≡ 16 * frames = length-map-range_with_len w 0 (16 * frames) in
    let at = λ (k : ℕ) (h : k < 16 * frames). get_or-map-range_with_len w 0 (16 * frames) k k 0 h (omega arith) in
    word_read ws number (λ k h. subst (λ n. n < 4294967296) (sym (at k (omega arith)))
    (frame_word_lt version first last gs k are f g)) (omega arith) ∙ at number within

first_word_is : (version : Version) (first last : ℤ) (gs : List (List ℤ)) (number : ℕ) → number % 16 ≡ 0
    → frame_word version first last gs number ≡ codes_word version gs number
unfolding frame_word
first_word_is version first last gs number here =
    let e : eqb (number % 16) 0 ≡ true = grind (arith, nat_tests) in
    simp e

code_read : (version : Version) (gs : List (List ℤ)) (number p : ℕ) → p < 16
    → codes_word version gs number / 2 ^ (30 - 2 * p) % 4 ≡ code_in version gs (number + p)
unfolding codes_word
code_read version gs number p small =
    let ds = map (code_in version gs) (range_with_len number 16) in
    let size : length ds ≡ 16 = length-map-range_with_len (code_in version gs) number 16 in
    let twice : (length ds - 1 - p) * 2 ≡ 30 - 2 * p = omega arith in
    let power : 4 ^ (length ds - 1 - p) ≡ 2 ^ (30 - 2 * p) = pow_pow 2 2 (length ds - 1 - p) ∙ ap (λ n. 2 ^ n) twice in
    ap (λ n. number_from_digits 4 ds / n % 4) (sym power)
    ∙ digit_at 4 0 ds p (codes_below version gs (range_with_len number 16)) (omega arith)
    ∙ get_or-map-range_with_len (code_in version gs) number 16 p (number + p) 0 small refl

no_code : (version : Version) → 0 ≡ group_code version 0
no_code One = refl
no_code Two = refl

code_cases : (version : Version) (b : Bool) (g : List ℤ) (x : ℕ) → x ≡ group_code version (length (cond b [] g))
    → cond b 0 x ≡ group_code version (length (cond b [] g))
code_cases version true g x e = no_code version
code_cases version false g x e = e

-- a code of the area is the code of the word with that number
code_is : (version : Version) (first last : ℤ) (gs : List (List ℤ)) (frames number : ℕ) → AreGroups version gs
    → SFits w32 first → SFits w32 last → number < 16 * frames
    → word_code Big (frame_bytes version first last gs frames) number ≡ code_in version gs number
code_is version first last gs frames number are f g within =
    let s = number / 16 * 16 in
    let p = number % 16 in
    let back : s + p ≡ number = omega arith in
    let start : s % 16 ≡ 0 = omega arith in
    let word : whole_word Big (frame_bytes version first last gs frames) s ≡ codes_word version gs s =
    word_is version first last gs frames s are f g (omega arith) ∙ first_word_is version first last gs s start in
    code_cases version (ltb number 3 || eqb (number % 16) 0) (get_or gs (number - number / 16 - 3) [])
    (whole_word Big (frame_bytes version first last gs frames) s / 2 ^ (30 - 2 * p) % 4)
    (ap (λ w. w / 2 ^ (30 - 2 * p) % 4) word ∙ code_read version gs s p (omega arith) ∙ ap (code_in version gs) back)

-- ---- what each word holds

or_left : (a b : Bool) → (a || b) ≡ false → a ≡ false
or_left true b e = e
or_left false b e = refl

or_right : (a b : Bool) → (a || b) ≡ false → b ≡ false
or_right true b e = absurd (cc)
or_right false b e = e

data_word : (version : Version) (first last : ℤ) (gs : List (List ℤ)) (number : ℕ)
    → (ltb number 3 || eqb (number % 16) 0) ≡ false
    → frame_word version first last gs number ≡ group_word version (group_in gs number)
unfolding frame_word
data_word version first last gs number e =
    let low : ltb number 3 ≡ false = or_left (ltb number 3) (eqb (number % 16) 0) e in
    let a : eqb (number % 16) 0 ≡ false = or_right (ltb number 3) (eqb (number % 16) 0) e in
    let b : eqb number 1 ≡ false = grind (arith, nat_tests) in
    let c : eqb number 2 ≡ false = grind (arith, nat_tests) in
    pick (eqb (number % 16) 0) (eqb number 1) (eqb number 2) (codes_word version gs number) (of_z w32 first)
    (of_z w32 last) (group_word version (group_in gs number)) a b c
  where
    pick : (a b c : Bool) (p q r s : ℕ) → a ≡ false → b ≡ false → c ≡ false → cond a p (cond b q (cond c r s)) ≡ s
    pick true b c p q r s e f g = absurd (cc)
    pick false true c p q r s e f g = absurd (cc)
    pick false false true p q r s e f g = absurd (cc)
    pick false false false p q r s e f g = refl

empty_is_none : (version : Version) → IsGroup version [] → ⊥
empty_is_none One is = is
empty_is_none Two is = is

-- a word with a group is a data word
is_data : (version : Version) (b : Bool) (g : List ℤ) → IsGroup version (cond b [] g) → b ≡ false
is_data version true g is = absurd (empty_is_none version is)
is_data version false g is = refl

code_0_holds_none : (version : Version) (word : ℕ) → Holds version 0 word []
code_0_holds_none One word = record { count = refl; fit = tt; bits = mod-one word }
code_0_holds_none Two word = record { count = refl; fit = tt; bits = mod-one word }

arranged_is : (version : Version) (code : ℕ) (area : List ℕ) (number : ℕ)
    → arranged_word version Big code area number ≡ whole_word Big area number
arranged_is One code area number = refl
arranged_is Two code area number = refl

read_none : (version : Version) → as_read version [] ≡ []
read_none One = refl
read_none Two = refl

held_here : (version : Version) (gs : List (List ℤ)) (number code word : ℕ) → AreGroups version gs
    → code ≡ code_in version gs number → ((ltb number 3 || eqb (number % 16) 0) ≡ false
    → word ≡ group_word version (group_in gs number)) → Holds version code word (as_read version (group_in gs number))
held_here version gs number code word are code_so word_so =
    ⊎_elim
    (λ (e : group_in gs number ≡ []). let zero_code : code ≡ 0 = code_so
    ∙ ap (λ g. group_code version (length g)) e ∙ sym (no_code version) in
    subst (λ c. Holds version c word (as_read version (group_in gs number))) (sym zero_code)
    (subst (λ g. Holds version 0 word g) (sym (ap (as_read version) e ∙ read_none version))
    (code_0_holds_none version word)))
    (λ (is : IsGroup version (group_in gs number)). let w =
    word_so (is_data version (ltb number 3 || eqb (number % 16) 0) (get_or gs (number - number / 16 - 3) []) is) in
    subst (λ c. Holds version c word (as_read version (group_in gs number))) (sym code_so)
    (subst (λ x. Holds version (code_in version gs number) x (as_read version (group_in gs number))) (sym w)
    (group_held version (group_in gs number) is).holds)) (group_or_none version gs number are)

-- each word holds its group, or nothing
word_holds_group : (version : Version) (first last : ℤ) (gs : List (List ℤ)) (frames number : ℕ)
    → AreGroups version gs → SFits w32 first → SFits w32 last → number < 16 * frames
    → WordHolds version Big (frame_bytes version first last gs frames) number (as_read version (group_in gs number))
word_holds_group version first last gs frames number are f g within =
    let area = frame_bytes version first last gs frames in
    held_here version gs number (word_code Big area number)
    (arranged_word version Big (word_code Big area number) area number) are
    (code_is version first last gs frames number are f g within)
    (λ e. arranged_is version (word_code Big area number) area number
    ∙ word_is version first last gs frames number are f g within ∙ data_word version first last gs number e)

pub length-frame_bytes : (version : Version) (first last : ℤ) (gs : List (List ℤ)) (frames : ℕ)
    → length (frame_bytes version first last gs frames) ≡ 64 * frames
length-frame_bytes version first last gs frames =
    let e : 4 * (16 * frames) ≡ 64 * frames = omega arith in
    length-words (frame_words version first last gs frames)
    ∙ ap (λ n. 4 * n) (length-map-range_with_len (frame_word version first last gs) 0 (16 * frames)) ∙ e

all_held : (version : Version) (first last : ℤ) (gs : List (List ℤ)) (frames : ℕ) → AreGroups version gs
    → SFits w32 first → SFits w32 last → FirstWordsHold version Big (frame_bytes version first last gs frames)
    (map (λ number. as_read version (group_in gs number)) (range_with_len 0 (16 * frames)))
all_held version first last gs frames are f g =
    let h = λ (number : ℕ). as_read version (group_in gs number) in
    let n = 16 * frames in
    let size : length (map h (range_with_len 0 n)) ≡ n = length-map-range_with_len h 0 n in
    let bytes : length (frame_bytes version first last gs frames) ≡ 64 * frames =
    length-frame_bytes version first last gs frames in
    let words : 64 * frames / 64 * 16 ≡ n = omega arith in
    record {
      within = subst (λ k. length (map h (range_with_len 0 n)) ≤ k / 64 * 16) (sym bytes) (omega arith);
      each = λ number below. let lt : number < n = omega arith in
          subst (WordHolds version Big (frame_bytes version first last gs frames) number)
          (sym (get_or-map-range_with_len h 0 n number number [] lt (omega arith)))
          (word_holds_group version first last gs frames number are f g lt);
    }

-- ---- the differences of all words

past : (gs : List (List ℤ)) (k : ℕ) → length gs ≤ k → get_or gs k [] ≡ []
past [] k le = refl
past (g ∷ gs) zero le = absurd (omega arith)
past (g ∷ gs) (suc k) le = past gs k (omega arith)

place_more : (version : Version) (gs : List (List ℤ)) (k : ℕ)
    → flat_map (as_read version) (take k gs) ++ as_read version (get_or gs k [])
    ≡ flat_map (as_read version) (take (k + 1) gs)
place_more version gs k = ⊎_elim
    (λ (lt : k < length gs). sym (ap (flat_map (as_read version)) (take_more gs k [] lt)
    ∙ flat_map-append (as_read version) (take k gs) (get_or gs k [] ∷ [])
    ∙ ap (λ xs. flat_map (as_read version) (take k gs) ++ xs) (append-nil (as_read version (get_or gs k [])))))
    (λ (ge : length gs ≤ k). ap (λ g. flat_map (as_read version) (take k gs) ++ as_read version g) (past gs k ge)
    ∙ ap (λ xs. flat_map (as_read version) (take k gs) ++ xs) (read_none version)
    ∙ append-nil (flat_map (as_read version) (take k gs))
    ∙ ap (flat_map (as_read version)) (take_all k gs ge ∙ sym (take_all (k + 1) gs (omega arith))))
    (cases_lt k (length gs))

or_cases : (a b : Bool) → (a || b) ≡ true → (a ≡ true) ⊎ (b ≡ true)
or_cases true b e = inl refl
or_cases false b e = inr e

no_place : (n : ℕ) → (ltb n 3 || eqb (n % 16) 0) ≡ true → n - (n + 15) / 16 - 2 ≡ suc n - (suc n + 15) / 16 - 2
no_place n e = ⊎_elim
    (λ (low : ltb n 3 ≡ true). let lt : n < 3 = grind (arith, nat_tests) in omega arith)
    (λ (first : eqb (n % 16) 0 ≡ true). let here : n % 16 ≡ 0 = grind (arith, nat_tests) in omega arith)
    (or_cases (ltb n 3) (eqb (n % 16) 0) e)

place_here : (n : ℕ) → (ltb n 3 || eqb (n % 16) 0) ≡ false → n - n / 16 - 3 ≡ n - (n + 15) / 16 - 2
place_here n e =
    let low : ltb n 3 ≡ false = or_left (ltb n 3) (eqb (n % 16) 0) e in
    let first : eqb (n % 16) 0 ≡ false = or_right (ltb n 3) (eqb (n % 16) 0) e in
    let ge : 3 ≤ n = grind (arith, nat_tests) in
    let some : 0 < n % 16 = grind (arith, nat_tests) in
    omega arith

place_next : (n : ℕ) → (ltb n 3 || eqb (n % 16) 0) ≡ false → n - (n + 15) / 16 - 2 + 1 ≡ suc n - (suc n + 15) / 16 - 2
place_next n e =
    let low : ltb n 3 ≡ false = or_left (ltb n 3) (eqb (n % 16) 0) e in
    let first : eqb (n % 16) 0 ≡ false = or_right (ltb n 3) (eqb (n % 16) 0) e in
    let ge : 3 ≤ n = grind (arith, nat_tests) in
    let some : 0 < n % 16 = grind (arith, nat_tests) in
    omega arith

word_more : (version : Version) (gs : List (List ℤ)) (n : ℕ) (b : Bool) → (ltb n 3 || eqb (n % 16) 0) ≡ b
    → flat_map (as_read version) (take (n - (n + 15) / 16 - 2) gs)
    ++ as_read version (cond b [] (get_or gs (n - n / 16 - 3) []))
    ≡ flat_map (as_read version) (take (suc n - (suc n + 15) / 16 - 2) gs)
word_more version gs n true e =
    let stay : n - (n + 15) / 16 - 2 ≡ suc n - (suc n + 15) / 16 - 2 = no_place n e in
    ap (λ xs. flat_map (as_read version) (take (n - (n + 15) / 16 - 2) gs) ++ xs) (read_none version)
    ∙ append-nil (flat_map (as_read version) (take (n - (n + 15) / 16 - 2) gs))
    ∙ ap (λ k. flat_map (as_read version) (take k gs)) stay
word_more version gs n false e =
    let here : n - n / 16 - 3 ≡ n - (n + 15) / 16 - 2 = place_here n e in
    let next : n - (n + 15) / 16 - 2 + 1 ≡ suc n - (suc n + 15) / 16 - 2 = place_next n e in
    ap (λ k. flat_map (as_read version) (take (n - (n + 15) / 16 - 2) gs) ++ as_read version (get_or gs k [])) here
    ∙ place_more version gs (n - (n + 15) / 16 - 2) ∙ ap (λ k. flat_map (as_read version) (take k gs)) next

-- the groups in the words below a number
groups_below : (version : Version) (gs : List (List ℤ)) (n : ℕ)
    → flat_map (λ group. group) (map (λ number. as_read version (group_in gs number)) (range_with_len 0 n))
    ≡ flat_map (as_read version) (take (n - (n + 15) / 16 - 2) gs)
groups_below version gs zero = refl
groups_below version gs (suc n) =
    let h = λ (number : ℕ). as_read version (group_in gs number) in
    let one : suc n ≡ n + 1 = omega arith in
    let more : map h (range_with_len 0 (suc n)) ≡ map h (range_with_len 0 n) ++ h n ∷ [] =
    ap (λ k. map h (range_with_len 0 k)) one ∙ map-range_with_len_more h 0 n n (omega arith) in
    ap (flat_map (λ group. group)) more ∙ flat_map-append (λ group. group) (map h (range_with_len 0 n)) (h n ∷ [])
    ∙ ap (λ xs. xs ++ (h n ++ [])) (groups_below version gs n)
    ∙ ap (λ xs. flat_map (as_read version) (take (n - (n + 15) / 16 - 2) gs) ++ xs) (append-nil (h n))
    ∙ word_more version gs n (ltb n 3 || eqb (n % 16) 0) refl

-- a group that others follow is read as it was written
inner_as_read : (version : Version) (g : List ℤ) → IsInnerGroup version g → as_read version g ≡ g
inner_as_read One g is =
    let not_three : length g ≡ 3 → ⊥ = is.1 in
    let e : eqb (length g) 3 ≡ false = grind (arith, nat_tests, not_three) in
    ap (λ b. g ++ replicate (cond b 1 0) (pos 0)) e ∙ append-nil g
inner_as_read Two g is = append-nil g

-- all words together have the differences of the groups, and then what pads the last of them
record ArePadded (version : Version) (gs : List (List ℤ)) : Type 0 where
  padding : List ℤ
  join : flat_map (as_read version) gs ≡ joined_groups gs ++ padding

are_padded : (version : Version) (gs : List (List ℤ)) → AreGroups version gs → ArePadded version gs
are_padded version [] are = record { padding = []; join = refl }
are_padded version (g ∷ []) are = record {
  padding = replicate (padding_of version (length g)) (pos 0);
  join = append-nil (as_read version g) ∙ ap (λ xs. xs ++ replicate (padding_of version (length g)) (pos 0))
      (sym (append-nil g));
}
are_padded version (g ∷ h ∷ gs) are =
    let r = are_padded version (h ∷ gs) are.1 in
    record {
      padding = r.padding;
      join = ap (λ xs. xs ++ flat_map (as_read version) (h ∷ gs)) (inner_as_read version g are.0)
          ∙ ap (λ xs. g ++ xs) r.join ∙ sym (append_assoc g (joined_groups (h ∷ gs)) r.padding);
    }

-- ---- the samples

back_by_difference : (x y : ℤ) → SFits w32 y → int_wrap w32 (x +ℤ (y -ℤ x)) ≡ y
back_by_difference x y fits =
    let e : x +ℤ (y -ℤ x) ≡ y = omega (arith, ints) in
    ap (int_wrap w32) e ∙ int_wrap_fits w32 y fits

sums_of_differences : (x : ℤ) (xs : List ℤ) → AllByRecursion (SFits w32) xs → sums_after x (differences_after x xs) ≡ xs
sums_of_differences x [] all = refl
sums_of_differences x (y ∷ ys) all =
    ap (λ z. z ∷ sums_after z (differences_after y ys)) (back_by_difference x y all.0)
    ∙ ap (λ zs. y ∷ zs) (sums_of_differences y ys all.1)

samples_of_differences : (before : ℤ) (xs : List ℤ) → AllByRecursion (SFits w32) xs
    → samples_of (get_or xs 0 (pos 0)) (differences_after before xs) ≡ xs
samples_of_differences before [] all = refl
samples_of_differences before (x ∷ xs) all = ap (λ zs. x ∷ zs) (sums_of_differences x xs all.1)

length-differences_after : (before : ℤ) (xs : List ℤ) → length (differences_after before xs) ≡ length xs
length-differences_after before [] = refl
length-differences_after before (x ∷ xs) = ap suc (length-differences_after x xs)

each_fits : (xs : List ℤ) → ((i : ℕ) → i < length xs → SFits w32 (get_or xs i (pos 0))) → AllByRecursion (SFits w32) xs
each_fits [] all = tt
each_fits (x ∷ xs) all = (all 0 (omega arith), each_fits xs (λ i h. all (suc i) (omega arith)))

first_fits : (xs : List ℤ) → AllByRecursion (SFits w32) xs → SFits w32 (get_or xs 0 (pos 0))
first_fits [] all = record { sfits = lit< tt }
first_fits (x ∷ xs) all = all.0

-- a constant is read back
constant_is : (version : Version) (first last : ℤ) (gs : List (List ℤ)) (frames : ℕ) → AreGroups version gs
    → SFits w32 first → SFits w32 last → 0 < frames
    → (constant Big (frame_bytes version first last gs frames) 1 ≡ first)
    × (constant Big (frame_bytes version first last gs frames) 2 ≡ last)
unfolding frame_word
constant_is version first last gs frames are f g some = (
  ap (to_z w32) (word_is version first last gs frames 1 are f g (omega arith)) ∙ to_z-of_z w32 first f,
  ap (to_z w32) (word_is version first last gs frames 2 are f g (omega arith)) ∙ to_z-of_z w32 last g,
)

pub filled_reverse : (version : Version) (first last : ℤ) (gs : List (List ℤ)) (frames : ℕ) → AreGroups version gs
    → 0 < frames → SFits w32 first → SFits w32 last → constant Big (frame_bytes version first last gs frames) 2 ≡ last
filled_reverse version first last gs frames are some f g = (constant_is version first last gs frames are f g some).1

-- the last sample is the reverse constant
pub filled_agrees : (version : Version) (first last : ℤ) (gs : List (List ℤ)) (xs : List ℤ) (frames : ℕ)
    → AreGroups version gs → 0 < frames → SFits w32 first → SFits w32 last
    → slice_get xs (length xs - 1) ≡ Some last → ReverseAgrees Big (frame_bytes version first last gs frames) xs
filled_agrees version first last gs xs frames are some f g is = is
    ∙ ap Some (sym (filled_reverse version first last gs frames are some f g))

pub filled_carries : (version : Version) (before last : ℤ) (gs : List (List ℤ)) (xs : List ℤ) (frames : ℕ)
    → AreGroups version gs → length gs + 2 ≤ 15 * frames → joined_groups gs ≡ differences_after before xs
    → All (SFits w32) xs → SFits w32 last → CarriesSteim version Big
    (frame_bytes version (get_or xs 0 (pos 0)) last gs frames) xs
filled_carries version before last gs xs frames are room join fit g =
    let all : AllByRecursion (SFits w32) xs = each_fits xs (λ i h. All-get_or (SFits w32) xs i (pos 0) h fit) in
    let first = get_or xs 0 (pos 0) in
    let f : SFits w32 first = first_fits xs all in
    let area = frame_bytes version first last gs frames in
    let held = map (λ number. as_read version (group_in gs number)) (range_with_len 0 (16 * frames)) in
    let padded = are_padded version gs are in
    let places : 16 * frames - (16 * frames + 15) / 16 - 2 ≡ 15 * frames - 2 = omega arith in
    let ds = differences_after before xs in
    let spelled : joined_groups held ≡ ds ++ padded.padding =
    groups_below version gs (16 * frames) ∙ ap (λ k. flat_map (as_read version) (take k gs)) places
    ∙ ap (flat_map (as_read version)) (take_all (15 * frames - 2) gs (omega arith)) ∙ padded.join
    ∙ ap (λ d. d ++ padded.padding) join in
    let size : length (joined_groups held) ≡ length xs + length padded.padding = ap length spelled
    ∙ length-append ds padded.padding ∙ ap (λ n. n + length padded.padding) (length-differences_after before xs) in
    let first_is : constant Big area 1 ≡ first = (constant_is version first last gs frames are f g (omega arith)).0 in
    let few : length xs ≤ length ds = subst (λ n. length xs ≤ n) (sym (length-differences_after before xs))
    (omega arith) in
    record {
      groups = held;
      held = all_held version first last gs frames are f g;
      enough = omega arith;
      sums = sym (ap (λ c. take (length xs) (samples_of c (joined_groups held))) first_is
          ∙ ap (λ d. take (length xs) (samples_of first d)) spelled
          ∙ samples_more first ds padded.padding (length xs) few
          ∙ ap (take (length xs)) (samples_of_differences before xs all) ∙ take_all (length xs) xs (omega arith));
    }
