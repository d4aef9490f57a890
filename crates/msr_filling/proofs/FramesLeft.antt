-- The frames after the last group are zeros.
use Rattle.std.proofs.Common.{◌≡◌, ◌<◌, ◌≤◌, ℕ, zero, suc, ◌+◌, ◌-◌, ◌*◌, ◌/◌, ◌%◌, ◌||◌, ltb, eqb, Bool, true, false, cond, ℤ, get_or, take, drop, List, [], ◌∷◌, ◌++◌, length, map, refl, sym, ap, ◌∙◌, arith, inl, inr}
use Rattle.std.specs.Prelude.{flat_map}
use Rattle.std.specs.List.{range_with_len}
use Rattle.std.specs.Int.Digits.{number_from_digits}
use Rattle.std.proofs.Math.ListN.{replicate}
use Rattle.std.proofs.lemmas.Bool.{cases_lt, eq-eqb}
use Rattle.std.proofs.lemmas.Grind.{flat_map-append}
use Rattle.std.proofs.lemmas.List.{append-nil, get_or_past, length-drop, replicate-append-replicate, take_all, take_at}
use Rattle.std.proofs.lemmas.List.FromFn.{length-map-range_with_len, map-range_with_len_more}
use Rattle.byteorder.specs.Endian.{big_bytes}
use Rattle.msr_base.specs.declared.storage.Version.{Version}
use Rattle.msr_steim.specs.Word.{group_code, group_word}
use Rattle.msr_steim.specs.Frames.{code_in, frame_bytes, frame_word, group_in}
use Rattle.msr_steim.proofs.Filling.{codes_more, length-words}
use Rattle.msr_words.proofs.WrittenDivision.{no_groups}
use Rattle.msr_filling.proofs.Fill.{IsFramed, framed_all, no_code, no_word, range_join, word_at_start, word_data}

no_group : (gs : List (List ℤ)) (frame number : ℕ) → 0 < frame → length gs ≤ 15 * frame - 2 → 16 * frame ≤ number
    → group_in gs number ≡ []
no_group gs frame number some few after = elim (cases_lt 0 (number % 16)) [
  | inl inside ↦
      let past : get_or gs (number - number / 16 - 3) [] ≡ [] =
      get_or_past gs (number - number / 16 - 3) [] (omega arith) in
      rw past (either (ltb number 3 || eqb (number % 16) 0))
  | inr none ↦
      let whole : eqb (number % 16) 0 ≡ true = eq-eqb (number % 16) 0 (omega arith) in
      rw whole (first (ltb number 3) (get_or gs (number - number / 16 - 3) []))
]
  where
    either : (b : Bool) → cond {A = List ℤ} b [] [] ≡ []
    either true = refl
    either false = refl

    first : (b : Bool) (g : List ℤ) → cond (b || true) [] g ≡ []
    first true g = refl
    first false g = refl

-- as many codes of words without a group
no_codes : (version : Version) (gs : List (List ℤ)) (frame number : ℕ) → 0 < frame → length gs ≤ 15 * frame - 2
    → 16 * frame ≤ number → (k : ℕ)
    → number_from_digits 4 (map (code_in version gs) (range_with_len number k)) ≡ 0
no_codes version gs frame number some few after zero = refl
no_codes version gs frame number some few after (suc k) =
    let before = no_codes version gs frame number some few after k in
    let none : code_in version gs (number + k) ≡ 0 =
    ap (λ (g : List ℤ). group_code version (length g)) (no_group gs frame (number + k) some few (omega arith))
    ∙ sym (no_code version) in
    let one : k + 1 ≡ suc k = omega arith in
    sym (ap (λ n. number_from_digits 4 (map (code_in version gs) (range_with_len number n))) one)
    ∙ codes_more version gs number k ∙ omega (arith, before, none)

no_frame_word : (version : Version) (first last : ℤ) (gs : List (List ℤ)) (frame number : ℕ) → 0 < frame
    → length gs ≤ 15 * frame - 2 → 16 * frame ≤ number → frame_word version first last gs number ≡ 0
no_frame_word version first last gs frame number some few after = elim (cases_lt 0 (number % 16)) [
  | inl inside ↦
      word_data version first last gs number (omega arith) (λ e. omega arith)
      ∙ ap (group_word version) (no_group gs frame number some few after) ∙ sym (no_word version)
  | inr none ↦
      let whole : 16 * (number / 16) ≡ number = omega arith in
      sym (ap (frame_word version first last gs) whole) ∙ word_at_start version first last gs (number / 16)
      ∙ no_codes version gs frame (16 * (number / 16)) some few (omega arith) 16
]

no_words : (version : Version) (first last : ℤ) (gs : List (List ℤ)) (frame start : ℕ) → 0 < frame
    → length gs ≤ 15 * frame - 2 → 16 * frame ≤ start → (k : ℕ)
    → flat_map (big_bytes 4) (map (frame_word version first last gs) (range_with_len start k)) ≡ replicate (4 * k) 0
no_words version first last gs frame start some few after zero = refl
no_words version first last gs frame start some few after (suc k) =
    let f = frame_word version first last gs in
    let before = no_words version first last gs frame start some few after k in
    let word : f (start + k) ≡ 0 = no_frame_word version first last gs frame (start + k) some few (omega arith) in
    let one : k + 1 ≡ suc k = omega arith in
    let bytes : 4 * k + 4 ≡ 4 * suc k = omega arith in
    ap (λ n. flat_map (big_bytes 4) (map f (range_with_len start n))) (sym one)
    ∙ ap (flat_map (big_bytes 4)) (map-range_with_len_more f start k (start + k) refl)
    ∙ flat_map-append (big_bytes 4) (map f (range_with_len start k)) (f (start + k) ∷ [])
    ∙ ap (λ x. x ++ flat_map (big_bytes 4) (f (start + k) ∷ [])) before
    ∙ ap (λ w. replicate (4 * k) 0 ++ flat_map (big_bytes 4) (w ∷ [])) word
    ∙ replicate-append-replicate (4 * k) 4 0 ∙ ap (λ n. replicate n 0) bytes

-- the area after the last frame with a group is cleared
pub framed_rest : (version : Version) (gs : List (List ℤ)) (ds : List ℤ) (first last : ℤ)
    (frame frames at used : ℕ) (old area new : List ℕ)
    → IsFramed version gs ds first last frame at used old area → frame ≤ frames → 0 < frame
    → length (drop at ds) ≡ 0
    → new ≡ take (64 * frame) area ++ replicate (64 * frames - 64 * frame) 0
    → (new ≡ frame_bytes version first last gs frames) × (used ≡ length gs)
framed_rest version gs ds first last frame frames at used old area new is within some end cleared =
    let f = frame_word version first last gs in
    let ws = map f (range_with_len 0 (16 * frame)) in
    let g = flat_map (big_bytes 4) ws in
    let none : drop (15 * frame - 2) gs ≡ [] =
    no_groups version (drop (15 * frame - 2) gs) is.left.are_groups (ap length is.left.join ∙ end) in
    let gone : length (drop (15 * frame - 2) gs) ≡ 0 = ap length none in
    let left = length-drop (15 * frame - 2) gs in
    let few : length gs ≤ 15 * frame - 2 = omega arith in
    let number = is.number in
    let words : length g ≡ 64 * frame =
    (let l = length-words ws in let m = length-map-range_with_len f 0 (16 * frame) in omega arith) in
    let front : take (64 * frame) area ≡ g = ap (take (64 * frame)) is.bytes
    ∙ take_at g (drop (4 * (16 * frame)) old) (64 * frame) words in
    let k = 16 * frames - 16 * frame in
    let bytes : 64 * frames - 64 * frame ≡ 4 * (16 * frames - 16 * frame) = omega arith in
    let whole : 16 * frame + (16 * frames - 16 * frame) ≡ 16 * frames = omega arith in
    let zeros : flat_map (big_bytes 4) (map f (range_with_len (0 + 16 * frame) k)) ≡ replicate (4 * k) 0 =
    no_words version first last gs frame (0 + 16 * frame) some few (omega arith) k in
    let all : frame_bytes version first last gs frames ≡ g ++ replicate (4 * k) 0 =
    ap (λ n. flat_map (big_bytes 4) (map f (range_with_len 0 n))) (sym whole)
    ∙ ap (flat_map (big_bytes 4)) (range_join f 0 (16 * frame) k)
    ∙ flat_map-append (big_bytes 4) ws (map f (range_with_len (0 + 16 * frame) k))
    ∙ ap (λ x. g ++ x) zeros in (
      cleared ∙ ap (λ x. x ++ replicate (64 * frames - 64 * frame) 0) front
          ∙ ap (λ n. g ++ replicate n 0) bytes ∙ sym all,
      omega arith,
    )

-- if there is none, nothing is
pub framed_full : (version : Version) (gs : List (List ℤ)) (ds : List ℤ) (first last : ℤ)
    (frame frames at used : ℕ) (old area new : List ℕ)
    → IsFramed version gs ds first last frame at used old area → frame ≡ frames → length old ≡ 64 * frames
    → length area ≡ length old → length gs + 2 ≤ 15 * frames
    → new ≡ take (64 * frame) area ++ replicate (64 * frames - 64 * frame) 0
    → (new ≡ frame_bytes version first last gs frames) × (used ≡ length gs)
framed_full version gs ds first last frame frames at used old area new is all size kept room cleared =
    let done = framed_all version gs ds first last frame frames at used old area all is size room in
    let none : 64 * frames - 64 * frame ≡ 0 = omega arith in (
      cleared ∙ ap (λ n. take (64 * frame) area ++ replicate n 0) none ∙ append-nil (take (64 * frame) area)
          ∙ take_all (64 * frame) area (omega arith) ∙ done.0,
      done.1,
    )
