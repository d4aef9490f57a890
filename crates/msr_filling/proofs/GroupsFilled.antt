-- The words of groups whose sizes are told.
use Rattle.std.proofs.Common.{◌≡◌, ◌<◌, ◌≤◌, min, ℕ, ◌+◌, ◌-◌, ◌*◌, ℤ, pos, ◌-ℤ◌, get_or, take, drop, List, ◌++◌, Option, length, refl, sym, ap, ◌∙◌, subst, arith, inl, inr, w32, sum}
use Rattle.std.specs.Int.{cast_unsigned}
use Rattle.std.proofs.lemmas.Bool.{cases_lt}
use Rattle.std.proofs.lemmas.List.{length-drop, length-take-le, take_all}
use Rattle.std.proofs.lemmas.List.Sums.{sum_by-take-le}
use Rattle.byteorder.specs.Endian.{big_bytes}
use Rattle.msr_base.specs.declared.storage.Version.{Version}
use Rattle.msr_base.specs.declared.storage.Version.TheVariants.{Two}
use Rattle.msr_steim.specs.Word.{IsGroup, group_code, group_word}
use Rattle.msr_words.specs.Groups.{AreGroupSizes, IsLongestGroup}
use Rattle.msr_words.specs.Segment.{differences}
use Rattle.msr_words.proofs.FillSizes.{from_inside}
use Rattle.msr_words.proofs.Plain.{difference_behind, length-differences}
use Rattle.msr_words.proofs.Pushes.{difference_at_later}
use Rattle.msr_words.proofs.Steim2Groups.{group_to}
use Rattle.msr_filling.proofs.Fill.{IsFilled, IsFramed, constants_more, frame_begins, group_more, next_is}

-- a difference that is not the run's first
pub later_difference : (before : Option ℤ) (run : List ℤ) (at k : ℕ) → 0 < at → at + k < length run
    → get_or (drop at (differences before run)) k (pos 0)
    ≡ get_or run (at + k) (pos 0) -ℤ get_or run (at + k - 1) (pos 0)
later_difference before run at k later within =
    let place : k ≡ at + k - at = omega arith in
    ap (λ n. get_or (drop at (differences before run)) n (pos 0)) place
    ∙ difference_behind before run at (at + k) (omega arith) within
    ∙ sym (from_inside before run (at + k) (omega arith))
    ∙ difference_at_later run (at + k) (omega arith)

-- ---- after some of the groups

-- the first `number` groups have `at` differences
pub record IsAfterGroups (sizes : List ℕ) (number at : ℕ) : Type 0 where
  pub few : number ≤ length sizes
  pub at_is : at ≡ sum (take number sizes)

-- a group of this size is the longest there
pub record IsGroupThere (before : Option ℤ) (run : List ℤ) (at size : ℕ) : Type 0 where
  pub full : 1 ≤ size
  pub most : size ≤ 7
  pub room : at + size ≤ length run
  pub group : IsGroup Two (take size (drop at (differences before run)))
  pub longest : IsLongestGroup (drop at (differences before run)) size

module _ (before : Option ℤ) (run : List ℤ) (sizes : List ℕ) (number at : ℕ)
    (are : AreGroupSizes (differences before run) sizes) (is : IsAfterGroups sizes number at) where
  after_within : at ≤ length run
  after_within =
      let part = sum_by-take-le (λ x. x) sizes number in
      let long = length-differences before run in
      omega (arith, are.all, is.at_is)

  pub group_there : number < length sizes → (size : ℕ) → size ≡ get_or sizes number 0
      → IsGroupThere before run at size
  group_there less size size_is =
      let ds = differences before run in
      let here : IsLongestGroup (drop at (differences before run)) size =
      subst (λ n. IsLongestGroup (drop at (differences before run)) n) (sym size_is)
      (subst (λ n. IsLongestGroup (drop n (differences before run)) (get_or sizes number 0)) (sym is.at_is)
      (are.each number less)) in
      let some : 0 < size = omega (arith, are.some number less) in
      let group = here.group some in
      let long = length-differences before run in
      let left = length-drop at (differences before run) in
      let number_is = length-take-le size (drop at ds) here.within in
      let before_end = after_within in
      let within = here.within in
      record {
        full = omega arith;
        most = (let m = (group_to (take size (drop at ds)) group).most in omega arith);
        room = omega arith;
        group = group;
        longest = here;
      }

  -- after all of them no difference is left
  pub after_all : number ≡ length sizes → length (drop at (differences before run)) ≡ 0
  after_all all =
      let whole : sum (take number sizes) ≡ sum sizes = ap sum (take_all number sizes (omega arith)) in
      let left = length-drop at (differences before run) in
      omega (arith, are.all, is.at_is)

-- as many words as are left of a frame, or of the groups
pub words_here : (from left number : ℕ) → number ≡ min (15 - from) left → from ≤ 2
    → (from + number ≤ 15) × (number ≤ left) × (from + number < 15 → number ≡ left)
words_here from left number is few = (omega (arith, is), omega (arith, is), λ less. omega (arith, is))

-- ---- in the area

module _ (gs : List (List ℤ)) (before : Option ℤ) (run : List ℤ) (first last : ℤ) (frame slot at number codes : ℕ)
    (old area new : List ℕ)
    (is : IsFilled Two gs (differences before run) first last frame slot at number codes old area)
    (inside : slot < 15) (high : 2 ≤ 16 * frame + slot) where
  pub group_put : (size code w : ℕ) → IsGroupThere before run at size → code ≡ group_code Two size
      → w ≡ group_word Two (take size (drop at (differences before run)))
      → new ≡ take (4 * (16 * frame + slot + 1)) area
      ++ (big_bytes 4 w ++ drop (4 * (16 * frame + slot + 1) + 4) area)
      → IsFilled Two gs (differences before run) first last frame (slot + 1) (at + size) (number + 1)
      (codes * 4 + code) old new
  group_put size code w there code_is w_is put =
      let some = there.full in
      group_more Two gs (differences before run) first last frame at number old area new slot codes is inside
      w code size (number + 1) (omega arith)
      (λ left. next_is (drop (15 * frame + slot - 2) gs) (drop at (differences before run)) size left there.longest)
      there.longest.within code_is w_is (λ s. refl) (λ none. absurd (omega arith)) put

-- after the codes of a frame and, in the first frame, the constants
pub started : (version : Version) (gs : List (List ℤ)) (ds : List ℤ) (first last : ℤ) (frame at used : ℕ)
    (old area begun new : List ℕ) (from w v : ℕ)
    → IsFramed version gs ds first last frame at used old area
    → begun ≡ take (4 * (16 * frame)) area ++ (big_bytes 4 0 ++ drop (4 * (16 * frame) + 4) area)
    → w ≡ cast_unsigned w32 first → v ≡ cast_unsigned w32 last
    → (frame ≡ 0 → let one = take (4 * (16 * frame + 1)) begun
    ++ (big_bytes 4 w ++ drop (4 * (16 * frame + 1) + 4) begun) in
    (from ≡ 2) × (new ≡ take (4 * (16 * frame + 2)) one ++ (big_bytes 4 v ++ drop (4 * (16 * frame + 2) + 4) one)))
    → (0 < frame → (from ≡ 0) × (new ≡ begun))
    → IsFilled version gs ds first last frame from at used 0 old new
started version gs ds first last frame at used old area begun new from w v is begins w_is v_is constants others =
    let start = frame_begins version gs ds first last frame at used old area begun is begins in
    elim (cases_lt 0 frame) [
      | inl later ↦
          let put = others later in
          subst (λ n. IsFilled version gs ds first last frame n at used 0 old new) (sym put.0)
          (subst (λ xs. IsFilled version gs ds first last frame 0 at used 0 old xs) (sym put.1) start)
      | inr none ↦
          let start_is : frame ≡ 0 = omega arith in
          let put = constants start_is in
          let one = take (4 * (16 * frame + 1)) begun ++ (big_bytes 4 w ++ drop (4 * (16 * frame + 1) + 4) begun) in
          subst (λ n. IsFilled version gs ds first last frame n at used 0 old new) (sym put.0)
          (constants_more version gs ds first last frame at used old begun one new start_is start
          (ap (λ n. take (4 * (16 * frame + 1)) begun ++ (big_bytes 4 n ++ drop (4 * (16 * frame + 1) + 4) begun)) w_is)
          (put.1 ∙ ap (λ n. take (4 * (16 * frame + 2)) one
          ++ (big_bytes 4 n ++ drop (4 * (16 * frame + 2) + 4) one)) v_is))
    ]
