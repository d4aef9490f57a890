-- The words of groups that are told.
use Rattle.std.proofs.Common.{◌≡◌, ◌<◌, ◌≤◌, ℕ, ◌+◌, ◌*◌, ℤ, get_or, take, drop, List, ◌++◌, Option, length, refl, subst, arith, sum}
use Rattle.std.proofs.lemmas.List.Sums.{sum_by_more}
use Rattle.byteorder.specs.Endian.{big_bytes}
use Rattle.msr_base.specs.declared.storage.Version.TheVariants.{Two}
use Rattle.msr_steim.specs.Word.{group_code}
use Rattle.msr_words.specs.Groups.{AreGroupSizes}
use Rattle.msr_words.specs.Segment.{differences}
use Rattle.msr_filling.specs.GroupWords.{AreGroupWords}
use Rattle.msr_filling.proofs.Fill.{IsFilled}
use Rattle.msr_filling.proofs.GroupsFilled.{IsAfterGroups, IsGroupThere, group_put, group_there}

pub after_some : (sizes : List ℕ) (number : ℕ) → number ≤ length sizes
    → IsAfterGroups sizes number (sum (take number sizes))
after_some sizes number few = record { few = few; at_is = refl }

module _ (before : Option ℤ) (run : List ℤ) (sizes : List ℕ) (number : ℕ)
    (are : AreGroupSizes (differences before run) sizes) (less : number < length sizes) where
  pub told_there : IsGroupThere before run (sum (take number sizes)) (get_or sizes number 0)
  told_there =
      group_there before run sizes number (sum (take number sizes)) are (after_some sizes number (omega arith)) less
      (get_or sizes number 0) refl

  -- its word stands after the others
  pub told_put : (words : List ℕ) → AreGroupWords (differences before run) sizes words
      → (gs : List (List ℤ)) (first last : ℤ) (frame slot codes code : ℕ) (old area new : List ℕ)
      → IsFilled Two gs (differences before run) first last frame slot (sum (take number sizes)) number codes old area
      → slot < 15 → 2 ≤ 16 * frame + slot → code ≡ group_code Two (get_or sizes number 0)
      → new ≡ take (4 * (16 * frame + slot + 1)) area
      ++ (big_bytes 4 (get_or words number 0) ++ drop (4 * (16 * frame + slot + 1) + 4) area)
      → IsFilled Two gs (differences before run) first last frame (slot + 1) (sum (take (number + 1) sizes))
      (number + 1) (codes * 4 + code) old new
  told_put words told gs first last frame slot codes code old area new is inside high code_is put =
      let more : sum (take number sizes) + get_or sizes number 0 ≡ sum (take (number + 1) sizes) =
      omega (arith, sum_by_more (λ x. x) sizes number 0 less) in
      subst (λ n. IsFilled Two gs (differences before run) first last frame (slot + 1) n (number + 1)
      (codes * 4 + code) old new) more
      (group_put gs before run first last frame slot (sum (take number sizes)) number codes old area new is inside high
      (get_or sizes number 0) code (get_or words number 0) told_there code_is (told.each number less) put)
