-- The words of an area from the first on: what the first difference is added to, and the codes of a frame.
use Rattle.std.proofs.Common.{◌≡◌, ◌<◌, ◌≤◌, ℕ, zero, suc, ◌+◌, ◌*◌, ◌/◌, ◌%◌, ◌^◌, ℤ, pos, ◌+ℤ◌, List, [], ◌∷◌, ◌++◌, length, take, get_or, min, refl, sym, ap, ◌∙◌, subst, arith, w32, Option, Some, None, append_assoc, length-append, ⊎_elim}
use Rattle.std.specs.Int.{int_wrap}
use Rattle.std.specs.Prelude.{IfSome, IsSomeAnd, ◌⊎◌}
use Rattle.std.proofs.Math.Nat.{mul_assoc}
use Rattle.std.proofs.lemmas.List.{length-take, take_all, take_more}
use Rattle.std.proofs.lemmas.Nat.{mul-mod_first, pow-add}
use Rattle.msr_base.specs.declared.order.Order.{Order}
use Rattle.msr_steim.specs.declared.sums.Progress.{Progress}
use Rattle.msr_steim.specs.declared.word.WordLayout.{WordLayout}
use Rattle.msr_base.specs.declared.storage.Version.{Version}
use Rattle.msr_steim.specs.Area.{FirstWordsHold, WordHolds, arranged_word, constant, joined_groups, samples_of, sums_after, whole_word, word_code, word_count}
use Rattle.msr_steim.specs.InOrder.{BeginsAfter, differences_from, numbers_of, word_differences}
use Rattle.msr_steim.specs.Sums.{IsWritten, ReachesEnd}
use Rattle.msr_steim.specs.Word.{AreFields, layout_of}
use Rattle.msr_steim.proofs.Decoding.{AreReadBelow, differences_push, length-samples_of, length-sums_after}
use Rattle.msr_steim.proofs.InOrderLemmas.{numbers_are_fields, one_word}
use Rattle.msr_steim.proofs.OneList.{HasBits, has_bits, holds_one}
use Rattle.msr_steim.proofs.Reading.{IsReached, IsStart, code_data, held_so, no_samples}
use Rattle.msr_steim.proofs.Shifts.{code_shifted}

-- ---- what a word holds is what it has in order

numbers_hold : (o : Option WordLayout) (word : ℕ) (group : List ℤ) → IfSome o HasBits
    → IsSomeAnd o (AreFields word group) → IsSomeAnd o (AreFields word (numbers_of o word))
unfolding HasBits
numbers_hold None word group bits holds = holds
numbers_hold (Some d) word group bits holds = numbers_are_fields word d.width d.count bits

held_differences : (version : Version) (order : Order) (area : List ℕ) (number : ℕ) (group : List ℤ)
    → WordHolds version order area number group → word_differences version order area number ≡ group
unfolding word_differences
held_differences version order area number group holds =
    let code = word_code order area number in
    let word = arranged_word version order code area number in
    let layout = layout_of version code (word / 2 ^ 30) in
    holds_one version code word (numbers_of layout word) group
    (numbers_hold layout word group (has_bits version code (word / 2 ^ 30)) holds) holds

pub one_group : (version : Version) (order : Order) (area : List ℕ) (number : ℕ) (group : List ℤ)
    → number < word_count area → WordHolds version order area number group
    → differences_from version order area number ≡ group ++ differences_from version order area (number + 1)
one_group version order area number group within holds =
    one_word version order area number within ∙ ap (λ ds. ds ++ differences_from version order area (number + 1))
    (held_differences version order area number group holds)

-- the groups of the first words are the first differences
pub held_in_order : (version : Version) (order : Order) (area : List ℕ) (groups : List (List ℤ)) (words : ℕ)
    → FirstWordsHold version order area groups → words ≤ length groups
    → differences_from version order area 0 ≡ joined_groups (take words groups)
    ++ differences_from version order area words
held_in_order version order area groups zero held within = refl
held_in_order version order area groups (suc words) held within =
    let group = get_or groups words [] in
    let front = take words groups in
    let rest = differences_from version order area (words + 1) in
    let here : words < length groups = omega (arith, within) in
    let below : words < word_count area = omega (arith, held.within, here) in
    let more : joined_groups (take (words + 1) groups) ≡ joined_groups front ++ group =
    ap joined_groups (take_more groups words [] here) ∙ differences_push front group in
    let next : words + 1 ≡ suc words = omega arith in
    let so : differences_from version order area 0 ≡ joined_groups (take (words + 1) groups) ++ rest =
    held_in_order version order area groups words held (omega (arith, within))
    ∙ ap (λ ds. joined_groups front ++ ds) (one_group version order area words group below (held.each words here))
    ∙ sym (append_assoc (joined_groups front) group rest) ∙ ap (λ ds. ds ++ rest) (sym more) in
    subst (λ n. differences_from version order area 0 ≡ joined_groups (take n groups)
    ++ differences_from version order area n) next so

-- ---- what the first difference is added to

pub first_part : (first before : ℤ) (group rest all : List ℤ) → all ≡ group ++ rest
    → samples_of first all ≡ sums_after before all → samples_of first group ≡ sums_after before group
first_part first before [] rest all same begins = refl
first_part first before (d ∷ ds) rest all same begins =
    let so : samples_of first (d ∷ (ds ++ rest)) ≡ sums_after before (d ∷ (ds ++ rest)) =
    subst (λ s. samples_of first s ≡ sums_after before s) same begins in
    let head : first ≡ int_wrap w32 (before +ℤ d) = ap (λ s. get_or s 0 (pos 0)) so in
    ap (λ x. x ∷ sums_after x ds) head

-- while there is no sample, no difference was read
pub none_before : (version : Version) (order : Order) (area : List ℕ) (count number : ℕ) (samples : List ℤ)
    → AreReadBelow version order area count number (constant order area 1) samples → length samples ≡ 0
    → differences_from version order area 0 ≡ differences_from version order area number
none_before version order area count number samples read none =
    let size : length (joined_groups read.groups) ≡ 0 =
    sym (length-samples_of (constant order area 1) (joined_groups read.groups)) ∙ ap length (sym read.sums) ∙ none in
    let empty : joined_groups read.groups ≡ [] = no_samples (constant order area 1) (joined_groups read.groups) size in
    held_in_order version order area read.groups (length read.groups) read.held (omega arith)
    ∙ ap (λ gs. joined_groups gs ++ differences_from version order area (length read.groups))
    (take_all (length read.groups) read.groups (omega arith))
    ∙ ap (λ ds. ds ++ differences_from version order area (length read.groups)) empty
    ∙ ap (differences_from version order area) read.number_is

pub begins_here : (version : Version) (order : Order) (area : List ℕ) (count number : ℕ) (samples group : List ℤ)
    (last : ℤ) → AreReadBelow version order area count number (constant order area 1) samples → length samples ≡ 0
    → BeginsAfter version order area last → number < word_count area → WordHolds version order area number group
    → samples_of (constant order area 1) group ≡ sums_after last group
begins_here version order area count number samples group last read none begins within here =
    first_part (constant order area 1) last group (differences_from version order area (number + 1))
    (differences_from version order area 0) (none_before version order area count number samples read none
    ∙ one_group version order area number group within here) begins.sums

-- the first samples begin after it, the others after the one before
pub starts_here : (version : Version) (order : Order) (area : List ℕ) (number code word : ℕ) (at : Progress) (out : List ℤ)
    → IsReached version order area number at out → (at.place ≡ 0 → BeginsAfter version order area at.last)
    → number < word_count area → code ≡ word_code order area number
    → word ≡ arranged_word version order code area number → IsStart version code word (constant order area 1) at at
starts_here version order area number code word at out reached begins within code_is word_is = record {
  place = refl;
  kept = λ some. refl;
  first = λ none group holds.
      begins_here version order area (length out) number (take at.place out) group at.last reached.read
      (length-take at.place out ∙ omega (arith, none)) (begins none) within
      (held_so version order area number code word group code_is word_is holds);
}

-- as long as no sample was written, the next word begins after the same number
pub begins_on : (version : Version) (order : Order) (area : List ℕ) (at next : Progress)
    → (next ≡ at) ⊎ (at.place < next.place) → (at.place ≡ 0 → BeginsAfter version order area at.last)
    → next.place ≡ 0 → BeginsAfter version order area next.last
begins_on version order area at next on begins none =
    ⊎_elim
    (λ (same : next ≡ at). subst (λ (p : Progress). BeginsAfter version order area p.last) (sym same)
    (begins (sym (ap (λ (p : Progress). p.place) same) ∙ none)))
    (λ (more : at.place < next.place). absurd (omega (arith, more, none))) on

-- ---- where the samples end

-- a word that reaches the end was written up to the end
pub end_reached : (version : Version) (code word : ℕ) (at next : Progress) (old new : List ℤ)
    → ReachesEnd version code word at.place (length old) → IsWritten version code word at old new next
    → at.place < length old → length new ≡ length old → next.place ≡ length new
end_reached version code word at next old new ends written room same =
    let reaches : length old ≤ at.place + length written.group = ends.reaches written.group written.holds in
    let sums = sums_after at.last written.group in
    let taken : length (take next.place new) ≡ length (take (length old) (take at.place old ++ sums)) =
    ap length written.samples in
    let left : length (take next.place new) ≡ min next.place (length new) = length-take next.place new in
    let right : length (take (length old) (take at.place old ++ sums))
    ≡ min (length old) (length (take at.place old ++ sums)) =
    length-take (length old) (take at.place old ++ sums) in
    let both : length (take at.place old ++ sums) ≡ length (take at.place old) + length sums =
    length-append (take at.place old) sums in
    let front : length (take at.place old) ≡ min at.place (length old) = length-take at.place old in
    let many : length sums ≡ length written.group = length-sums_after at.last written.group in
    omega (arith, written.within)

-- ---- the codes of a frame

-- the highest bits are the code of the next word
pub code_here : (order : Order) (area : List ℕ) (frame slot codes : ℕ) → 1 ≤ slot → slot < 16
    → 3 ≤ 16 * frame + slot → codes ≡ whole_word order area (16 * frame) * 2 ^ (2 * slot) % 4294967296
    → codes / 1073741824 ≡ word_code order area (16 * frame + slot)
code_here order area frame slot codes some small late same =
    let word = whole_word order area (16 * frame) in
    code_data order area frame slot word (codes / 1073741824) some small late refl
    (ap (λ n. n / 1073741824) same ∙ code_shifted word slot small)

-- shifted by those of so many words
pub codes_by : (codes word slot words : ℕ) → codes ≡ word * 2 ^ (2 * slot) % 4294967296
    → codes * 2 ^ (2 * words) % 4294967296 ≡ word * 2 ^ (2 * (slot + words)) % 4294967296
codes_by codes word slot words same =
    let more : 2 * (slot + words) ≡ 2 * slot + 2 * words = omega arith in
    let power : 2 ^ (2 * (slot + words)) ≡ 2 ^ (2 * slot) * 2 ^ (2 * words) =
    ap (λ n. 2 ^ n) more ∙ pow-add 2 (2 * slot) (2 * words) in
    let product : word * 2 ^ (2 * slot) * 2 ^ (2 * words) ≡ word * 2 ^ (2 * (slot + words)) =
    mul_assoc word (2 ^ (2 * slot)) (2 ^ (2 * words)) ∙ ap (λ n. word * n) (sym power) in
    ap (λ n. n * 2 ^ (2 * words) % 4294967296) same
    ∙ mul-mod_first (word * 2 ^ (2 * slot)) (2 ^ (2 * words)) 4294967296 ∙ ap (λ n. n % 4294967296) product

-- by that of one
pub codes_on : (codes word slot : ℕ) → codes ≡ word * 2 ^ (2 * slot) % 4294967296
    → codes * 4 % 4294967296 ≡ word * 2 ^ (2 * (slot + 1)) % 4294967296
codes_on codes word slot same = codes_by codes word slot 1 same
