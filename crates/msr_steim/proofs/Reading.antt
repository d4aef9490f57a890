-- Lemmas on the samples that are written word by word.
use Rattle.std.proofs.Common.{◌≡◌, ◌≢◌, ◌<◌, ◌≤◌, ℕ, zero, suc, ◌+◌, ◌-◌, ◌*◌, ◌/◌, ◌%◌, ◌^◌, ℤ, pos, ◌+ℤ◌, ◌-ℤ◌, List, [], ◌∷◌, ◌++◌, length, take, get_or, refl, sym, ap, ◌∙◌, subst, arith, w32, to_z, of_z, SFits, Some, ⊎_elim}
use Rattle.std.specs.Int.{int_wrap}
use Rattle.std.specs.Prelude.{◌==◌, false}
use Rattle.std.proofs.lemmas.Bool.{cases_lt, le-ltb, ne_eqb}
use Rattle.std.proofs.lemmas.Int.{ints, int_wrap-add_left, int_wrap_fits, wrapping_sub_is}
use Rattle.std.proofs.lemmas.List.{append-nil, length-append, length-take, get_or-take, take_all}
use Rattle.msr_base.specs.declared.order.Order.{Order}
use Rattle.msr_steim.specs.declared.sums.Progress.{Progress}
use Rattle.msr_base.specs.declared.storage.Version.{Version}
use Rattle.msr_base.specs.declared.storage.Version.TheVariants.{One, Two}
use Rattle.msr_steim.specs.Area.{CarriesSteim, IsUndefined, IsUndefinedBefore, WordHolds, arranged_word, constant, joined_groups, samples_of, sums_after, whole_word, word_code, word_count}
use Rattle.msr_steim.specs.Sums.{IsWritten}
use Rattle.msr_steim.specs.Word.{Holds, IsUndefinedWord, layout_of}
use Rattle.msr_steim.proofs.Decoding.{AreReadBelow, differences_push, length-samples_of, one_more_held, read_enough, read_more}
use Rattle.msr_steim.proofs.Summing.{holds_none}

-- ---- what the first difference is added to

there_and_back : (a d : ℤ) → a -ℤ d +ℤ d ≡ a
there_and_back a d = omega (arith, ints)

wraps_back : (a d : ℤ) → SFits w32 a → int_wrap w32 (int_wrap w32 (a -ℤ d) +ℤ d) ≡ a
wraps_back a d fits = int_wrap-add_left w32 (a -ℤ d) d ∙ ap (int_wrap w32) (there_and_back a d)
    ∙ int_wrap_fits w32 a fits

from_base : (first base d : ℤ) (ds : List ℤ) → int_wrap w32 (base +ℤ d) ≡ first
    → samples_of first (d ∷ ds) ≡ sums_after base (d ∷ ds)
from_base first base d ds e = ap (λ x. x ∷ sums_after x ds) (sym e)

pub first_sums : (first : ℤ) (group items : List ℤ) → group ≡ items → 1 ≤ length items → SFits w32 first
    → SFits w32 (get_or items 0 (pos 0)) → samples_of first group ≡ sums_after (to_z w32
    ((of_z w32 first + (4294967296 - of_z w32 (get_or items 0 (pos 0)))) % 4294967296)) group
first_sums first group [] same some f g = absurd (omega (arith, some))
first_sums first group (d ∷ ds) same some f g =
    let base : to_z w32 ((of_z w32 first + (4294967296 - of_z w32 d)) % 4294967296) ≡ int_wrap w32 (first -ℤ d) =
    wrapping_sub_is w32 first d f g in
    let back : int_wrap w32 (int_wrap w32 (first -ℤ d) +ℤ d) ≡ first = wraps_back first d f in
    rw (same, base) (from_base first (int_wrap w32 (first -ℤ d)) d ds back)

-- ---- the samples of one more group

pub sums_after_append : (x : ℤ) (es gs : List ℤ)
    → sums_after x (es ++ gs) ≡ sums_after x es ++ sums_after (get_or (x ∷ sums_after x es) (length es) (pos 0)) gs
sums_after_append x [] gs = refl
sums_after_append x (e ∷ es) gs = ap (λ s. int_wrap w32 (x +ℤ e) ∷ s) (sums_after_append (int_wrap w32 (x +ℤ e)) es gs)

samples_of_append : (first : ℤ) (es gs : List ℤ) → 0 < length es → samples_of first (es ++ gs) ≡ samples_of first es
    ++ sums_after (get_or (samples_of first es) (length es - 1) (pos 0)) gs
samples_of_append first [] gs some = absurd (omega (arith, some))
samples_of_append first (e ∷ es) gs some =
    let n : length (e ∷ es) - 1 ≡ length es = omega arith in
    ap (λ s. first ∷ s) (sums_after_append first es gs)
    ∙ ap (λ k. first ∷ (sums_after first es ++ sums_after (get_or (first ∷ sums_after first es) k (pos 0)) gs))
    (sym n)

pub no_samples : (first : ℤ) (before : List ℤ) → length before ≡ 0 → before ≡ []
no_samples first [] e = refl
no_samples first (d ∷ ds) e = absurd (omega (arith, e))

-- one more group of differences gives its sums
pub grown : (first last : ℤ) (samples group before : List ℤ)
    → (0 < length samples → last ≡ get_or samples (length samples - 1) (pos 0))
    → (length samples ≡ 0 → samples_of first group ≡ sums_after last group) → samples ≡ samples_of first before
    → samples_of first (before ++ group) ≡ samples ++ sums_after last group
grown first last samples group before last_is begins same =
    let size : length before ≡ length samples = sym (length-samples_of first before) ∙ ap length (sym same) in
    ⊎_elim
    (λ (some : 0 < length samples).
    let here : get_or (samples_of first before) (length before - 1) (pos 0) ≡ last =
    ap (λ k. get_or (samples_of first before) (k - 1) (pos 0)) size
    ∙ ap (λ s. get_or s (length samples - 1) (pos 0)) (sym same) ∙ sym (last_is some) in
    samples_of_append first before group (omega (arith, size, some))
    ∙ ap (λ x. samples_of first before ++ sums_after x group) here ∙ ap (λ s. s ++ sums_after last group) (sym same))
    (λ (none : length samples ≤ 0).
    let empty : length samples ≡ 0 = omega (arith, none) in
    ap (λ b. samples_of first (b ++ group)) (no_samples first before (size ∙ empty)) ∙ begins empty
    ∙ ap (λ s. s ++ sums_after last group) (sym (no_samples first samples empty))) (cases_lt 0 (length samples))

-- what was written for a word is what its group gives
pub pushed : (first : ℤ) (at start : Progress) (old new group : List ℤ) (n : ℕ)
    → start.place ≡ at.place → (0 < at.place → start ≡ at)
    → (at.place ≡ 0 → samples_of first group ≡ sums_after start.last group)
    → (0 < at.place → at.last ≡ get_or old (at.place - 1) (pos 0)) → at.place < length old
    → take n new ≡ take (length old) (take start.place old ++ sums_after start.last group)
    → (before : List ℤ) → take at.place old ≡ samples_of first before
    → take n new ≡ take (length old) (samples_of first (before ++ group))
pushed first at start old new group n place kept begins last room written before same =
    let samples = take at.place old in
    let size : length samples ≡ at.place = length-take at.place old ∙ omega (arith, room) in
    let last_is : 0 < length samples → start.last ≡ get_or samples (length samples - 1) (pos 0) = λ more.
    let some : 0 < at.place = omega (arith, size, more) in
    ap (λ (p : Progress). p.last) (kept some) ∙ last some
    ∙ sym (get_or-take at.place old (at.place - 1) (pos 0) (omega (arith, some)))
    ∙ ap (λ k. get_or samples (k - 1) (pos 0)) (sym size) in
    written ∙ ap (λ k. take (length old) (take k old ++ sums_after start.last group)) place
    ∙ ap (take (length old)) (sym (grown first start.last samples group before last_is
    (λ none. begins (sym size ∙ none)) same))

-- ---- word by word

-- the words below this number were read, and their samples stand before the place
pub record IsReached (version : Version) (order : Order) (area : List ℕ) (number : ℕ) (at : Progress)
    (out : List ℤ) : Type 0 where
  pub read : AreReadBelow version order area (length out) number (constant order area 1) (take at.place out)
  pub room : at.place < length out
  pub last : 0 < at.place → at.last ≡ get_or out (at.place - 1) (pos 0)

-- where the samples of a word begin
pub record IsStart (version : Version) (code word : ℕ) (forward : ℤ) (at start : Progress) : Type 0 where
  pub place : start.place ≡ at.place
  pub kept : 0 < at.place → start ≡ at
  pub first : at.place ≡ 0 → (group : List ℤ) → Holds version code word group
      → samples_of forward group ≡ sums_after start.last group

pub held_so : (version : Version) (order : Order) (area : List ℕ) (number code word : ℕ) (group : List ℤ)
    → code ≡ word_code order area number → word ≡ arranged_word version order code area number
    → Holds version code word group → WordHolds version order area number group
held_so version order area number code word group e f holds =
    let P : ℕ → Type 0 = λ k. Holds version k (arranged_word version order k area number) group in
    subst P e (subst (λ w. Holds version code w group) f holds)

pub undefined_so : (version : Version) (order : Order) (area : List ℕ) (number code word : ℕ)
    → code ≡ word_code order area number → word ≡ arranged_word version order code area number
    → IsUndefinedWord version code word → IsUndefined version order area number
undefined_so version order area number code word e f undefined =
    let P : ℕ → Type 0 = λ k. IsUndefinedWord version k (arranged_word version order k area number) in
    subst P e (subst (λ w. IsUndefinedWord version code w) f undefined)

pushed_here : (version : Version) (order : Order) (area : List ℕ) (number code word : ℕ) (at start next : Progress)
    (old new : List ℤ) → IsReached version order area number at old
    → IsStart version code word (constant order area 1) at start
    → (written : IsWritten version code word start old new next)
    → (before : List ℤ) → take at.place old ≡ samples_of (constant order area 1) before
    → take next.place new ≡ take (length old) (samples_of (constant order area 1) (before ++ written.group))
pushed_here version order area number code word at start next old new reached begin written =
    pushed (constant order area 1) at start old new written.group next.place begin.place begin.kept
    (λ none. begin.first none written.group written.holds) reached.last reached.room written.samples

last_here : (version : Version) (order : Order) (area : List ℕ) (number code word : ℕ) (at start next : Progress)
    (old new : List ℤ) → IsReached version order area number at old
    → IsStart version code word (constant order area 1) at start
    → IsWritten version code word start old new next → 0 < next.place → next.last ≡ get_or new (next.place - 1) (pos 0)
last_here version order area number code word at start next old new reached begin written some =
    written.last (λ more.
    let least : 0 < at.place = omega (arith, begin.place, more) in
    ap (λ (p : Progress). p.last) (begin.kept least) ∙ reached.last least
    ∙ ap (λ k. get_or old (k - 1) (pos 0)) (sym begin.place)) some

pub step_more : (version : Version) (order : Order) (area : List ℕ) (number code word : ℕ) (at start next : Progress)
    (old new : List ℤ) → IsReached version order area number at old
    → IsStart version code word (constant order area 1) at start
    → IsWritten version code word start old new next → code ≡ word_code order area number
    → word ≡ arranged_word version order code area number → number < word_count area → length new ≡ length old
    → next.place ≢ length new → IsReached version order area (number + 1) next new
step_more version order area number code word at start next old new reached begin written e f within same unlike =
    let size : length (take next.place new) ≡ next.place = length-take next.place new
    ∙ omega (arith, written.within, same) in
    let not_full : length (take next.place new) ≢ length old = λ full. unlike (sym size ∙ full ∙ sym same) in
    let more : AreReadBelow version order area (length old) (number + 1) (constant order area 1) (take next.place new) =
    read_more version order area (length old) number (constant order area 1) (take at.place old)
    (take next.place new) written.group reached.read within
    (held_so version order area number code word written.group e f written.holds)
    (pushed_here version order area number code word at start next old new reached begin written) not_full in
    record {
      read = subst (λ n. AreReadBelow version order area n (number + 1) (constant order area 1)
          (take next.place new)) (sym same) more;
      room = room (next.place) (length new) unlike (omega (arith, written.within, same));
      last = last_here version order area number code word at start next old new reached begin written;
    }
  where
    room : (a b : ℕ) → a ≢ b → a ≤ b → a < b
    room a b unlike le = ⊎_elim (λ (lt : a < b). lt) (λ (ge : b ≤ a). absurd (unlike (omega (arith, ge, le))))
        (cases_lt a b)

pub step_enough : (version : Version) (order : Order) (area : List ℕ) (number code word : ℕ)
    (at start next : Progress) (old new : List ℤ) → IsReached version order area number at old
    → IsStart version code word (constant order area 1) at start
    → IsWritten version code word start old new next → code ≡ word_code order area number
    → word ≡ arranged_word version order code area number → number < word_count area → length new ≡ length old
    → next.place ≡ length new → CarriesSteim version order area new
step_enough version order area number code word at start next old new reached begin written e f within same full =
    let whole : take next.place new ≡ new = ap (λ k. take k new) full ∙ take_all (length new) new (omega arith) in
    let size : length (take next.place new) ≡ length old = ap length whole ∙ same in
    let carried : CarriesSteim version order area (take next.place new) =
    read_enough version order area (length old) number (take at.place old)
    (take next.place new) written.group reached.read within
    (held_so version order area number code word written.group e f written.holds)
    (pushed_here version order area number code word at start next old new reached begin written) size in
    subst (CarriesSteim version order area) whole carried

-- ---- words with no differences

no_layout : (version : Version) (top : ℕ) → layout_of version 0 top ≡ Some (record { count = 0; width = 0 })
no_layout One top = refl
no_layout Two top = refl

skip_one : (version : Version) (order : Order) (area : List ℕ) (count n : ℕ) (first : ℤ) (samples : List ℤ)
    → AreReadBelow version order area count n first samples → n < word_count area → word_code order area n ≡ 0
    → AreReadBelow version order area count (n + 1) first samples
skip_one version order area count n first samples read within none =
    let word = arranged_word version order 0 area n in
    let empty : WordHolds version order area n [] =
    held_so version order area n 0 word [] (sym none) refl
    (holds_none version 0 word (no_layout version (word / 2 ^ 30))) in
    let same : joined_groups (read.groups ++ [] ∷ []) ≡ joined_groups read.groups = differences_push read.groups []
    ∙ append-nil (joined_groups read.groups) in
    record {
      groups = read.groups ++ [] ∷ [];
      held = one_more_held version order area read.groups [] read.held (omega (arith, read.number_is, within))
          (rw read.number_is empty);
      number_is = length-append read.groups ([] ∷ []) ∙ ap (λ k. k + 1) read.number_is;
      few = rw same read.few;
      sums = read.sums ∙ ap (samples_of first) (sym same);
    }

-- the first word of a frame has the codes
code_first : (order : Order) (area : List ℕ) (frame : ℕ) → 0 < frame → word_code order area (16 * frame) ≡ 0
code_first order area frame some =
    let rest : (16 * frame) % 16 ≡ 0 = omega arith in
    rw (le-ltb (16 * frame) 3 (omega (arith, some)), rest) refl

-- the words of a frame before the first that has differences
pub skip_first : (version : Version) (order : Order) (area : List ℕ) (count frame slot : ℕ) (first : ℤ)
    (samples : List ℤ) → (frame ≡ 0 → slot ≡ 3) → (0 < frame → slot ≡ 1)
    → AreReadBelow version order area count (16 * frame) first samples → 16 * frame + 3 < word_count area
    → AreReadBelow version order area count (16 * frame + slot) first samples
skip_first version order area count zero slot first samples zeroth others read within =
    let none : 16 * 0 ≡ 0 = omega arith in
    let read_0 : AreReadBelow version order area count 0 first samples = rw none at read in
    let read_1 : AreReadBelow version order area count 1 first samples =
    skip_one version order area count 0 first samples read_0 (omega (arith, within)) refl in
    let read_2 : AreReadBelow version order area count 2 first samples =
    skip_one version order area count 1 first samples read_1 (omega (arith, within)) refl in
    let read_3 : AreReadBelow version order area count 3 first samples =
    skip_one version order area count 2 first samples read_2 (omega (arith, within)) refl in
    let here : 3 ≡ 16 * 0 + slot = omega (arith, zeroth refl) in
    subst (λ n. AreReadBelow version order area count n first samples) here read_3
skip_first version order area count (suc frame) slot first samples zeroth others read within =
    let some : 0 < suc frame = omega arith in
    let one : slot ≡ 1 = others some in
    subst (λ k. AreReadBelow version order area count (16 * suc frame + k) first samples) (sym one)
    (skip_one version order area count (16 * suc frame) first samples read (omega (arith, within))
    (code_first order area (suc frame) some))

-- the code of a word with differences
pub code_data : (order : Order) (area : List ℕ) (frame slot codes code : ℕ) → 1 ≤ slot → slot < 16
    → 3 ≤ 16 * frame + slot → codes ≡ whole_word order area (16 * frame) → code ≡ codes / 2 ^ (30 - 2 * slot) % 4
    → code ≡ word_code order area (16 * frame + slot)
code_data order area frame slot codes code some small late codes_is code_is =
    let number = 16 * frame + slot in
    let rest : number % 16 ≡ slot = omega (arith, small) in
    let whole : number / 16 * 16 ≡ 16 * frame = omega (arith, small) in
    let some_rest : slot ≡ suc (slot - 1) = omega (arith, some) in
    let spread : word_code order area number ≡ whole_word order area (number / 16 * 16) / 2 ^
    (30 - 2 * (number % 16)) % 4 = data_code order area number late (omega (arith, rest, some)) in
    code_is ∙ ap (λ n. n / 2 ^ (30 - 2 * slot) % 4) codes_is
    ∙ sym (spread ∙ ap (λ n. whole_word order area n / 2 ^ (30 - 2 * (number % 16)) % 4) whole
    ∙ ap (λ n. whole_word order area (16 * frame) / 2 ^ (30 - 2 * n) % 4) rest)
  where
    data_code : (order : Order) (area : List ℕ) (number : ℕ) → 3 ≤ number → 0 < number % 16
        → word_code order area number ≡ whole_word order area (number / 16 * 16) / 2 ^ (30 - 2 * (number % 16)) % 4
    data_code order area number late some =
        let other : (number % 16 == 0) ≡ false = ne_eqb (number % 16) 0 (λ e. omega (arith, some, e)) in
        rw (le-ltb number 3 late, other) refl

-- ---- a word that is undefined

pub undefined_before : (version : Version) (order : Order) (area : List ℕ) (count number : ℕ) (first : ℤ)
    (samples : List ℤ) → AreReadBelow version order area count number first samples → number < word_count area
    → IsUndefined version order area number → IsUndefinedBefore version order area count number
undefined_before version order area count number first samples read within undefined =
    record {
      groups = read.groups;
      held = read.held;
      first = read.number_is;
      within = within;
      few = read.few;
      undefined = undefined;
    }

-- ---- where the words of a frame begin

pub slot_bounds : (frame slot : ℕ) → (frame ≡ 0 → slot ≡ 3) → (0 < frame → slot ≡ 1)
    → (1 ≤ slot) × (3 ≤ 16 * frame + slot) × (slot ≤ 16)
slot_bounds zero slot zeroth others = let e : slot ≡ 3 = zeroth refl in (omega arith, omega arith, omega arith)
slot_bounds (suc frame) slot zeroth others = let e : slot ≡ 1 = others (omega arith) in
    (omega arith, omega arith, omega arith)
