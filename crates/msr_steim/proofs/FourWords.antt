-- Words of code 1 side by side, which are read at once.
use Rattle.std.proofs.Common.{◌≡◌, ◌<◌, ◌≤◌, ℕ, zero, suc, ◌+◌, ◌-◌, ◌*◌, ◌/◌, ◌%◌, ◌^◌, ℤ, pos, List, [], ◌∷◌, ◌++◌, length, take, drop, map, get_or, refl, sym, ap, ◌∙◌, subst, arith, w8, Fits, Some, append_assoc, lit<, ⊎_elim}
use Rattle.std.specs.Prelude.{IsSomeAnd, ⊤}
use Rattle.std.proofs.Math.Seq.{take-add}
use lib.Seq.{drop-drop, get_or-drop}
use Rattle.std.proofs.lemmas.Bool.{cases_lt}
use Rattle.std.proofs.lemmas.Grind.{flat_map-append}
use Rattle.std.proofs.lemmas.List.{append-nil, get_or-append-add, get_or-take, length-append, length-drop, length-map, length-take, map-append}
use Rattle.std.proofs.lemmas.Nat.{pow-add}
use Rattle.std.proofs.lemmas.Simd.{length-chunk}
use Rattle.byteorder.specs.Endian.{big_number}
use Rattle.msr_base.specs.declared.order.Order.{Order}
use Rattle.msr_base.specs.declared.order.Order.TheVariants.{Big, Little}
use Rattle.msr_base.specs.declared.storage.Version.{Version}
use Rattle.msr_base.specs.declared.storage.Version.TheVariants.{One, Two}
use Rattle.msr_steim.specs.declared.sums.Progress.{Progress}
use Rattle.msr_steim.specs.Area.{FirstWordsHold, WordHolds, constant, joined_groups, samples_of, sums_after, whole_word, word_code, word_count}
use Rattle.msr_steim.specs.InOrder.{BeginsAfter, differences_from}
use Rattle.msr_steim.specs.Sums.{AreSumsWritten}
use Rattle.msr_steim.specs.Word.{AreFields, layout_of, numbers_in, signed_of}
use Rattle.msr_steim.proofs.Beginning.{code_here, codes_by, first_part, none_before, one_group}
use Rattle.msr_steim.proofs.Checking.{ArePassed}
use Rattle.msr_steim.proofs.Decoding.{AreReadBelow, length-samples_of, length-sums_after, one_more_held}
use Rattle.msr_steim.proofs.InLanes.{cons}
use Rattle.msr_steim.proofs.Reading.{IsReached, grown, held_so}
use Rattle.msr_steim.proofs.Shifts.{are_fields}

-- ---- words that hold groups, one each

abbrev pub HoldFrom : Version → Order → List ℕ → ℕ → List (List ℤ) → Type 0
HoldFrom version order area number [] = ⊤
HoldFrom version order area number (group ∷ groups) =
    WordHolds version order area number group × HoldFrom version order area (number + 1) groups

all_held : (version : Version) (order : Order) (area : List ℕ) (before groups : List (List ℤ)) (number : ℕ)
    → FirstWordsHold version order area before → length before ≡ number → HoldFrom version order area number groups
    → number + length groups ≤ word_count area → FirstWordsHold version order area (before ++ groups)
all_held version order area before [] number held number_is here within =
    subst (FirstWordsHold version order area) (sym (append-nil before)) held
all_held version order area before (group ∷ groups) number held number_is here within =
    subst (FirstWordsHold version order area) (append_assoc before (group ∷ []) groups)
    (all_held version order area (before ++ group ∷ []) groups (number + 1)
    (one_more_held version order area before group held (omega (arith, number_is, within))
    (subst (λ n. WordHolds version order area n group) (sym number_is) here.0))
    (length-append before (group ∷ []) ∙ ap (λ n. n + 1) number_is) here.1 (omega (arith, within)))

all_differences : (before groups : List (List ℤ))
    → joined_groups (before ++ groups) ≡ joined_groups before ++ joined_groups groups
all_differences before groups = flat_map-append (λ g. g) before groups

-- more words, and still too few samples
read_all : (version : Version) (order : Order) (area : List ℕ) (count number : ℕ) (first : ℤ) (samples more : List ℤ)
    (groups : List (List ℤ)) → AreReadBelow version order area count number first samples
    → HoldFrom version order area number groups → number + length groups ≤ word_count area
    → ((before : List ℤ) → samples ≡ samples_of first before → more ≡ samples_of first (before ++ joined_groups groups))
    → length more < count → AreReadBelow version order area count (number + length groups) first more
read_all version order area count number first samples more groups read here within pushed few =
    let joined : joined_groups (read.groups ++ groups) ≡ joined_groups read.groups ++ joined_groups groups =
    all_differences read.groups groups in
    let sums : more ≡ samples_of first (joined_groups (read.groups ++ groups)) =
    pushed (joined_groups read.groups) read.sums ∙ ap (samples_of first) (sym joined) in
    record {
      groups = read.groups ++ groups;
      held = all_held version order area read.groups groups number read.held read.number_is here within;
      number_is = length-append read.groups groups ∙ ap (λ n. n + length groups) read.number_is;
      few = omega (arith, few, ap length sums, length-samples_of first (joined_groups (read.groups ++ groups)));
      sums = sums;
    }

-- their differences come first among those from their place on
first_differences : (version : Version) (order : Order) (area : List ℕ) (number : ℕ) (groups : List (List ℤ))
    → HoldFrom version order area number groups → number + length groups ≤ word_count area
    → differences_from version order area number
    ≡ joined_groups groups ++ differences_from version order area (number + length groups)
first_differences version order area number [] here within =
    ap (differences_from version order area) same
  where
    same : number ≡ number + 0
    same = omega arith
first_differences version order area number (group ∷ groups) here within =
    let place : number + 1 + length groups ≡ number + suc (length groups) = omega arith in
    one_group version order area number group (omega (arith, within)) here.0
    ∙ ap (λ ds. group ++ ds) (first_differences version order area (number + 1) groups here.1 (omega (arith, within)))
    ∙ sym (append_assoc group (joined_groups groups) (differences_from version order area (number + 1 + length groups)))
    ∙ ap (λ n. (group ++ joined_groups groups) ++ differences_from version order area n) place

begins_all : (version : Version) (order : Order) (area : List ℕ) (count number : ℕ) (samples : List ℤ)
    (groups : List (List ℤ)) (last : ℤ)
    → AreReadBelow version order area count number (constant order area 1) samples → length samples ≡ 0
    → BeginsAfter version order area last → HoldFrom version order area number groups
    → number + length groups ≤ word_count area
    → samples_of (constant order area 1) (joined_groups groups) ≡ sums_after last (joined_groups groups)
begins_all version order area count number samples groups last read none begins here within =
    first_part (constant order area 1) last (joined_groups groups)
    (differences_from version order area (number + length groups)) (differences_from version order area 0)
    (none_before version order area count number samples read none
    ∙ first_differences version order area number groups here within) begins.sums

-- ---- their sums in the places of an area's samples

pub reached_on : (version : Version) (order : Order) (area : List ℕ) (number : ℕ) (groups : List (List ℤ))
    (at next : Progress) (old new : List ℤ) → IsReached version order area number at old
    → (at.place ≡ 0 → BeginsAfter version order area at.last) → AreSumsWritten (joined_groups groups) at old new next
    → HoldFrom version order area number groups → number + length groups ≤ word_count area
    → length new ≡ length old → next.place < length new → IsReached version order area (number + length groups) next new
reached_on version order area number groups at next old new reached begins written here within same room =
    let first = constant order area 1 in
    let samples = take at.place old in
    let group = joined_groups groups in
    let size : length samples ≡ at.place = length-take at.place old ∙ omega (arith, reached.room) in
    let last_is : 0 < length samples → at.last ≡ get_or samples (length samples - 1) (pos 0) = λ more.
    let some : 0 < at.place = omega (arith, size, more) in
    reached.last some ∙ sym (get_or-take at.place old (at.place - 1) (pos 0) (omega (arith, some)))
    ∙ ap (λ k. get_or samples (k - 1) (pos 0)) (sym size) in
    let pushed : (before : List ℤ) → samples ≡ samples_of first before
    → take next.place new ≡ samples_of first (before ++ group) = λ before is.
    written.samples ∙ sym (grown first at.last samples group before last_is
    (λ none. begins_all version order area (length old) number samples groups at.last reached.read none
    (begins (sym size ∙ none)) here within) is) in
    let read : AreReadBelow version order area (length old) (number + length groups) first (take next.place new) =
    read_all version order area (length old) number first samples (take next.place new) groups reached.read here within
    pushed (omega (arith, length-take next.place new, room, same)) in
    record {
      read = subst (λ n. AreReadBelow version order area n (number + length groups) first (take next.place new))
          (sym same) read;
      room = room;
      last = λ some. written.last;
    }

-- ---- and where the samples are not kept

pub passed_all : (version : Version) (order : Order) (area : List ℕ) (number count left : ℕ) (groups : List (List ℤ))
    (at next : Progress) (old new : List ℤ) → ArePassed version order area number count left at.last
    → at.place ≡ 0 → AreSumsWritten (joined_groups groups) at old new next
    → HoldFrom version order area number groups → number + length groups ≤ word_count area
    → next.place ≤ length new → 0 < next.place → next.place < left
    → ArePassed version order area (number + length groups) count (left - next.place) next.last
passed_all version order area number count left groups at next old new passed zeroth written here within room some few =
    let first = constant order area 1 in
    let group = joined_groups groups in
    let sums = sums_after at.last group in
    let all = passed.samples ++ sums in
    let sums_are : take next.place new ≡ sums = written.samples ∙ ap (λ n. take n old ++ sums) zeroth in
    let size : length sums ≡ next.place = length-sums_after at.last group ∙ omega (arith, written.place, zeroth) in
    let total : length all ≡ length passed.samples + next.place =
    length-append passed.samples sums ∙ ap (λ n. length passed.samples + n) size in
    let pushed : (before : List ℤ) → passed.samples ≡ samples_of first before
    → all ≡ samples_of first (before ++ group) = λ before is.
    sym (grown first at.last passed.samples group before passed.last_is
    (λ none. begins_all version order area count number passed.samples groups at.last passed.read none
    (passed.begins none) here within) is) in
    let end : length all - 1 ≡ length passed.samples + (next.place - 1) = omega (arith, total, some) in
    record {
      samples = all;
      read = read_all version order area count number first passed.samples all groups passed.read here within pushed
          (omega (arith, total, passed.left_is, few));
      left_is = omega (arith, total, passed.left_is, few);
      last_is = λ more. written.last ∙ sym (get_or-take next.place new (next.place - 1) (pos 0) (omega (arith, some)))
          ∙ ap (λ l. get_or l (next.place - 1) (pos 0)) sums_are
          ∙ sym (get_or-append-add passed.samples sums (next.place - 1) (pos 0))
          ∙ ap (λ k. get_or all k (pos 0)) (sym end);
      begins = λ none. absurd (omega (arith, none, total, some));
    }

-- ---- the bytes of words of code 1

-- a word's bytes are its differences
word_of_bytes : (bytes : List ℕ) → 4 ≤ length bytes → ((k : ℕ) → Fits w8 (get_or bytes k 0))
    → numbers_in (big_number 4 bytes) 8 4 ≡ map (signed_of 8) (take 4 bytes)
unfolding numbers_in
word_of_bytes (a ∷ b ∷ c ∷ d ∷ rest) long fits =
    let fa : a < 256 = (fits 0).fits in
    let fb : b < 256 = (fits 1).fits in
    let fc : c < 256 = (fits 2).fits in
    let fd : d < 256 = (fits 3).fits in
    let word = big_number 4 (a ∷ b ∷ c ∷ d ∷ rest) in
    let first : word / 2 ^ (3 * 8) % 2 ^ 8 ≡ a = omega (arith, fa, fb, fc, fd) in
    let second : word / 2 ^ (2 * 8) % 2 ^ 8 ≡ b = omega (arith, fa, fb, fc, fd) in
    let third : word / 2 ^ (1 * 8) % 2 ^ 8 ≡ c = omega (arith, fa, fb, fc, fd) in
    let fourth : word / 2 ^ (0 * 8) % 2 ^ 8 ≡ d = omega (arith, fa, fb, fc, fd) in
    cons (ap (signed_of 8) first) (cons (ap (signed_of 8) second) (cons (ap (signed_of 8) third)
    (cons (ap (signed_of 8) fourth) refl)))
word_of_bytes bytes long fits = absurd (omega (arith, long))

four_fields : (version : Version) (top : ℕ) → layout_of version 1 top ≡ Some (record { count = 4; width = 8 })
four_fields One top = refl
four_fields Two top = refl

-- the groups of so many words, if all of them have code 1
abbrev pub byte_groups : List ℕ → ℕ → ℕ → List (List ℤ)
byte_groups area number zero = []
byte_groups area number (suc words) =
    map (signed_of 8) (take 4 (drop (4 * number) area)) ∷ byte_groups area (number + 1) words

pub byte_groups_hold : (version : Version) (area : List ℕ) (number words : ℕ)
    → ((k : ℕ) → Fits w8 (get_or area k 0)) → 4 * (number + words) ≤ length area
    → ((k : ℕ) → k < words → word_code Big area (number + k) ≡ 1)
    → HoldFrom version Big area number (byte_groups area number words)
byte_groups_hold version area number zero fits within codes = tt
byte_groups_hold version area number (suc words) fits within codes = (
  here,
  byte_groups_hold version area (number + 1) words fits (omega (arith, within))
      (λ k less. ap (word_code Big area) (next k) ∙ codes (suc k) (omega (arith, less))),
)
  where
    next : (k : ℕ) → number + 1 + k ≡ number + suc k
    next k = omega arith

    here : WordHolds version Big area number (map (signed_of 8) (take 4 (drop (4 * number) area)))
    here =
        let bytes = drop (4 * number) area in
        let word = whole_word Big area number in
        let same : number + 0 ≡ number = omega arith in
        let code_is : 1 ≡ word_code Big area number =
        sym (ap (word_code Big area) (sym same) ∙ codes 0 (omega arith)) in
        let numbers : numbers_in word 8 4 ≡ map (signed_of 8) (take 4 bytes) =
        word_of_bytes bytes (omega (arith, length-drop (4 * number) area, within))
        (λ k. subst (Fits w8) (sym (get_or-drop (4 * number) area k 0)) (fits (4 * number + k))) in
        held_so version Big area number 1 word (map (signed_of 8) (take 4 bytes)) code_is refl
        (subst (λ o. IsSomeAnd o (AreFields word (map (signed_of 8) (take 4 bytes))))
        (sym (four_fields version (word / 2 ^ 30)))
        (subst (λ ds. AreFields word ds (record { count = 4; width = 8 })) numbers (are_fields word 8 4 (lit< tt))))

pub differences_of_bytes : (area : List ℕ) (number words : ℕ)
    → joined_groups (byte_groups area number words) ≡ map (signed_of 8) (take (4 * words) (drop (4 * number) area))
differences_of_bytes area number zero = refl
differences_of_bytes area number (suc words) =
    let bytes = drop (4 * number) area in
    let next : 4 * number + 4 ≡ 4 * (number + 1) = omega arith in
    let all : 4 + 4 * words ≡ 4 * suc words = omega arith in
    ap (λ ds. map (signed_of 8) (take 4 bytes) ++ ds) (differences_of_bytes area (number + 1) words
    ∙ ap (λ n. map (signed_of 8) (take (4 * words) (drop n area))) (sym next)
    ∙ ap (λ l. map (signed_of 8) (take (4 * words) l)) (sym (drop-drop 4 (4 * number) area)))
    ∙ sym (map-append (signed_of 8) (take 4 bytes) (take (4 * words) (drop 4 bytes)))
    ∙ ap (map (signed_of 8)) (sym (take-add 4 (4 * words) bytes)) ∙ ap (λ n. map (signed_of 8) (take n bytes)) all

-- ---- four codes of 1

-- no code of a frame is left past its last word
none_left : (word slot : ℕ) → 16 ≤ slot → word * 2 ^ (2 * slot) % 4294967296 ≡ 0
none_left word slot late =
    let apart : 2 * slot ≡ 2 * slot - 32 + 32 = omega (arith, late) in
    let power : 2 ^ (2 * slot) ≡ 2 ^ (2 * slot - 32) * 4294967296 =
    ap (λ n. 2 ^ n) apart ∙ pow-add 2 (2 * slot - 32) 32 in
    let product : word * 2 ^ (2 * slot) ≡ word * 2 ^ (2 * slot - 32) * 4294967296 = rw power (omega arith) in
    rw product (omega arith)

pub four_left : (word slot codes : ℕ) → codes ≡ word * 2 ^ (2 * slot) % 4294967296
    → codes / 16777216 ≡ 85 → slot + 4 ≤ 16
four_left word slot codes same ones =
    ⊎_elim
    (λ (within : slot + 3 < 16). omega (arith, within))
    (λ (late : 16 ≤ slot + 3).
    let fourth : codes * 2 ^ (2 * 3) % 4294967296 ≡ 0 = codes_by codes word slot 3 same ∙ none_left word (slot + 3) late in
    absurd (omega (arith, fourth, ones))) (cases_lt (slot + 3) 16)

-- the highest code after k shifts
highest : (codes k : ℕ) → codes / 16777216 ≡ 85 → k < 4 → codes * 2 ^ (2 * k) % 4294967296 / 1073741824 ≡ 1
highest codes zero ones less = omega (arith, ones)
highest codes (suc zero) ones less = omega (arith, ones)
highest codes (suc (suc zero)) ones less = omega (arith, ones)
highest codes (suc (suc (suc zero))) ones less = omega (arith, ones)
highest codes (suc (suc (suc (suc k)))) ones less = absurd (omega (arith, less))

pub codes_are_ones : (order : Order) (area : List ℕ) (frame slot codes : ℕ) → 1 ≤ slot → 3 ≤ 16 * frame + slot
    → codes ≡ whole_word order area (16 * frame) * 2 ^ (2 * slot) % 4294967296 → codes / 16777216 ≡ 85
    → (k : ℕ) → k < 4 → word_code order area (16 * frame + slot + k) ≡ 1
codes_are_ones order area frame slot codes some late same ones k less =
    let word = whole_word order area (16 * frame) in
    let within : slot + 4 ≤ 16 = four_left word slot codes same ones in
    let number : 16 * frame + (slot + k) ≡ 16 * frame + slot + k = omega arith in
    ap (word_code order area) (sym number)
    ∙ sym (code_here order area frame (slot + k) (codes * 2 ^ (2 * k) % 4294967296) (omega (arith, some))
    (omega (arith, within, less)) (omega (arith, late)) (codes_by codes word slot k same)) ∙ highest codes k ones less

-- ---- four words of code 1 of a frame

-- they stand at this slot, and the codes of the words from it on are the highest bits of `codes`
pub record AreOnes (order : Order) (area : List ℕ) (frame slot codes : ℕ) : Type 0 where
  pub big : order ≡ Big
  pub fits : (k : ℕ) → Fits w8 (get_or area k 0)
  pub within : frame < length area / 64
  pub some : 1 ≤ slot
  pub late : 3 ≤ 16 * frame + slot
  pub same : codes ≡ whole_word order area (16 * frame) * 2 ^ (2 * slot) % 4294967296
  pub ones : codes / 16777216 ≡ 85

-- their bytes lie in the area
pub ones_within : (order : Order) (area : List ℕ) (frame slot codes : ℕ) → AreOnes order area frame slot codes
    → (slot + 4 ≤ 16) × (16 * frame + slot + 4 ≤ word_count area) × (4 * (16 * frame + slot) + 16 ≤ length area)
ones_within order area frame slot codes are =
    let few : slot + 4 ≤ 16 = four_left (whole_word order area (16 * frame)) slot codes are.same are.ones in
    (few, omega (arith, few, are.within), omega (arith, few, are.within))

length-sixteen : (area : List ℕ) (number : ℕ) → 4 * number + 16 ≤ length area
    → length (map (signed_of 8) (take 16 (drop (4 * number) area))) ≡ 16
length-sixteen area number within = length-map (take 16 (drop (4 * number) area)) (signed_of 8)
    ∙ length-chunk (4 * number) 16 area within

abbrev bytes_after : List ℕ → ℕ → ℕ → List ℤ
bytes_after area frame slot = map (signed_of 8) (take 16 (drop (4 * (16 * frame + slot)) area))

ones_hold : (version : Version) (order : Order) (area : List ℕ) (frame slot codes : ℕ)
    → AreOnes order area frame slot codes
    → HoldFrom version order area (16 * frame + slot) (byte_groups area (16 * frame + slot) 4)
ones_hold version Big area frame slot codes are =
    byte_groups_hold version area (16 * frame + slot) 4 are.fits
    (omega (arith, (ones_within Big area frame slot codes are).2))
    (codes_are_ones Big area frame slot codes are.some are.late are.same are.ones)
ones_hold version Little area frame slot codes are = absurd (cc are.big)

pub four_place : (area : List ℕ) (frame slot : ℕ) (at next : Progress) (old new : List ℤ)
    → 4 * (16 * frame + slot) + 16 ≤ length area → AreSumsWritten (bytes_after area frame slot) at old new next
    → next.place ≡ at.place + 16
four_place area frame slot at next old new within written = written.place
    ∙ ap (λ n. at.place + n) (length-sixteen area (16 * frame + slot) within)

pub four_reached : (version : Version) (order : Order) (area : List ℕ) (frame slot codes : ℕ) (at next : Progress)
    (old new : List ℤ) → AreOnes order area frame slot codes → IsReached version order area (16 * frame + slot) at old
    → (at.place ≡ 0 → BeginsAfter version order area at.last)
    → AreSumsWritten (bytes_after area frame slot) at old new next
    → length new ≡ length old → at.place + 16 < length old
    → IsReached version order area (16 * frame + (slot + 4)) next new
four_reached version order area frame slot codes at next old new are reached begins written same room =
    let number = 16 * frame + slot in
    let groups = byte_groups area number 4 in
    let bytes : joined_groups groups ≡ bytes_after area frame slot = differences_of_bytes area number 4 in
    let further : number + length groups ≡ 16 * frame + (slot + 4) = omega arith in
    let within = ones_within order area frame slot codes are in
    let place : next.place ≡ at.place + 16 = four_place area frame slot at next old new within.2 written in
    subst (λ n. IsReached version order area n next new) further
    (reached_on version order area number groups at next old new reached begins
    (subst (λ ds. AreSumsWritten ds at old new next) (sym bytes) written)
    (ones_hold version order area frame slot codes are) within.1 same (omega (arith, place, room, same)))

pub four_passed : (version : Version) (order : Order) (area : List ℕ) (frame slot codes count left : ℕ)
    (at next : Progress) (old new : List ℤ) → AreOnes order area frame slot codes
    → ArePassed version order area (16 * frame + slot) count left at.last → at.place ≡ 0
    → AreSumsWritten (bytes_after area frame slot) at old new next → 16 ≤ length new → 16 < left
    → ArePassed version order area (16 * frame + (slot + 4)) count (left - 16) next.last
four_passed version order area frame slot codes count left at next old new are passed zeroth written room few =
    let number = 16 * frame + slot in
    let groups = byte_groups area number 4 in
    let bytes : joined_groups groups ≡ bytes_after area frame slot = differences_of_bytes area number 4 in
    let further : number + length groups ≡ 16 * frame + (slot + 4) = omega arith in
    let within = ones_within order area frame slot codes are in
    let place : next.place ≡ 16 = four_place area frame slot at next old new within.2 written
    ∙ ap (λ n. n + 16) zeroth in
    subst (λ n. ArePassed version order area n count (left - 16) next.last) further
    (subst (λ n. ArePassed version order area (number + length groups) count (left - n) next.last) place
    (passed_all version order area number count left groups at next old new passed zeroth
    (subst (λ ds. AreSumsWritten ds at old new next) (sym bytes) written)
    (ones_hold version order area frame slot codes are) within.1
    (omega (arith, place, room)) (omega (arith, place)) (omega (arith, place, few))))
