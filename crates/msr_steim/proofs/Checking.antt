-- Words that are looked at one after the other, without keeping their samples.
use Rattle.std.proofs.Common.{◌≡◌, ◌<◌, ◌≤◌, ℕ, zero, suc, ◌+◌, ◌-◌, ◌*◌, ◌/◌, ◌%◌, ◌^◌, ℤ, pos, List, [], ◌∷◌, ◌++◌, length, take, get_or, min, refl, sym, ap, ◌∙◌, subst, arith, Option, Some, None, Bool, IsTrue, ◌↔◌, slice_get, length-append, ⊎_elim}
use Rattle.std.specs.Prelude.{IfSome, IsSomeAnd}
use Rattle.std.proofs.Math.Seq.{take-append-add}
use Rattle.std.proofs.lemmas.List.{append-nil, get_or-append-add, get_or-take, length-take, take_all}
use Rattle.std.proofs.lemmas.Option.{slice_get-get_or}
use Rattle.msr_base.specs.declared.order.Order.{Order}
use Rattle.msr_steim.specs.declared.sums.Progress.{Progress}
use Rattle.msr_steim.specs.declared.word.WordLayout.{WordLayout}
use Rattle.msr_base.specs.declared.storage.Version.{Version}
use Rattle.msr_steim.specs.Area.{CarriesSteim, WordHolds, arranged_word, constant, joined_groups, samples_of, sums_after, whole_word, word_code, word_count}
use Rattle.msr_steim.specs.InOrder.{BeginsAfter, CarriesCount, differences_from}
use Rattle.msr_steim.specs.Sums.{IsInnerWritten, ReachesEnd}
use Rattle.msr_steim.specs.Word.{AreFields, IsUndefinedWord, layout_of, numbers_in}
use Rattle.msr_steim.proofs.Beginning.{begins_here, begins_on, code_here, held_in_order}
use Rattle.msr_steim.proofs.Decoding.{AreReadBelow, length-samples_of, read_enough, read_more}
use Rattle.msr_steim.proofs.InOrderLemmas.{numbers_are_fields}
use Rattle.msr_steim.proofs.OneList.{HasBits, has_bits, has_few}
use Rattle.msr_steim.proofs.OneOutcome.{samples_more}
use Rattle.msr_steim.proofs.Reading.{grown, held_so, no_samples}

-- ---- a word that is not written whole is undefined

no_layout : (word : ℕ) (o : Option WordLayout) → IfSome o HasBits → IfSome o (λ d. d.count ≤ 7)
    → ((group : List ℤ) → IsSomeAnd o (AreFields word group) → 8 ≤ length group) → o ≡ None
unfolding HasBits
no_layout word None bits few reaches = refl
no_layout word (Some d) bits few reaches =
    let fields : AreFields word (numbers_in word d.width d.count) d = numbers_are_fields word d.width d.count bits in
    absurd (omega (arith, reaches (numbers_in word d.width d.count) fields, fields.count, few))

pub undefined_alone : (version : Version) (code word n : ℕ) → 8 ≤ n → ReachesEnd version code word 0 n
    → IsUndefinedWord version code word
undefined_alone version code word n size ends =
    no_layout word (layout_of version code (word / 2 ^ 30)) (has_bits version code (word / 2 ^ 30))
    (has_few version code (word / 2 ^ 30))
    (λ group holds. omega (arith, size, ends.reaches group holds))

-- ---- one word alone

-- its samples stand at the first places
alone : (version : Version) (code word : ℕ) (at next : Progress) (old new : List ℤ) → at.place ≡ 0
    → length new ≡ length old → (inner : IsInnerWritten version code word at old new next)
    → take next.place new ≡ sums_after at.last inner.written.group
alone version code word at next old new zeroth same inner =
    let sums = sums_after at.last inner.written.group in
    let cut : take next.place new ≡ take (length old) sums =
    inner.written.samples ∙ ap (λ k. take (length old) (take k old ++ sums)) zeroth in
    let size : min next.place (length new) ≡ min (length old) (length sums) =
    sym (length-take next.place new) ∙ ap length cut ∙ length-take (length old) sums in
    cut ∙ take_all (length old) sums (omega (arith, size, same, inner.room))

-- ---- word after word

-- the words below `number` gave all but `left` of `count` samples, and `last` is the last one given
pub record ArePassed (version : Version) (order : Order) (area : List ℕ) (number count left : ℕ)
    (last : ℤ) : Type 0 where
  pub samples : List ℤ
  pub read : AreReadBelow version order area count number (constant order area 1) samples
  pub left_is : length samples + left ≡ count
  pub last_is : 0 < length samples → last ≡ get_or samples (length samples - 1) (pos 0)
  pub begins : length samples ≡ 0 → BeginsAfter version order area last

pub none_passed : (version : Version) (order : Order) (area : List ℕ) (count : ℕ) (last : ℤ) → 1 ≤ count
    → BeginsAfter version order area last → ArePassed version order area 0 count count last
none_passed version order area count last some begins = record {
  samples = [];
  read = record {
    groups = [];
    held = record { within = omega arith; each = λ n less. absurd (omega (arith, less)) };
    number_is = refl;
    few = omega (arith, some);
    sums = refl;
  };
  left_is = omega arith;
  last_is = λ more. absurd (omega (arith, more));
  begins = λ none. begins;
}

-- a word that was looked at
pub record IsLookedAt (version : Version) (order : Order) (area : List ℕ) (number code word : ℕ) (at next : Progress)
    (old new : List ℤ) : Type 0 where
  pub inner : IsInnerWritten version code word at old new next
  pub zeroth : at.place ≡ 0
  pub same : length new ≡ length old
  pub code_is : code ≡ word_code order area number
  pub word_is : word ≡ arranged_word version order code area number
  pub within : number < word_count area

pub looked_at : (version : Version) (order : Order) (area : List ℕ) (frame slot codes word : ℕ) (at next : Progress)
    (old new : List ℤ)
    → IsInnerWritten version (codes / 1073741824) word at old new next → at.place ≡ 0 → length new ≡ length old
    → 1 ≤ slot → slot < 16 → 3 ≤ 16 * frame + slot → frame < length area / 64
    → codes ≡ whole_word order area (16 * frame) * 2 ^ (2 * slot) % 4294967296
    → word ≡ arranged_word version order (codes / 1073741824) area (16 * frame + slot)
    → IsLookedAt version order area (16 * frame + slot) (codes / 1073741824) word at next old new
looked_at version order area frame slot codes word at next old new inner zeroth same some small late within
    codes_are word_is = record {
      inner = inner;
      zeroth = zeroth;
      same = same;
      code_is = code_here order area frame slot codes some small late codes_are;
      word_is = word_is;
      within = omega (arith, small, within);
    }

-- the last of two lists is that of the second
last_of_append : (xs ys : List ℤ) → 0 < length ys
    → slice_get (xs ++ ys) (length (xs ++ ys) - 1) ≡ slice_get ys (length ys - 1)
last_of_append xs ys some =
    let place : length (xs ++ ys) - 1 ≡ length xs + (length ys - 1) = omega (arith, length-append xs ys, some) in
    slice_get-get_or (xs ++ ys) (length (xs ++ ys) - 1) (pos 0) (omega (arith, length-append xs ys, some))
    ∙ ap Some (ap (λ k. get_or (xs ++ ys) k (pos 0)) place ∙ get_or-append-add xs ys (length ys - 1) (pos 0))
    ∙ sym (slice_get-get_or ys (length ys - 1) (pos 0) (omega (arith, some)))

-- the first of the first
take_first : {X : Type 0} (m n : ℕ) (xs : List X) → m ≤ n → take m (take n xs) ≡ take m xs
take_first zero n xs few = refl
take_first (suc m) zero xs few = absurd (omega (arith, few))
take_first (suc m) (suc n) [] few = refl
take_first (suc m) (suc n) (x ∷ xs) few = ap (λ ys. x ∷ ys) (take_first m n xs (omega (arith, few)))

module _ (version : Version) (order : Order) (area : List ℕ) (number count left code word : ℕ) (at next : Progress)
    (old new : List ℤ) (passed : ArePassed version order area number count left at.last)
    (looked : IsLookedAt version order area number code word at next old new) where
  abbrev group : List ℤ
  group = looked.inner.written.group

  abbrev sums : List ℤ
  sums = sums_after at.last group

  abbrev all : List ℤ
  all = passed.samples ++ sums

  holds : WordHolds version order area number group
  holds = held_so version order area number code word group looked.code_is looked.word_is looked.inner.written.holds

  all_is : (before : List ℤ) → passed.samples ≡ samples_of (constant order area 1) before
      → all ≡ samples_of (constant order area 1) (before ++ group)
  all_is before same =
      sym (grown (constant order area 1) at.last passed.samples group before passed.last_is
      (λ none. begins_here version order area count number passed.samples group at.last passed.read none
      (passed.begins none) looked.within holds) same)

  sums_are : take next.place new ≡ sums
  sums_are = alone version code word at next old new looked.zeroth looked.same looked.inner

  length-sums : length sums ≡ next.place
  length-sums = sym (ap length sums_are) ∙ length-take next.place new ∙ omega (arith, looked.inner.room, looked.same)

  length-all : length all ≡ length passed.samples + next.place
  length-all = length-append passed.samples sums ∙ ap (λ n. length passed.samples + n) length-sums

  -- the last sample is the one before, if the word has none
  last_new : 0 < next.place → next.last ≡ get_or all (length all - 1) (pos 0)
  last_new some =
      let place : length all - 1 ≡ length passed.samples + (next.place - 1) = omega (arith, length-all, some) in
      looked.inner.written.last (λ more. absurd (omega (arith, more, looked.zeroth))) some
      ∙ sym (get_or-take next.place new (next.place - 1) (pos 0) (omega (arith, some)))
      ∙ ap (λ xs. get_or xs (next.place - 1) (pos 0)) sums_are
      ∙ sym (get_or-append-add passed.samples sums (next.place - 1) (pos 0))
      ∙ ap (λ k. get_or all k (pos 0)) (sym place)

  -- and if it has none
  last_kept : next ≡ at → 0 < length all → next.last ≡ get_or all (length all - 1) (pos 0)
  last_kept same some =
      let none : next.place ≡ 0 = ap (λ (p : Progress). p.place) same ∙ looked.zeroth in
      let empty : sums ≡ [] = no_samples (pos 0) sums (length-sums ∙ none) in
      let whole : all ≡ passed.samples = ap (λ xs. passed.samples ++ xs) empty ∙ append-nil passed.samples in
      ap (λ (p : Progress). p.last) same ∙ passed.last_is (omega (arith, ap length whole, some))
      ∙ ap (λ xs. get_or xs (length xs - 1) (pos 0)) (sym whole)

  last_of_all : 0 < length all → next.last ≡ get_or all (length all - 1) (pos 0)
  last_of_all some =
      ⊎_elim (λ (same : next ≡ at). last_kept same some)
      (λ (more : at.place < next.place). last_new (omega (arith, more))) looked.inner.on

  begins_of_all : length all ≡ 0 → BeginsAfter version order area next.last
  begins_of_all none =
      begins_on version order area at next looked.inner.on
      (λ zeroth. passed.begins (omega (arith, length-all, none))) (omega (arith, length-all, none))

  -- samples are left
  pub passed_on : next.place < left → ArePassed version order area (number + 1) count (left - next.place) next.last
  passed_on few =
      let short : length all < count = omega (arith, length-all, passed.left_is, few) in
      record {
        samples = all;
        read = read_more version order area count number
            (constant order area 1) passed.samples all group passed.read looked.within holds
            (λ before same. sym (take_all count all (omega (arith, short))) ∙ ap (take count) (all_is before same))
            (λ e. omega (arith, e, short));
        left_is = omega (arith, length-all, passed.left_is, few);
        last_is = last_of_all;
        begins = begins_of_all;
      }

  -- none is left: what the places have up to the last sample is the end of the samples
  pub passed_enough : left ≤ next.place → (agrees : Bool) (last : List ℤ) → last ≡ take left new
      → (IsTrue agrees ↔ (slice_get last (length last - 1) ≡ Some (constant order area 2)))
      → CarriesCount version order area count agrees
  passed_enough enough agrees last last_is test =
      let size : length (take count all) ≡ count = length-take count all
      ∙ omega (arith, length-all, passed.left_is, enough) in
      let same : take count all ≡ passed.samples ++ last =
      ap (λ n. take n all) (sym passed.left_is) ∙ take-append-add passed.samples sums left
      ∙ ap (λ xs. passed.samples ++ take left xs) (sym sums_are)
      ∙ ap (λ xs. passed.samples ++ xs) (take_first left next.place new enough ∙ sym last_is) in
      let few : 0 < left = omega (
        arith,
        passed.left_is,
        passed.read.few,
        ap length passed.read.sums,
        length-samples_of (constant order area 1) (joined_groups passed.read.groups),
      ) in
      let some : 0 < length last =
      omega (arith, few, ap length last_is, length-take left new, enough, looked.inner.room, looked.same) in
      record {
        samples = take count all;
        carried = read_enough version order area count number passed.samples
            (take count all) group passed.read looked.within holds
            (λ before is. ap (take count) (all_is before is)) size;
        count_is = size;
        reverse = subst (λ o. IsTrue agrees ↔ (o ≡ Some (constant order area 2)))
            (sym (last_of_append passed.samples last some) ∙ ap (λ xs. slice_get xs (length xs - 1)) (sym same)) test;
      }

-- ---- the samples in order

-- they are those that the area carries
pub in_order_is : (version : Version) (order : Order) (area : List ℕ) (ds samples : List ℤ) (before : ℤ)
    → CarriesSteim version order area samples → differences_from version order area 0 ≡ ds
    → samples_of (constant order area 1) ds ≡ sums_after before ds
    → samples ≡ take (length samples) (sums_after before ds)
in_order_is version order area ds samples before c same begins =
    let first = constant order area 1 in
    let more = differences_from version order area (length c.groups) in
    let spread : differences_from version order area 0 ≡ joined_groups c.groups ++ more =
    held_in_order version order area c.groups (length c.groups) c.held (omega arith)
    ∙ ap (λ gs. joined_groups gs ++ more) (take_all (length c.groups) c.groups (omega arith)) in
    c.sums ∙ sym (samples_more first (joined_groups c.groups) more (length samples) c.enough)
    ∙ ap (λ xs. take (length samples) (samples_of first xs)) (sym spread ∙ same) ∙ ap (take (length samples)) begins
