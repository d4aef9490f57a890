-- The sums that are written for one word.
use Rattle.std.proofs.Common.{◌≡◌, ◌<◌, ◌≤◌, ℕ, zero, suc, ◌+◌, ◌-◌, ◌*◌, ◌/◌, ◌%◌, ◌^◌, ℤ, pos, negsuc, ◌+ℤ◌, List, [], ◌∷◌, ◌++◌, length, take, get_or, refl, sym, ap, ◌∙◌, subst, arith, w32, SFits, Some, length-append, lit<, inl, inr, min, ⊎_elim}
use Rattle.std.specs.Prelude.{IfSome, IsSomeAnd, MatchOption, Option, None, slice_index_or}
use Rattle.std.specs.Int.{int_wrap}
use Rattle.std.proofs.Math.Seq.{get_or-append_seam, take-append-add}
use Rattle.std.proofs.Math.Nat.{pow-zero, mod-lt}
use Rattle.std.proofs.lemmas.Bool.{cases_lt}
use Rattle.std.proofs.lemmas.List.{take_more, take_all, length-take, append-nil}
use Rattle.msr_steim.specs.declared.sums.Progress.{Progress}
use Rattle.msr_base.specs.declared.storage.Version.{Version}
use Rattle.msr_base.specs.declared.storage.Version.TheVariants.{Two}
use Rattle.msr_steim.specs.Area.{sums_after}
use Rattle.msr_steim.specs.Sums.{IsGroupWritten, IsInnerWritten, IsWritten, ReachesEnd}
use Rattle.msr_steim.specs.Word.{AreFields, FitsBits, Holds, layout_of, numbers_in}
use Rattle.msr_steim.specs.declared.word.WordLayout.{WordLayout}
use Rattle.msr_steim.proofs.OneList.{bits_of_fields}
use Rattle.msr_steim.proofs.Decoding.{length-sums_after, sums_after_push}
use Rattle.msr_steim.proofs.Fields.{half_bound}
use Rattle.msr_steim.proofs.Shifts.{are_fields}

-- a number of few bits fits 32 bits
pub fits_w32 : (width : ℕ) (z : ℤ) → width ≤ 32 → FitsBits width z → SFits w32 z
fits_w32 width (pos n) small fits = let bound : 2 ^ (width - 1) ≤ 2147483648 = half_bound width small in
    record { sfits = omega (arith, fits) }
fits_w32 width (negsuc n) small fits = let bound : 2 ^ (width - 1) ≤ 2147483648 = half_bound width small in
    record { sfits = omega (arith, fits) }

-- one more sum
pub one_more_sum : (before last d v : ℤ) (ds sums : List ℤ) (i : ℕ) → i < length ds
    → sums ≡ sums_after before (take i ds) → last ≡ get_or (before ∷ sums) i (pos 0) → get_or ds i (pos 0) ≡ d
    → v ≡ int_wrap w32 (last +ℤ d) → sums ++ v ∷ [] ≡ sums_after before (take (i + 1) ds)
one_more_sum before last d v ds sums i within same last_is d_is v_is =
    let es = take i ds in
    let size : length (sums_after before es) ≡ i = length-sums_after before es ∙ length-take i ds
    ∙ omega (arith, within) in
    let at : get_or (before ∷ sums_after before es) (length (sums_after before es)) (pos 0) ≡ last =
    ap (λ n. get_or (before ∷ sums_after before es) n (pos 0)) size
    ∙ ap (λ s. get_or (before ∷ s) i (pos 0)) (sym same) ∙ sym last_is in
    let next : int_wrap w32 (get_or (before ∷ sums_after before es) (length (sums_after before es))
    (pos 0) +ℤ get_or ds i (pos 0)) ≡ v = ap (λ z. int_wrap w32
    (z +ℤ get_or ds i (pos 0))) at ∙ ap (λ z. int_wrap w32 (last +ℤ z)) d_is ∙ sym v_is in
    ap (λ s. s ++ v ∷ []) same ∙ ap (λ z. sums_after before es ++ z ∷ []) (sym next)
    ∙ sym (sums_after_push before es (get_or ds i (pos 0)))
    ∙ ap (sums_after before) (sym (take_more ds i (pos 0) within))

-- which is the last
pub last_of_push : (before v : ℤ) (sums : List ℤ) (i j : ℕ) → length sums ≡ i → j ≡ suc i
    → v ≡ get_or (before ∷ (sums ++ v ∷ [])) j (pos 0)
last_of_push before v sums i j size next = rw (next, ← size) (sym (get_or-append_seam sums v [] (pos 0)))

-- fewer differences, fewer sums
pub take_sums_after : (n : ℕ) (before : ℤ) (ds : List ℤ) → take n (sums_after before ds) ≡ sums_after before (take n ds)
take_sums_after zero before ds = refl
take_sums_after (suc n) before [] = refl
take_sums_after (suc n) before (d ∷ ds) = ap (λ s. int_wrap w32 (before +ℤ d) ∷ s)
    (take_sums_after n (int_wrap w32 (before +ℤ d)) ds)

-- all sums have a place
pub all_written : (out new ds : List ℤ) (last : ℤ) (place m : ℕ) → new ≡ sums_after last (take m ds)
    → m ≡ length ds → place + length ds ≤ length out
    → take place out ++ new ≡ take (length out) (take place out ++ sums_after last ds)
all_written out new ds last place m same all within =
    let whole : new ≡ sums_after last ds = same ∙ ap (sums_after last) (take_all m ds (omega (arith, all))) in
    let size : length (take place out ++ sums_after last ds) ≤ length out =
    omega (
      arith,
      length-append (take place out) (sums_after last ds),
      length-take place out,
      length-sums_after last ds,
      within,
    ) in
    ap (λ s. take place out ++ s) whole ∙ sym (take_all (length out) (take place out ++ sums_after last ds) size)

-- the places end first
pub some_written : (out new ds : List ℤ) (last : ℤ) (place m : ℕ) → new ≡ sums_after last (take m ds)
    → place + m ≡ length out → take place out ++ new ≡ take (length out) (take place out ++ sums_after last ds)
some_written out new ds last place m same within =
    let size : length (take place out) ≡ place = length-take place out ∙ omega (arith, within) in
    let total : length (take place out) + m ≡ length out = omega (arith, size, within) in
    ap (λ s. take place out ++ s) (same ∙ sym (take_sums_after m last ds))
    ∙ sym (take-append-add (take place out) (sums_after last ds) m)
    ∙ ap (λ n. take n (take place out ++ sums_after last ds)) total

-- as many as there are, or as there are places for
pub far_written : (out new ds : List ℤ) (last : ℤ) (place m : ℕ) → new ≡ sums_after last (take m ds)
    → place + m ≡ min (length out) (place + length ds)
    → take place out ++ new ≡ take (length out) (take place out ++ sums_after last ds)
far_written out new ds last place m same far =
    ⊎_elim
    (λ (fewer : length out < place + length ds). some_written out new ds last place m same (omega (arith, far, fewer)))
    (λ (enough : place + length ds ≤ length out). all_written out new ds last place m same
    (omega (arith, far, enough)) enough) (cases_lt (length out) (place + length ds))

-- the layout of a word, by its code and its top two bits
pub divided : (version other : Version) (code top c t : ℕ) → version ≡ other → code ≡ c → top ≡ t
    → layout_of version code top ≡ layout_of other c t
divided version other code top c t e f g = ap (λ v. layout_of v code top) e ∙ ap (λ n. layout_of other n top) f
    ∙ ap (layout_of other c) g

-- a word that is laid out so was written
pub group_written : (version : Version) (code word : ℕ) (at : Progress) (old new : List ℤ) (next : Progress) (count width : ℕ)
    → layout_of version code (word / 2 ^ 30) ≡ Some (record { count = count; width = width }) → 0 < width
    → next.place ≤ length old
    → take next.place new ≡ take (length old) (take at.place old ++ sums_after at.last (numbers_in word width count))
    → next.last ≡ slice_index_or new (next.place - 1) (pos 0) → IsWritten version code word at old new next
group_written version code word at old new next count width layout positive within samples last = record {
  group = numbers_in word width count;
  holds = subst (λ d. IsSomeAnd d (AreFields word (numbers_in word width count))) (sym layout)
      (are_fields word width count positive);
  within = within;
  samples = samples;
  last = λ before some. last;
}

-- how a word of Steim-2 is laid out, by its code and its top two bits as one number
pub divided_by : (version : Version) (code word key : ℕ) → version ≡ Two → word < 4294967296
    → 4 * code + word / 1073741824 ≡ key
    → layout_of version code (word / 1073741824) ≡ layout_of Two (key / 4) (key % 4)
divided_by version code word key e small key_is =
    divided version Two code (word / 1073741824) (key / 4) (key % 4) e (omega arith) (omega arith)

-- and a place is left after it, if it was written whole
pub inner_group_written : (version : Version) (code word : ℕ) (at : Progress) (old new : List ℤ) (count width : ℕ)
    (next : Progress)
    → layout_of version code (word / 2 ^ 30) ≡ Some (record { count = count; width = width }) → 0 < count → 0 < width
    → IsGroupWritten word count width at old new next → IsInnerWritten version code word at old new next
inner_group_written version code word at old new count width next layout some positive written = record {
  written = group_written version code word at old new next count width layout positive
      (omega (arith, written.room)) written.samples written.last;
  room = written.room;
  on = inr (omega (arith, written.place));
}

-- or it has no room
pub inner_group_done : (version : Version) (code word : ℕ) (at : Progress) (old new : List ℤ) (count width : ℕ)
    (result : Option Progress)
    → layout_of version code (word / 2 ^ 30) ≡ Some (record { count = count; width = width }) → 0 < count → 0 < width
    → MatchOption result ((length old ≤ at.place + count) × (new ≡ old)) (IsGroupWritten word count width at old new)
    → MatchOption result (ReachesEnd version code word at.place (length old) × (new ≡ old))
    (IsInnerWritten version code word at old new)
inner_group_done version code word at old new count width None layout some positive (far, kept) = (
  record {
    reaches = λ group holds.
        omega (arith, far, (subst (λ d. IsSomeAnd d (AreFields word group)) layout holds).count);
  },
  kept,
)
inner_group_done version code word at old new count width (Some next) layout some positive written =
    inner_group_written version code word at old new count width next layout some positive written

-- the same of Steim-2
pub steim2_group_done : (version : Version) (code word key : ℕ) (at : Progress) (old new : List ℤ) (count width : ℕ)
    (result : Option Progress) → version ≡ Two → word < 4294967296 → 4 * code + word / 1073741824 ≡ key
    → layout_of Two (key / 4) (key % 4) ≡ Some (record { count = count; width = width }) → 0 < count → 0 < width
    → MatchOption result ((length old ≤ at.place + count) × (new ≡ old)) (IsGroupWritten word count width at old new)
    → MatchOption result (ReachesEnd version code word at.place (length old) × (new ≡ old))
    (IsInnerWritten version code word at old new)
steim2_group_done version code word key at old new count width result e small key_is layout =
    inner_group_done version code word at old new count width result (divided_by version code word key e small key_is ∙ layout)

-- a word with no fields holds nothing
pub holds_none : (version : Version) (code word : ℕ)
    → layout_of version code (word / 2 ^ 30) ≡ Some (record { count = 0; width = 0 }) → Holds version code word []
holds_none version code word layout = subst (λ d. IsSomeAnd d (AreFields word [])) (sym layout) fields
  where
    fields : AreFields word [] (record { count = 0; width = 0 })
    fields =
        let one : 2 ^ (0 * 0) ≡ 1 = ap (λ n. 2 ^ n) none ∙ pow-zero 2 in
        let small : word % 1 < 1 = mod-lt word (lit< tt) in
        let zero_left : word % 1 ≡ 0 = omega arith in
        record { count = refl; fit = tt; bits = ap (λ n. word % n) one ∙ zero_left }
      where
        none : 0 * 0 ≡ 0
        none = refl

-- and nothing is written for it
pub none_written : (version : Version) (code word : ℕ) (at : Progress) (out : List ℤ)
    → layout_of version code (word / 2 ^ 30) ≡ Some (record { count = 0; width = 0 }) → at.place < length out
    → IsWritten version code word at out out at
none_written version code word at out layout room = record {
  group = [];
  holds = holds_none version code word layout;
  within = omega (arith, room);
  samples = sym (ap (take (length out)) (append-nil (take at.place out))
      ∙ take_all (length out) (take at.place out) (omega (arith, length-take at.place out, room)));
  last = λ before some. before some;
}

pub inner_none_written : (version : Version) (code word : ℕ) (at : Progress) (out : List ℤ)
    → layout_of version code (word / 2 ^ 30) ≡ Some (record { count = 0; width = 0 }) → at.place < length out
    → IsInnerWritten version code word at out out at
inner_none_written version code word at out layout room =
    record { written = none_written version code word at out layout room; room = room; on = inl refl }

-- and so it is if its layout is known to have fields
pub laid_out_written : (version : Version) (code word : ℕ) (at : Progress) (old new : List ℤ) (next : Progress)
    (layout : Option WordLayout) → layout_of version code (word / 2 ^ 30) ≡ layout
    → IsSomeAnd layout (λ l. 3 ≤ l.count) → IfSome layout (λ l. IsGroupWritten word l.count l.width at old new next)
    → IsInnerWritten version code word at old new next
laid_out_written version code word at old new next None layout_is many written = absurd many
laid_out_written version code word at old new next (Some layout) layout_is many written =
    let some : 0 < layout.count = omega (arith, many) in
    inner_group_written version code word at old new layout.count layout.width next layout_is some
    (bits_of_fields version code (word / 2 ^ 30) layout layout_is some) written
