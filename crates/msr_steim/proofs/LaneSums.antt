-- The sums of eight lanes, and how they are written.
use Rattle.std.proofs.Common.{◌≡◌, ◌<◌, ◌≤◌, ℕ, zero, suc, ◌+◌, ◌-◌, ◌*◌, ◌/◌, ◌%◌, ℤ, pos, negsuc, ◌+ℤ◌, List, [], ◌∷◌, ◌++◌, length, take, map, refl, sym, ap, ◌∙◌, subst, arith, length-append, w16, w32, to_z, of_z, SFits, get_or, replicate, lit<, lit≤, ◌≤ℤ◌}
use Rattle.std.specs.Prelude.{IfSome}
use Rattle.std.specs.Int.{int_wrap}
use Rattle.std.specs.List.{AllByRecursion}
use Rattle.std.proofs.Math.Nat.{mod-lt, mod-add-mod, pow-le-pow_right}
use Rattle.std.proofs.lemmas.Int.{ints, int_wrap_fits, int_wrap-add_left, SFits-int_wrap, to_z-of_z, wrapping_add_is, wrapping_add_onto}
use Rattle.std.proofs.lemmas.List.{length-map, length-take, take-take, take_all}
use Rattle.std.proofs.lemmas.Simd.{map-map, zip2_splat_left, take_more_put_chunk, get_or-put_chunk_at, length-replicate}
use lib.Lanes.{Each1, zip2, pick_l, put_chunk}
use Rattle.std.proofs.Math.Seq.{take-append-add, take-append_seam}
use Rattle.std.proofs.Math.IntN.{+ℤ_assoc}
use Rattle.msr_steim.specs.Area.{sums_after}
use Rattle.msr_steim.specs.Sums.{IsGroupWritten, sums_from}
use Rattle.msr_steim.specs.Word.{FitsBits, layout_of, numbers_in}
use Rattle.msr_steim.specs.declared.sums.Progress.{Progress}
use Rattle.msr_base.specs.declared.storage.Version.TheVariants.{Two}
use Rattle.msr_steim.proofs.Decoding.{length-sums_after}
use Rattle.msr_steim.proofs.InLanes.{HasThree, by_key}
use Rattle.msr_steim.proofs.Shifts.{length-numbers_in, numbers_fit}
use Rattle.msr_steim.proofs.Summing.{take_sums_after}

-- ---- sums of sixteen bits

-- from -k to k
abbrev pub Within : ℕ → ℤ → Type 0
Within k z = (z ≤ℤ pos k) × (pos 0 ≤ℤ (z +ℤ pos k))

within_add : (j k : ℕ) (a b : ℤ) → Within j a → Within k b → Within (j + k) (a +ℤ b)
within_add j k a b f g = (omega (arith, ints, f.0, g.0), omega (arith, ints, f.1, g.1))

within_bits : (z : ℤ) → FitsBits 10 z → Within 512 z
within_bits (pos n) fits = (omega (arith, ints, fits), omega (arith, ints, fits))
within_bits (negsuc n) fits = (omega (arith, ints, fits), omega (arith, ints, fits))

fits_within : (k : ℕ) (z : ℤ) → k ≤ 32767 → Within k z → SFits w16 z
fits_within k (pos n) small within = record { sfits = omega (arith, ints, within.0) }
fits_within k (negsuc n) small within = record { sfits = omega (arith, ints, within.1) }

-- one more sum
added : (n k : ℕ) (s b : ℤ) → to_z w16 (n % 65536) ≡ s → Within k s → k + 512 ≤ 32767 → FitsBits 10 b
    → to_z w16 ((n + of_z w16 b) % 65536) ≡ s +ℤ b
added n k s b is within small fits =
    let b_within = within_bits b fits in
    ap (to_z w16) (sym (mod-add-mod n 65536 (of_z w16 b)))
    ∙ wrapping_add_onto w16 (n % 65536) b (mod-lt n (lit< tt)) (fits_within 512 b (lit≤ tt) b_within)
    ∙ ap (λ z. int_wrap w16 (z +ℤ b)) is
    ∙ int_wrap_fits w16 (s +ℤ b) (fits_within (k + 512) (s +ℤ b) small (within_add k 512 s b within b_within))

abbrev bit_sums : ℕ → List ℕ → List ℕ
bit_sums n [] = []
bit_sums n (x ∷ xs) = (n + x) ∷ bit_sums (n + x) xs

sums_of_bits : (n k : ℕ) (s : ℤ) (ds : List ℤ) → to_z w16 (n % 65536) ≡ s → Within k s → k + 512 * length ds ≤ 32767
    → AllByRecursion (FitsBits 10) ds
    → map (λ m. to_z w16 (m % 65536)) (bit_sums n (map (of_z w16) ds)) ≡ sums_from s ds
sums_of_bits n k s [] is within small fits = refl
sums_of_bits n k s (d ∷ ds) is within small fits =
    let next = added n k s d is within (omega (arith, small)) fits.0 in
    rw next (ap (λ l. (s +ℤ d) ∷ l) (sums_of_bits (n + of_z w16 d) (k + 512) (s +ℤ d) ds next
    (within_add k 512 s d within (within_bits d fits.0)) (omega (arith, small)) fits.1))

pub sums_fit : (k : ℕ) (s : ℤ) (ds : List ℤ) → Within k s → k + 512 * length ds ≤ 32767
    → AllByRecursion (FitsBits 10) ds → Each1 (SFits w16) (sums_from s ds)
sums_fit k s [] within small fits = tt
sums_fit k s (d ∷ ds) within small fits =
    let next = within_add k 512 s d within (within_bits d fits.0) in (
      fits_within (k + 512) (s +ℤ d) (omega (arith, small)) next,
      sums_fit (k + 512) (s +ℤ d) ds next (omega (arith, small)) fits.1,
    )

-- each lane and the lane that is so far below it
abbrev onto : List ℕ → List ℕ → List ℕ
onto xs positions = zip2 (λ a b. (a + b) % 65536) xs (pick_l 0 (replicate 8 0 ++ xs) positions)

abbrev in_three_steps : List ℕ → List ℕ
in_three_steps xs =
    onto (onto (onto xs (0 ∷ 8 ∷ 9 ∷ 10 ∷ 11 ∷ 12 ∷ 13 ∷ 14 ∷ []))
    (0 ∷ 1 ∷ 8 ∷ 9 ∷ 10 ∷ 11 ∷ 12 ∷ 13 ∷ [])) (0 ∷ 1 ∷ 2 ∷ 3 ∷ 8 ∷ 9 ∷ 10 ∷ 11 ∷ [])

same_sums : (xs : List ℕ) → length xs ≡ 8 → in_three_steps xs ≡ map (λ n. n % 65536) (bit_sums 0 xs)
same_sums (a ∷ b ∷ c ∷ d ∷ e ∷ f ∷ g ∷ h ∷ []) size =
    cons (omega arith) (cons (omega arith) (cons (omega arith) (cons (omega arith)
    (cons (omega arith) (cons (omega arith) (cons (omega arith) (cons (omega arith) refl)))))))
  where
    cons : {x y : ℕ} {xs ys : List ℕ} → x ≡ y → xs ≡ ys → x ∷ xs ≡ y ∷ ys
    cons {x} {y} {xs} {ys} e f = ap (λ z. z ∷ xs) e ∙ ap (λ zs. y ∷ zs) f
same_sums xs size = absurd (omega (arith, size))

pub summed : (ds : List ℤ) → length ds ≡ 8 → AllByRecursion (FitsBits 10) ds
    → map (to_z w16) (in_three_steps (map (of_z w16) ds)) ≡ sums_from (pos 0) ds
summed ds size fits =
    ap (map (to_z w16)) (same_sums (map (of_z w16) ds) (length-map ds (of_z w16) ∙ size))
    ∙ map-map (to_z w16) (λ n. n % 65536) (bit_sums 0 (map (of_z w16) ds))
    ∙ sums_of_bits 0 0 (pos 0) ds refl (omega (arith, ints), omega (arith, ints)) (omega (arith, size)) fits

-- ---- the numbers of a word, and zeros after them

abbrev pub FillLanes : ℕ → ℕ → List ℤ → Type 0
FillLanes word key ds =
    IfSome (layout_of Two (key / 4) (key % 4)) (λ layout.
    ds ≡ numbers_in word layout.width layout.count ++ replicate (8 - layout.count) (pos 0))

-- a number of fewer bits has no more than ten
pub ten_bits : (width : ℕ) → width ≤ 10 → (z : ℤ) → FitsBits width z → FitsBits 10 z
ten_bits width small (pos n) fits = omega (arith, fits, pow-le-pow_right {n = 2} (lit< tt) {i = width - 1} {j = 9} (omega arith))
ten_bits width small (negsuc n) fits = omega (arith, fits, pow-le-pow_right {n = 2} (lit< tt) {i = width - 1} {j = 9} (omega arith))

pub small_lanes : (word key : ℕ) (ds : List ℤ) → HasThree key → FillLanes word key ds → AllByRecursion (FitsBits 10) ds
small_lanes word key ds three =
    by_key (λ k. FillLanes word k ds → AllByRecursion (FitsBits 10) ds) (fill 8 4 (lit≤ tt) (lit< tt))
    (fill 8 4 (lit≤ tt) (lit< tt)) (fill 8 4 (lit≤ tt) (lit< tt)) (fill 8 4 (lit≤ tt) (lit< tt))
    (fill 10 3 (lit≤ tt) (lit< tt)) (fill 6 5 (lit≤ tt) (lit< tt)) (fill 5 6 (lit≤ tt) (lit< tt))
    (fill 4 7 (lit≤ tt) (lit< tt)) key three
  where
    zeros : (n : ℕ) → AllByRecursion (FitsBits 10) (replicate n (pos 0))
    zeros zero = tt
    zeros (suc n) = (lit< tt, zeros n)

    both : (width : ℕ) → width ≤ 10 → (ns : List ℤ) (n : ℕ) → AllByRecursion (FitsBits width) ns
        → AllByRecursion (FitsBits 10) (ns ++ replicate n (pos 0))
    both width small [] n fits = zeros n
    both width small (z ∷ ns) n fits = (ten_bits width small z fits.0, both width small ns n fits.1)

    fill : (width count : ℕ) → width ≤ 10 → 0 < width
        → ds ≡ numbers_in word width count ++ replicate (8 - count) (pos 0) → AllByRecursion (FitsBits 10) ds
    fill width count small positive same =
        subst (AllByRecursion (FitsBits 10)) (sym same) (both width small (numbers_in word width count) (8 - count)
        (numbers_fit word width count positive))

pub same_bits : (ds : List ℤ) → AllByRecursion (FitsBits 10) ds → map (to_z w16) (map (of_z w16) ds) ≡ ds
same_bits [] small = refl
same_bits (d ∷ ds) small =
    rw (to_z-of_z w16 d (fits_within 512 d (lit≤ tt) (within_bits d small.0))) (ap (λ l. d ∷ l) (same_bits ds small.1))

-- the casts to 32 bits
wider : (x : ℤ) → SFits w16 x → SFits w32 x
wider x fits = record { sfits = omega (arith, fits.sfits) }

pub casts_fit : (xs : List ℤ) → Each1 (SFits w16) xs → Each1 (λ a. SFits w32 (to_z w16 a)) (map (of_z w16) xs)
casts_fit [] fits = tt
casts_fit (x ∷ xs) fits =
    (subst (SFits w32) (sym (to_z-of_z w16 x fits.0)) (wider x fits.0), casts_fit xs fits.1)

-- ---- the samples

abbrev pub samples_of_lanes : ℤ → List ℤ → List ℤ
samples_of_lanes last sums =
    map (to_z w32) (zip2 (λ a b. (a + b) % 4294967296) (replicate 8 (of_z w32 last))
    (map (λ a. of_z w32 (to_z w16 a)) (map (of_z w16) sums)))

abbrev sample : ℤ → ℤ → ℤ
sample last x = to_z w32 ((of_z w32 last + of_z w32 (to_z w16 (of_z w16 x))) % 4294967296)

each_sample : (last s : ℤ) (ds : List ℤ) → SFits w32 last → Each1 (SFits w16) (sums_from s ds)
    → map (sample last) (sums_from s ds) ≡ sums_after (int_wrap w32 (last +ℤ s)) ds
each_sample last s [] last_fits fits = refl
each_sample last s (d ∷ ds) last_fits fits =
    let x = s +ℤ d in
    let one : sample last x ≡ int_wrap w32 (last +ℤ x) =
    ap (λ z. to_z w32 ((of_z w32 last + of_z w32 z) % 4294967296)) (to_z-of_z w16 x fits.0)
    ∙ wrapping_add_is w32 last x last_fits (wider x fits.0) in
    let next : int_wrap w32 (last +ℤ x) ≡ int_wrap w32 (int_wrap w32 (last +ℤ s) +ℤ d) =
    ap (int_wrap w32) (sym (+ℤ_assoc last s d)) ∙ sym (int_wrap-add_left w32 (last +ℤ s) d) in
    ap (λ z. z ∷ map (sample last) (sums_from x ds)) (one ∙ next)
    ∙ ap (λ l. int_wrap w32 (int_wrap w32 (last +ℤ s) +ℤ d) ∷ l)
    (each_sample last x ds last_fits fits.1 ∙ ap (λ z. sums_after z ds) next)

no_more : (v : ℤ) → SFits w32 v → int_wrap w32 (v +ℤ pos 0) ≡ v
no_more v fits = ap (int_wrap w32) (omega (arith, ints)) ∙ int_wrap_fits w32 v fits

length-sums_from : (s : ℤ) (ds : List ℤ) → length (sums_from s ds) ≡ length ds
length-sums_from s [] = refl
length-sums_from s (d ∷ ds) = ap suc (length-sums_from (s +ℤ d) ds)

pub samples_are : (last : ℤ) (ds : List ℤ) → SFits w32 last → length ds ≡ 8 → AllByRecursion (FitsBits 10) ds
    → samples_of_lanes last (sums_from (pos 0) ds) ≡ sums_after last ds
samples_are last ds last_fits size small =
    let sums = sums_from (pos 0) ds in
    let fits = sums_fit 0 (pos 0) ds (omega (arith, ints), omega (arith, ints)) (omega (arith, size)) small in
    let wide = map (λ a. of_z w32 (to_z w16 a)) (map (of_z w16) sums) in
    let wide_is : wide ≡ map (λ x. of_z w32 (to_z w16 (of_z w16 x))) sums =
    map-map (λ a. of_z w32 (to_z w16 a)) (of_z w16) sums in
    let long : length wide ≡ 8 = ap length wide_is
    ∙ length-map sums (λ x. of_z w32 (to_z w16 (of_z w16 x))) ∙ length-sums_from (pos 0) ds ∙ size in
    ap (map (to_z w32)) (zip2_splat_left (λ a b. (a + b) % 4294967296) (of_z w32 last) 8 wide long
    ∙ ap (map (λ b. (of_z w32 last + b) % 4294967296)) wide_is)
    ∙ ap (map (to_z w32)) (map-map (λ b. (of_z w32 last + b) % 4294967296) (λ x. of_z w32 (to_z w16 (of_z w16 x))) sums)
    ∙ map-map (to_z w32) (λ x. (of_z w32 last + of_z w32 (to_z w16 (of_z w16 x))) % 4294967296) sums
    ∙ each_sample last (pos 0) ds last_fits fits ∙ ap (λ z. sums_after z ds) (no_more last last_fits)

pub sample_fits : (v : ℤ) (ds : List ℤ) (i : ℕ) → SFits w32 (get_or (sums_after v ds) i (pos 0))
sample_fits v [] zero = record { sfits = lit< tt }
sample_fits v [] (suc i) = record { sfits = lit< tt }
sample_fits v (d ∷ ds) zero = SFits-int_wrap w32 (v +ℤ d)
sample_fits v (d ∷ ds) (suc i) = sample_fits (int_wrap w32 (v +ℤ d)) ds i

-- zeros after the numbers change no sum
steady : (v : ℤ) (n i : ℕ) → SFits w32 v → i ≤ n → get_or (v ∷ sums_after v (replicate n (pos 0))) i (pos 0) ≡ v
steady v n zero fits le = refl
steady v zero (suc i) fits le = absurd (omega (arith, le))
steady v (suc n) (suc i) fits le =
    ap (λ w. get_or (w ∷ sums_after w (replicate n (pos 0))) i (pos 0)) (no_more v fits)
    ∙ steady v n i fits (omega (arith, le))

last_steady : (v : ℤ) (ds : List ℤ) (n : ℕ) → SFits w32 v
    → get_or (v ∷ sums_after v (ds ++ replicate n (pos 0))) (n + length ds) (pos 0)
    ≡ get_or (v ∷ sums_after v (ds ++ replicate n (pos 0))) (length ds) (pos 0)
last_steady v [] n fits = ap (λ k. get_or (v ∷ sums_after v (replicate n (pos 0))) k (pos 0)) zero_more ∙ steady v n n fits (omega arith)
  where
    zero_more : n + 0 ≡ n
    zero_more = omega arith
last_steady v (d ∷ ds) n fits =
    ap (λ k. get_or (v ∷ sums_after v (d ∷ ds ++ replicate n (pos 0))) k (pos 0)) one_more
    ∙ last_steady (int_wrap w32 (v +ℤ d)) ds n (SFits-int_wrap w32 (v +ℤ d))
  where
    one_more : n + suc (length ds) ≡ suc (n + length ds)
    one_more = omega arith

-- ---- the word

pub eight_lanes : (word key : ℕ) (ds : List ℤ) → HasThree key → FillLanes word key ds → length ds ≡ 8
eight_lanes word key ds three =
    by_key (λ k. FillLanes word k ds → length ds ≡ 8) (fill 8 4 refl) (fill 8 4 refl) (fill 8 4 refl) (fill 8 4 refl)
    (fill 10 3 refl) (fill 6 5 refl) (fill 5 6 refl) (fill 4 7 refl) key three
  where
    fill : (width count : ℕ) → count + (8 - count) ≡ 8
        → ds ≡ numbers_in word width count ++ replicate (8 - count) (pos 0) → length ds ≡ 8
    fill width count whole same =
        ap length same ∙ omega (
          arith,
          whole,
          length-append (numbers_in word width count) (replicate (8 - count) (pos 0)),
          length-numbers_in word width count,
          length-replicate (8 - count) (pos 0),
        )

group_of : (word count width : ℕ) (at : Progress) (out ds : List ℤ) (next : Progress) → 0 < count → count < 8
    → ds ≡ numbers_in word width count ++ replicate (8 - count) (pos 0) → at.place + 8 ≤ length out → SFits w32 at.last
    → next.place ≡ at.place + count → next.last ≡ get_or (sums_after at.last ds) 7 (pos 0)
    → IsGroupWritten word count width at out (put_chunk at.place out (sums_after at.last ds)) next
group_of word count width at out ds next some few same room fits place last =
    let numbers = numbers_in word width count in
    let sums = sums_after at.last ds in
    let new = put_chunk at.place out sums in
    let counted : length numbers ≡ count = length-numbers_in word width count in
    let eight : length sums ≡ 8 = length-sums_after at.last ds ∙ ap length same ∙ omega (
      arith,
      length-append numbers (replicate (8 - count) (pos 0)),
      counted,
      length-replicate (8 - count) (pos 0),
      few,
    ) in
    let stored : take (at.place + 8) new ≡ take at.place out ++ sums =
    take_more_put_chunk at.place out sums (at.place + 8) (omega (arith, eight)) room in
    let before : length (take at.place out) ≡ at.place = length-take at.place out ∙ omega (arith, room) in
    let whole : length (take at.place out) + count ≡ next.place = omega (arith, before, place) in
    let within : next.place ≤ at.place + 8 = omega (arith, place, few) in
    let of_numbers : take count ds ≡ numbers = ap (take count) same
    ∙ ap (λ n. take n (numbers ++ replicate (8 - count) (pos 0))) (sym counted)
    ∙ take-append_seam numbers (replicate (8 - count) (pos 0)) in
    let first : take count sums ≡ sums_after at.last numbers = take_sums_after count at.last ds
    ∙ ap (sums_after at.last) of_numbers in
    let taken : take next.place new ≡ take at.place out ++ sums_after at.last numbers =
    sym (take-take next.place (at.place + 8) new within) ∙ ap (take next.place) stored
    ∙ ap (λ n. take n (take at.place out ++ sums)) (sym whole) ∙ take-append-add (take at.place out) sums count
    ∙ ap (λ l. take at.place out ++ l) first in
    let size : length (take at.place out ++ sums_after at.last numbers) ≤ length out =
    omega (
      arith,
      length-append (take at.place out) (sums_after at.last numbers),
      before,
      length-sums_after at.last numbers,
      counted,
      room,
      few,
    ) in
    let index : at.place + (count - 1) ≡ next.place - 1 = omega (arith, place, some) in
    let lane : count - 1 < length sums = omega (arith, eight, few, some) in
    let end : at.place + length sums ≤ length out = omega (arith, eight, room) in
    record {
      place = place;
      room = omega (arith, place, few, room);
      samples = taken ∙ sym (take_all (length out) (take at.place out ++ sums_after at.last numbers) size);
      last = last ∙ same_last ∙ sym (get_or-put_chunk_at at.place out sums (count - 1) (pos 0) lane end)
          ∙ ap (λ i. get_or new i (pos 0)) index;
    }
  where
    same_last : get_or (sums_after at.last ds) 7 (pos 0) ≡ get_or (sums_after at.last ds) (count - 1) (pos 0)
    same_last =
        let numbers = numbers_in word width count in
        let counted : length numbers ≡ count = length-numbers_in word width count in
        let all : (8 - count) + length numbers ≡ suc 7 = omega (arith, counted, few) in
        let one : length numbers ≡ suc (count - 1) = omega (arith, counted, some) in
        let l = at.last ∷ sums_after at.last (numbers ++ replicate (8 - count) (pos 0)) in
        let e : get_or l (suc 7) (pos 0) ≡ get_or l (suc (count - 1)) (pos 0) =
        ap (λ n. get_or l n (pos 0)) (sym all) ∙ last_steady at.last numbers (8 - count) fits
        ∙ ap (λ n. get_or l n (pos 0)) one in
        ap (λ ns. get_or (sums_after at.last ns) 7 (pos 0)) same ∙ e
        ∙ ap (λ ns. get_or (sums_after at.last ns) (count - 1) (pos 0)) (sym same)

-- how many numbers, by the key
abbrev counts : List ℕ
counts = 0 ∷ 0 ∷ 0 ∷ 0 ∷ 4 ∷ 4 ∷ 4 ∷ 4 ∷ 0 ∷ 0 ∷ 0 ∷ 3 ∷ 5 ∷ 6 ∷ 7 ∷ 0 ∷ []

abbrev pub IsLayoutWritten : ℕ → ℕ → Progress → List ℤ → List ℤ → Progress → Type 0
IsLayoutWritten word key at old new next =
    IfSome (layout_of Two (key / 4) (key % 4)) (λ layout.
    IsGroupWritten word layout.count layout.width at old new next)

lanes_written : (word key : ℕ) (at : Progress) (out ds : List ℤ) (next : Progress) → HasThree key → FillLanes word key ds
    → at.place + 8 ≤ length out → SFits w32 at.last → next.place ≡ at.place + get_or counts key 0
    → next.last ≡ get_or (sums_after at.last ds) 7 (pos 0)
    → IsLayoutWritten word key at out (put_chunk at.place out (sums_after at.last ds)) next
lanes_written word key at out ds next three fill room fits place last =
    by_key (λ k. FillLanes word k ds → next.place ≡ at.place + get_or counts k 0
    → IsLayoutWritten word k at out (put_chunk at.place out (sums_after at.last ds)) next)
    (of 4 8 (lit< tt) (lit< tt)) (of 4 8 (lit< tt) (lit< tt)) (of 4 8 (lit< tt) (lit< tt)) (of 4 8 (lit< tt) (lit< tt))
    (of 3 10 (lit< tt) (lit< tt)) (of 5 6 (lit< tt) (lit< tt)) (of 6 5 (lit< tt) (lit< tt)) (of 7 4 (lit< tt) (lit< tt))
    key three fill place
  where
    of : (count width : ℕ) → 0 < count → count < 8
        → ds ≡ numbers_in word width count ++ replicate (8 - count) (pos 0) → next.place ≡ at.place + count
        → IsGroupWritten word count width at out (put_chunk at.place out (sums_after at.last ds)) next
    of count width some few same at_count = group_of word count width at out ds next some few same room fits at_count last

-- what the code writes
pub all_lanes_written : (word key : ℕ) (at : Progress) (out ds sums : List ℤ) (next : Progress) → HasThree key
    → FillLanes word key ds → sums ≡ sums_from (pos 0) (map (to_z w16) (map (of_z w16) ds))
    → at.place + 8 ≤ length out → SFits w32 at.last → next.place ≡ at.place + get_or counts key 0
    → next.last ≡ to_z w32 (of_z w32 (get_or (samples_of_lanes at.last sums) 7 (pos 0)))
    → IsLayoutWritten word key at out (put_chunk at.place out (samples_of_lanes at.last sums)) next
all_lanes_written word key at out ds sums next three fill sums_is room fits place last =
    let small = small_lanes word key ds three fill in
    let exact : samples_of_lanes at.last sums ≡ sums_after at.last ds =
    ap (samples_of_lanes at.last) (sums_is ∙ ap (sums_from (pos 0)) (same_bits ds small))
    ∙ samples_are at.last ds fits (eight_lanes word key ds three fill) small in
    subst (λ l. IsLayoutWritten word key at out (put_chunk at.place out l) next) (sym exact)
    (lanes_written word key at out ds next three fill room fits place
    (last ∙ ap (λ l. to_z w32 (of_z w32 (get_or l 7 (pos 0)))) exact
    ∙ to_z-of_z w32 (get_or (sums_after at.last ds) 7 (pos 0)) (sample_fits at.last ds 7)))

pub small_casts : (word key : ℕ) (ds sums : List ℤ) → HasThree key → FillLanes word key ds
    → sums ≡ sums_from (pos 0) (map (to_z w16) (map (of_z w16) ds))
    → Each1 (λ a. SFits w32 (to_z w16 a)) (map (of_z w16) sums)
small_casts word key ds sums three fill sums_is =
    let small = small_lanes word key ds three fill in
    let exact : sums ≡ sums_from (pos 0) ds = sums_is ∙ ap (sums_from (pos 0)) (same_bits ds small) in
    casts_fit sums (subst (Each1 (SFits w16)) (sym exact) (sums_fit 0 (pos 0) ds
    (omega (arith, ints), omega (arith, ints)) (omega (arith, eight_lanes word key ds three fill)) small))
