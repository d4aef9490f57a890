-- Bytes of an area that are differences, and how their sums are written.
use Rattle.std.proofs.Common.{◌≡◌, ◌<◌, ◌≤◌, ℕ, suc, ◌+◌, ◌-◌, ◌*◌, ◌/◌, ◌%◌, ◌^◌, ℤ, pos, List, [], ◌∷◌, ◌++◌, length, take, drop, map, refl, sym, ap, ◌∙◌, subst, arith, w8, w16, w32, Fits, to_z, of_z, SFits, get_or, replicate, lit<, lit≤, append_assoc}
use Rattle.std.specs.List.{AllByRecursion}
use Rattle.std.proofs.lemmas.Int.{to_z-of_z}
use Rattle.std.proofs.lemmas.List.{length-map, map-append, length-take, get_or-append-add, get_or-take, length-append}
use Rattle.std.proofs.lemmas.Simd.{below_from_Fits, chunk-fits, length-chunk, take_more_put_chunk, get_or-put_chunk_at}
use Rattle.std.proofs.Math.Seq.{take-add}
use lib.Seq.{drop-drop}
use lib.Lanes.{Each1, zip2, pick_l, put_chunk, number_l, digits_l}
use lib.Signed.{shr_z}
use Rattle.msr_steim.specs.Area.{sums_after}
use Rattle.msr_steim.specs.Sums.{AreSumsWritten, sums_from}
use Rattle.msr_steim.specs.Word.{FitsBits, signed_of}
use Rattle.msr_steim.specs.declared.sums.Progress.{Progress}
use Rattle.msr_steim.proofs.Decoding.{length-sums_after}
use Rattle.msr_steim.proofs.InLanes.{cons, halves_are, lane_is}
use Rattle.msr_steim.proofs.LaneSums.{same_bits, sample_fits, samples_are, samples_of_lanes, ten_bits}
use Rattle.msr_steim.proofs.Reading.{sums_after_append}
use Rattle.msr_steim.proofs.Shifts.{signed_fits}

-- ---- a byte as a number with a sign

-- the byte is the higher half of its lane, which is shifted down again
shifted_byte : ℕ → ℤ
shifted_byte half = to_z w16 (of_z w16 (shr_z (to_z w16 half) 256))

byte_is : (b : ℕ) → b < 256 → shifted_byte (0 + 256 * b) ≡ signed_of 8 b
unfolding shifted_byte
byte_is b small =
    let bits = 0 + 256 * b in
    let same : bits ≡ bits * 2 ^ 0 % 65536 = omega (arith, small) in
    let field : bits / 2 ^ 8 % 2 ^ 8 ≡ b = omega (arith, small) in
    ap (λ n. to_z w16 (of_z w16 (shr_z (to_z w16 n) 256))) same ∙ lane_is bits 8 8 0 (lit< tt) refl
    ∙ ap (signed_of 8) field

abbrev positions : List ℕ
positions = 0 ∷ 8 ∷ 0 ∷ 9 ∷ 0 ∷ 10 ∷ 0 ∷ 11 ∷ 0 ∷ 12 ∷ 0 ∷ 13 ∷ 0 ∷ 14 ∷ 0 ∷ 15 ∷ []

abbrev as_lanes : List ℕ → List ℤ
as_lanes halves_of = map (to_z w16)
    (zip2 (λ a b. of_z w16 (shr_z (to_z w16 a) (2 ^ b))) halves_of (replicate 8 8))

pub bytes_are : (bytes : List ℕ) → length bytes ≡ 8 → Each1 (λ b. b < 256) bytes
    → as_lanes (digits_l 65536 8 (number_l 256 (pick_l 0 (replicate 8 0 ++ bytes) positions))) ≡ map (signed_of 8) bytes
unfolding shifted_byte
bytes_are (a ∷ b ∷ c ∷ d ∷ e ∷ f ∷ g ∷ h ∷ []) size s =
    let raised = pick_l 0 (replicate 8 0 ++ (a ∷ b ∷ c ∷ d ∷ e ∷ f ∷ g ∷ h ∷ [])) positions in
    let below : Each1 (λ n. n < 256) raised =
    (lit< tt, (s.0, (lit< tt, (s.1.0, (lit< tt, (s.1.1.0, (lit< tt, (s.1.1.1.0, (lit< tt, (s.1.1.1.1.0, (lit< tt, (s.1.1.1.1.1.0, (lit< tt, (s.1.1.1.1.1.1.0, (lit< tt, (s.1.1.1.1.1.1.1.0, tt)))))))))))))))) in
    ap as_lanes (halves_are 8 raised refl below)
    ∙ cons (byte_is a s.0) (cons (byte_is b s.1.0) (cons (byte_is c s.1.1.0) (cons (byte_is d s.1.1.1.0)
    (cons (byte_is e s.1.1.1.1.0) (cons (byte_is f s.1.1.1.1.1.0) (cons (byte_is g s.1.1.1.1.1.1.0)
    (cons (byte_is h s.1.1.1.1.1.1.1.0) refl)))))))
bytes_are bytes size below = absurd (omega (arith, size))

pub small_bytes : (bytes : List ℕ) → Each1 (λ b. b < 256) bytes → AllByRecursion (FitsBits 10) (map (signed_of 8) bytes)
small_bytes [] below = tt
small_bytes (b ∷ bytes) below =
    (ten_bits 8 (lit≤ tt) (signed_of 8 b) (signed_fits 8 b (lit< tt) below.0), small_bytes bytes below.1)

-- eight bytes of an area
pub small_at : (from : ℕ) (area : List ℕ) → ((k : ℕ) → Fits w8 (get_or area k 0))
    → AllByRecursion (FitsBits 10) (map (signed_of 8) (take 8 (drop from area)))
small_at from area fits = small_bytes (take 8 (drop from area))
    (below_from_Fits w8 (take 8 (drop from area)) (chunk-fits w8 from 8 area fits))

pub eight_at : (from : ℕ) (area : List ℕ) → from + 8 ≤ length area
    → length (map (signed_of 8) (take 8 (drop from area))) ≡ 8
eight_at from area within = length-map (take 8 (drop from area)) (signed_of 8) ∙ length-chunk from 8 area within

-- ---- eight sums

pub eight_written : (at : Progress) (out ds sums : List ℤ) (next : Progress) → length ds ≡ 8
    → AllByRecursion (FitsBits 10) ds → sums ≡ sums_from (pos 0) (map (to_z w16) (map (of_z w16) ds))
    → at.place + 8 ≤ length out → SFits w32 at.last → next.place ≡ at.place + 8
    → next.last ≡ to_z w32 (of_z w32 (get_or (samples_of_lanes at.last sums) 7 (pos 0)))
    → AreSumsWritten ds at out (put_chunk at.place out (samples_of_lanes at.last sums)) next
eight_written at out ds sums next eight small sums_is room fits place last =
    let samples = sums_after at.last ds in
    let exact : samples_of_lanes at.last sums ≡ samples =
    ap (samples_of_lanes at.last) (sums_is ∙ ap (sums_from (pos 0)) (same_bits ds small))
    ∙ samples_are at.last ds fits eight small in
    let long : length samples ≡ 8 = length-sums_after at.last ds ∙ eight in
    let end : at.place + 7 ≡ next.place - 1 = omega (arith, place) in
    subst (λ l. AreSumsWritten ds at out (put_chunk at.place out l) next) (sym exact)
    (record {
      place = place ∙ ap (λ n. at.place + n) (sym eight);
      samples = take_more_put_chunk at.place out samples next.place (omega (arith, place, long)) (omega (arith, place, room));
      last = last ∙ ap (λ l. to_z w32 (of_z w32 (get_or l 7 (pos 0)))) exact
          ∙ to_z-of_z w32 (get_or samples 7 (pos 0)) (sample_fits at.last ds 7)
          ∙ sym (get_or-put_chunk_at at.place out samples 7 (pos 0) (omega (arith, long)) (omega (arith, long, room)))
          ∙ ap (λ i. get_or (put_chunk at.place out samples) i (pos 0)) end;
    })

-- ---- the sums of two lists, one after the other

-- the last of the first
last_of_sums : (ds : List ℤ) (at : Progress) (old new : List ℤ) (next : Progress) → AreSumsWritten ds at old new next
    → 0 < length ds → at.place ≤ length old → next.last ≡ get_or (at.last ∷ sums_after at.last ds) (length ds) (pos 0)
last_of_sums ds at old new next written some room =
    let front : length (take at.place old) ≡ at.place = length-take at.place old ∙ omega (arith, room) in
    let index : next.place - 1 ≡ length (take at.place old) + (length ds - 1) = omega (arith, front, written.place, some) in
    let one : suc (length ds - 1) ≡ length ds = omega (arith, some) in
    written.last ∙ sym (get_or-take next.place new (next.place - 1) (pos 0) (omega (arith, written.place, some)))
    ∙ ap (λ l. get_or l (next.place - 1) (pos 0)) written.samples
    ∙ ap (λ i. get_or (take at.place old ++ sums_after at.last ds) i (pos 0)) index
    ∙ get_or-append-add (take at.place old) (sums_after at.last ds) (length ds - 1) (pos 0)
    ∙ ap (λ i. get_or (at.last ∷ sums_after at.last ds) i (pos 0)) one

pub both_written : (ds es : List ℤ) (at : Progress) (old new : List ℤ) (half : Progress) (newer : List ℤ) (next : Progress)
    → 0 < length ds → at.place ≤ length old → AreSumsWritten ds at old new half → AreSumsWritten es half new newer next
    → AreSumsWritten (ds ++ es) at old newer next
both_written ds es at old new half newer next some room first second = record {
  place = omega (arith, first.place, second.place, length-append ds es);
  samples = second.samples ∙ ap (λ l. l ++ sums_after half.last es) first.samples
      ∙ append_assoc (take at.place old) (sums_after at.last ds) (sums_after half.last es)
      ∙ ap (λ z. take at.place old ++ (sums_after at.last ds ++ sums_after z es))
      (last_of_sums ds at old new half first some room)
      ∙ ap (λ l. take at.place old ++ l) (sym (sums_after_append at.last ds es));
  last = second.last;
}

-- sixteen bytes are eight and eight
pub sixteen_at : (from : ℕ) (area : List ℕ)
    → map (signed_of 8) (take 8 (drop from area)) ++ map (signed_of 8) (take 8 (drop (from + 8) area))
    ≡ map (signed_of 8) (take 16 (drop from area))
sixteen_at from area =
    ap (λ l. map (signed_of 8) (take 8 (drop from area)) ++ map (signed_of 8) (take 8 l)) (sym (drop-drop 8 from area))
    ∙ sym (map-append (signed_of 8) (take 8 (drop from area)) (take 8 (drop 8 (drop from area))))
    ∙ ap (map (signed_of 8)) (sym (take-add 8 8 (drop from area)))
