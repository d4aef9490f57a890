-- Which samples the written data areas carry.
use Rattle.std.proofs.Common.{◌≡◌, ℕ, zero, suc, ◌+◌, ◌-◌, ◌*◌, ◌/◌, ◌%◌, ◌^◌, ◌<◌, ◌≤◌, ℤ, pos, negsuc, ◌-ℤ◌, List, [], ◌∷◌, length, map, refl, sym, ap, ◌∙◌, arith, Option, Some, None, FitsSigned}
use Rattle.std.specs.Prelude.{All, get_or, slice_get, slice_index_or}
use Rattle.std.specs.Int.{w32}
use Rattle.std.proofs.lemmas.Int.{ints}
use Rattle.std.proofs.Math.Pow.{pow_mono}
use Rattle.std.proofs.Common.{inl, inr}
use Rattle.std.proofs.lemmas.Bool.{cases_lt}
use Rattle.msr_base.specs.declared.order.Order.TheVariants.{Big}
use Rattle.msr_steim.specs.Area.{joined_groups as joined, CarriesSteim, ReverseAgrees as FramesAgree}
use Rattle.msr_steim.specs.Frames.{differences_after, frame_bytes}
use Rattle.msr_steim.proofs.Filled.{filled_carries, filled_reverse}
use Rattle.msr_plain.specs.Plain.{FitsWidth}
use Rattle.msr_steim.specs.Word.{AreGroups}
use Rattle.msr_base.specs.Storage.{size_of}
use Rattle.msr_base.specs.declared.storage.Width.{Width}
use Rattle.msr_base.specs.declared.storage.Width.TheVariants.{Two as TwoBytes, Three as ThreeBytes, Four as FourBytes}
use Rattle.msr_base.specs.declared.storage.Version.{Version}
use Rattle.msr_words.specs.Fit.{Fits, IsInteger}
use Rattle.msr_base.specs.RecordLength.{least_exponent, most_exponent, words_of}
use Rattle.msr_words.specs.Segment.{differences, points, points_after}
use Rattle.msr_base.specs.declared.kinds.Kind.{Kind}
use Rattle.msr_words.proofs.Runs.{integers_points, length-points_before}

fits_width : (width : Width) (z : ℤ) → FitsSigned w32 z → IsInteger width z → FitsWidth width z
fits_width TwoBytes (pos n) range h = omega (arith, ints, h)
fits_width TwoBytes (negsuc n) range h = omega (arith, ints, h)
fits_width ThreeBytes (pos n) range h = h
fits_width ThreeBytes (negsuc n) range h = h
fits_width FourBytes z range h = range

-- the samples of a run of integers that fit
pub samples_fit : (width : Width) (before : Option ℤ) (xs : List ℤ) → All (FitsSigned w32) xs
    → All (λ (p : ℤ × ℤ). IsInteger width p.0) (points before xs) → All (FitsWidth width) xs
samples_fit width before xs range h =
    let all = (integers_points width before xs).1 h in
    λ k d in'. fits_width width (get_or xs k d) (range k d in') (all k d in')

-- and the room for them
pub room_left : (width : Width) (size : ℕ) (before : Option ℤ) (xs : List ℤ)
    → size_of width * length (points before xs) + 64 ≤ size → size_of width * length xs ≤ size - 64
room_left width size before xs room =
    let same = ap (λ n. size_of width * n) (length-points_before before xs) in
    omega (arith, room, same)

-- the differences of a run are those from the sample before it, or from its first sample
after_differences : (before : ℤ) (xs : List ℤ)
    → map (λ (p : ℤ × ℤ). p.1) (points_after before xs) ≡ differences_after before xs
after_differences before [] = refl
after_differences before (x ∷ xs) = ap (λ (ds : List ℤ). (x -ℤ before) ∷ ds) (after_differences x xs)

itself : (x : ℤ) → pos 0 ≡ x -ℤ x
itself x = omega (arith, ints)

abbrev pub base_of : Option ℤ → List ℤ → ℤ
base_of None xs = slice_index_or xs 0 (pos 0)
base_of (Some before) xs = before

pub differences_from_base : (before : Option ℤ) (xs : List ℤ)
    → differences before xs ≡ differences_after (base_of before xs) xs
differences_from_base None [] = refl
differences_from_base None (x ∷ xs) = rw (← itself x) (ap (λ (ds : List ℤ). pos 0 ∷ ds) (after_differences x xs))
differences_from_base (Some before) xs = after_differences before xs

-- the header of a record can count the samples that fit it
pub few_samples : (kind : Kind) (size : ℕ) (before : Option ℤ) (xs : List ℤ) → Fits kind size (points before xs)
    → length xs < 2 ^ 16
few_samples kind size before xs fits = omega (arith, fits.0, length-points_before before xs)

-- a record's data area is whole frames
pub whole_frames : (exponent : ℕ) → least_exponent ≤ exponent → exponent ≤ most_exponent
    → ((2 ^ exponent - 64) % 64 ≡ 0) × ((2 ^ exponent - 64) / 64 ≡ 2 ^ exponent / 64 - 1) × (256 ≤ 2 ^ exponent)
whole_frames exponent low high = by_number exponent (exponent - 8) (omega arith) (omega arith)
  where
    by_number : (exponent k : ℕ) → k ≤ 8 → exponent ≡ 8 + k
        → ((2 ^ exponent - 64) % 64 ≡ 0) × ((2 ^ exponent - 64) / 64 ≡ 2 ^ exponent / 64 - 1) × (256 ≤ 2 ^ exponent)
    by_number exponent zero h e = rw e (refl, refl, omega arith)
    by_number exponent (suc zero) h e = rw e (refl, refl, omega arith)
    by_number exponent (suc (suc zero)) h e = rw e (refl, refl, omega arith)
    by_number exponent (suc (suc (suc zero))) h e = rw e (refl, refl, omega arith)
    by_number exponent (suc (suc (suc (suc zero)))) h e = rw e (refl, refl, omega arith)
    by_number exponent (suc (suc (suc (suc (suc zero))))) h e = rw e (refl, refl, omega arith)
    by_number exponent (suc (suc (suc (suc (suc (suc zero)))))) h e = rw e (refl, refl, omega arith)
    by_number exponent (suc (suc (suc (suc (suc (suc (suc zero))))))) h e = rw e (refl, refl, omega arith)
    by_number exponent (suc (suc (suc (suc (suc (suc (suc (suc zero)))))))) h e = rw e (refl, refl, omega arith)
    by_number exponent (suc (suc (suc (suc (suc (suc (suc (suc (suc k))))))))) h e = absurd (omega arith)

last_at : (d : ℤ) (xs : List ℤ) (i : ℕ) → i < length xs → slice_get xs i ≡ Some (slice_index_or xs i d)
last_at d [] i h = absurd (omega arith)
last_at d (x ∷ xs) zero h = refl
last_at d (x ∷ xs) (suc i) h = last_at d xs i (omega arith)

-- the last of some samples
pub last_sample : (xs : List ℤ) → 1 ≤ length xs
    → slice_get xs (length xs - 1) ≡ Some (slice_index_or xs (length xs - 1) (pos 0))
last_sample xs h = last_at (pos 0) xs (length xs - 1) (omega arith)

-- the area of canonical groups carries the samples
pub frames_carry : (version : Version) (before : Option ℤ) (xs : List ℤ) (groups : List (List ℤ)) (frames : ℕ)
    (area : List ℕ) → AreGroups version groups → joined groups ≡ differences before xs
    → length groups + 2 ≤ 15 * frames → All (FitsSigned w32) xs
    → FitsSigned w32 (slice_index_or xs (length xs - 1) (pos 0))
    → area ≡ frame_bytes version (slice_index_or xs 0 (pos 0))
    (slice_index_or xs (length xs - 1) (pos 0)) groups frames → CarriesSteim version Big area xs
frames_carry version before xs groups frames area are join room fit last e =
    rw e (filled_carries version (base_of before xs)
    (slice_index_or xs (length xs - 1) (pos 0)) groups xs frames are room
    (join ∙ differences_from_base before xs) fit last)

-- and its reverse constant is the last of them
pub frames_end : (version : Version) (xs : List ℤ) (groups : List (List ℤ)) (frames : ℕ) (area : List ℕ)
    → 1 ≤ length xs → AreGroups version groups → 0 < frames → FitsSigned w32 (slice_index_or xs 0 (pos 0))
    → FitsSigned w32 (slice_index_or xs (length xs - 1) (pos 0))
    → area ≡ frame_bytes version (slice_index_or xs 0 (pos 0))
    (slice_index_or xs (length xs - 1) (pos 0)) groups frames → FramesAgree Big area xs
frames_end version xs groups frames area some are more first last e =
    rw e (last_sample xs some ∙ sym (ap (λ (z : ℤ). Some z)
    (filled_reverse version (slice_index_or xs 0 (pos 0))
    (slice_index_or xs (length xs - 1) (pos 0)) groups frames are more first last)))

-- the exponent of a record's length
pub exponent_bounds : (size exponent : ℕ) → size ≡ 2 ^ exponent → 2 ^ least_exponent ≤ size
    → size ≤ 2 ^ most_exponent → (least_exponent ≤ exponent) × (exponent ≤ most_exponent)
exponent_bounds size exponent e low high = (
  elim (cases_lt exponent least_exponent) [
    | inl small ↦ absurd (let most : 2 ^ exponent ≤ 2 ^ (least_exponent - 1) =
        pow_mono {i = exponent} {j = least_exponent - 1} (omega (arith, small)) in omega (arith, most, e, low))
    | inr large ↦ large
  ],
  elim (cases_lt most_exponent exponent) [
    | inl large ↦ absurd (let least : 2 ^ (most_exponent + 1) ≤ 2 ^ exponent =
        pow_mono {i = most_exponent + 1} {j = exponent} large in omega (arith, least, e, high))
    | inr small ↦ small
  ],
)

-- a data area has room for as many groups as the record's length allows
pub room_for : (size exponent bytes groups : ℕ) → size ≡ 2 ^ exponent → bytes ≡ size → least_exponent ≤ exponent
    → exponent ≤ most_exponent → groups ≤ words_of size → groups + 2 ≤ 15 * ((bytes - 64) / 64)
room_for size exponent bytes groups es eb low high few =
    let whole = whole_frames exponent low high in
    let frames : (bytes - 64) / 64 ≡ size / 64 - 1 = rw (eb, es) whole.1 in
    let least : 256 ≤ size = rw es whole.2 in
    rw frames (omega (arith, few, least))
