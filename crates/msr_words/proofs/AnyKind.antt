-- What follows from the laws of each kind: for integers of some bits, and for records of some of the kinds.
use Rattle.std.specs.Prelude.{◌≡◌, ℕ, ◌-◌, ◌/◌, ◌≤◌, ℤ, List, [], min, length, All}
use Rattle.std.proofs.Common.{arith, refl}
use Rattle.std.proofs.Math.Nat.{mul-div-le, mul-le-mul_left}
use Rattle.msr_base.proofs.KindLemmas.{int32_is_chosen}
use Rattle.msr_base.specs.declared.kinds.Kind.{Kind}
use Rattle.msr_base.specs.declared.kinds.Kind.TheVariants.{Int16, Int24, Int32, Steim1, Steim2}
use Rattle.msr_base.specs.declared.storage.Storage.TheVariants.{Integers}
use Rattle.msr_base.specs.declared.storage.Width.{Width}
use Rattle.msr_base.specs.declared.storage.Width.TheVariants.{Two as TwoBytes, Three as ThreeBytes}
use Rattle.msr_base.specs.Storage.{size_of, storage_of}
use Rattle.msr_words.specs.Bounds.{AreIntegers}
use Rattle.msr_words.specs.Fit.{FitsAny, FitsIn, FitsIntegers, IsInteger, Records, most_counted}
use Rattle.msr_words.specs.Laws.{BackStepLaw, PrefixLaw, SizeLaw, look_back_of, most_any, most_in, most_of, room_of}
use Rattle.msr_words.specs.Lemmas.KindLaws.{back_step_kind, empty_kind, few_places, prefix_kind, size_kind}

-- integers fit by their width and their number
pub fit_by_width : (width : Width) (bytes : ℕ) → 64 ≤ bytes → (run : List (ℤ × ℤ))
    → All (λ p. IsInteger width p.0) run → length run ≤ min (room_of (Integers width) bytes) most_counted
    → (length run ≤ most_counted) × FitsIntegers width bytes run
fit_by_width width bytes header run all few =
    let less : length run ≤ (bytes - 64) / size_of width = omega (arith, few) in
    let room = mul-le-mul_left (size_of width) less in
    let most = mul-div-le (bytes - 64) (size_of width) in
    (omega (arith, few), (all, omega (arith, room, most, header)))

pub int16_by_bits : (bytes : ℕ) → 64 ≤ bytes → AreIntegers Int16 16 bytes
int16_by_bits bytes header = record { takes = fit_by_width TwoBytes bytes header; needs = λ run h. h.1.0 }

pub int24_by_bits : (bytes : ℕ) → 64 ≤ bytes → AreIntegers Int24 24 bytes
int24_by_bits bytes header = record { takes = fit_by_width ThreeBytes bytes header; needs = λ run h. h.1.0 }

-- the laws for records of one kind
pub prefix_in : (kind : Kind) (records : Records) → PrefixLaw (FitsIn kind records)
prefix_in kind records front back h = (h.0, prefix_kind kind records.bytes front back h.1)

pub back_step_in : (kind : Kind) (records : Records) → BackStepLaw (look_back_of kind) (FitsIn kind records)
back_step_in kind records front back h =
    let r = back_step_kind kind records.bytes front back h.1 in
    (r.0, r.1, r.2, (h.0, r.3))

-- a look-back of more places serves too
back_step_more : (fits : List (ℤ × ℤ) → Type 0) (places more : ℕ) → places ≤ more → BackStepLaw places fits
    → BackStepLaw more fits
back_step_more fits places more le law front back h =
    let r = law front back h in
    let high = r.2 in
    (r.0, r.1, omega arith, r.3)

-- the laws for records of some of the kinds
pub prefix_any : (records : Records) → PrefixLaw (FitsAny records)
prefix_any records front back h = (h.0, prefix_in h.0 records front back h.1)

pub back_step_any : (records : Records) → BackStepLaw 1 (FitsAny records)
back_step_any records front back h =
    let r = back_step_more (FitsIn h.0 records) (look_back_of h.0) 1 (few_places (storage_of h.0))
    (back_step_in h.0 records) front back h.1 in
    (r.0, r.1, r.2, (h.0, r.3))

pub empty_any : (records : Records) → 64 ≤ records.bytes → FitsAny records []
empty_any records header = (Int32, (int32_is_chosen records.kinds, empty_kind Int32 records.bytes header))

within_any : (kind : Kind) (records : Records) → most_in kind records ≤ most_any records
within_any Int16 records = omega arith
within_any Int24 records = omega arith
within_any Int32 records = omega arith
within_any Steim1 records = omega arith
within_any Steim2 records = omega arith

pub size_any : (records : Records) → SizeLaw (most_any records) (FitsAny records)
size_any records run h =
    let size = size_kind h.0 records.bytes run h.1.1 in
    let same : most_in h.0 records ≡ most_of h.0 records.bytes = rw h.1.0 refl in
    let more = within_any h.0 records in
    omega arith

-- each run of at most four samples fits
abbrev pub FitsShort : (List (ℤ × ℤ) → Type 0) → Type 0
FitsShort fits = (run : List (ℤ × ℤ)) → length run ≤ 4 → fits run

-- a few samples fit a record of any of the lengths, as 32-bit integers
pub short_any : (records : Records) → 256 ≤ records.bytes → FitsShort (FitsAny records)
short_any records least run short =
    (Int32, (int32_is_chosen records.kinds, (omega arith, ((λ k d in'. tt), omega arith))))
