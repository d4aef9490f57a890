-- The laws of each kind: what a run begins with fits, and a part after a cut fits with a few of the samples before it.
use Rattle.std.specs.Prelude.{◌≡◌, ℕ, ◌+◌, ◌-◌, ◌*◌, ◌/◌, ◌<◌, ◌≤◌, ◌⊎◌, ℤ, List, [], ◌∷◌, ◌++◌, length, drop, map, All}
use Rattle.std.proofs.Common.{arith, length-append, subst, refl, sym, ap, ◌∙◌, inl, inr}
use Rattle.std.proofs.lemmas.List.{take_at, drop_at, drop_all, map-append, length-drop, length-map, drop-map}
use Rattle.std.proofs.lemmas.List.Elements.{All-nil, All-take, All-drop}
use Rattle.std.proofs.lemmas.Nat.{le-div}
use Rattle.std.proofs.Math.Nat.{mul-le-mul_left, mul_comm}
use Rattle.msr_base.specs.declared.kinds.Kind.{Kind}
use Rattle.msr_base.specs.declared.kinds.Kind.TheVariants.{Int16, Int24, Int32}
use Rattle.msr_base.specs.declared.storage.Version.{Version}
use Rattle.msr_base.specs.declared.storage.Storage.{Storage}
use Rattle.msr_base.specs.declared.storage.Storage.TheVariants.{Integers, Frames}
use Rattle.msr_base.specs.declared.storage.Version.TheVariants.{One, Two}
use Rattle.msr_base.specs.declared.storage.Width.{Width}
use Rattle.msr_base.specs.declared.storage.Width.TheVariants.{Two as TwoBytes, Three as ThreeBytes, Four as FourBytes}
use Rattle.msr_base.specs.Storage.{size_of, storage_of}
use Rattle.msr_words.specs.Division.{CanDivide}
use Rattle.msr_words.specs.Laws.{PrefixLaw, BackStepLaw, SizeLaw, TrackerLaws, largest_of, look_back_of, most_of, places_in, places_of, room_of}
use Rattle.msr_words.specs.Trackers.{integers}
use Rattle.msr_words.specs.Lemmas.SteimLaws.{prefix_law, back_step_law, size_law, none_divides}
use Rattle.msr_words.specs.Fit.{FitsIntegers, FitsSteim, HasRoom, Fits, IsInteger}
use Rattle.msr_base.specs.RecordLength.{words_of}

-- if `many` samples of `size` bytes have room, fewer do
fewer_have_room : (size bytes few many : ℕ) → few ≤ many → size * many + 64 ≤ bytes → size * few + 64 ≤ bytes
fewer_have_room size bytes few many less room = let bytes_less = mul-le-mul_left size less in omega arith

prefix_integers : (width : Width) (bytes : ℕ) → PrefixLaw (FitsIntegers width bytes)
prefix_integers width bytes front back h = (
  subst (All (λ p. IsInteger width p.0)) (take_at front back (length front) refl)
      (All-take (λ p. IsInteger width p.0) (length front) (front ++ back) h.0),
  fewer_have_room (size_of width) bytes (length front) (length (front ++ back))
      (omega (arith, length-append front back)) h.1,
)

-- each part after a cut fits by itself
back_step_integers : (width : Width) (bytes : ℕ) → BackStepLaw 0 (FitsIntegers width bytes)
back_step_integers width bytes front back h =
    let none : drop (length front) front ≡ [] = drop_all (length front) front (omega arith) in
    let part : FitsIntegers width bytes back = (
      subst (All (λ p. IsInteger width p.0)) (drop_at front back (length front) refl)
          (All-drop (λ p. IsInteger width p.0) (length front) (front ++ back) h.0),
      fewer_have_room (size_of width) bytes (length back) (length (front ++ back))
          (omega (arith, length-append front back)) h.1,
    ) in
    (length front, omega arith, omega arith, subst (λ xs. FitsIntegers width bytes (xs ++ back)) (sym none) part)

-- a list is empty or has a last member
abbrev pub LastOf : List ℤ → Type 0
LastOf xs = (xs ≡ []) ⊎ ((ys : List ℤ) × (y : ℤ) × (xs ≡ ys ++ y ∷ []))

pub last_of : (xs : List ℤ) → LastOf xs
last_of [] = inl refl
last_of (x ∷ xs) = elim (last_of xs) [
  | inl e ↦ inr ([], x, ap (λ r. x ∷ r) e)
  | inr e ↦ inr (x ∷ e.0, e.1, ap (λ r. x ∷ r) e.2)
]

pub front_divides : (version : Version) (n : ℕ) (front back : List ℤ) → CanDivide version n (front ++ back)
    → CanDivide version n front
front_divides version n front back can = elim (last_of front) [
  | inl e ↦ subst (CanDivide version n) (sym e) (none_divides version n)
  | inr e ↦ subst (CanDivide version n) (sym e.2)
      (prefix_law version n e.0 back e.1 (subst (λ f. CanDivide version n (f ++ back)) e.2 can))
]

-- the two laws of divisions, by how many differences are left
BackPart : Version → ℕ → List ℤ → List ℤ → Type 0
BackPart version n front back = (k : ℕ) × (k ≤ length front) × (length front ≤ k + places_of version)
    × CanDivide version n (drop k front ++ back)

back_part : (version : Version) (n : ℕ) (front back : List ℤ) → CanDivide version n (front ++ back)
    → BackPart version n front back
unfolding BackPart
back_part version n front [] can =
    let none : drop (length front) front ≡ [] = drop_all (length front) front (omega arith) in (
      length front,
      omega arith,
      omega arith,
      subst (λ r. CanDivide version n (r ++ [])) (sym none)
          (none_divides version n),
    )
back_part version n front (x ∷ xs) can =
    let step = back_step_law version n front (x ∷ xs) can (omega arith) in
    let long : length front ≡ length step.before + length step.near = ap length step.join
    ∙ length-append step.before step.near in
    let near : drop (length step.before) front ≡ step.near = ap (drop (length step.before)) step.join
    ∙ drop_at step.before step.near (length step.before) refl in
    let few = step.few in
    (length step.before, omega arith, omega arith, subst (λ r. CanDivide version n (r ++ x ∷ xs)) (sym near) step.can)

pub prefix_steim : (version : Version) (bytes : ℕ) → PrefixLaw (FitsSteim version bytes)
prefix_steim version bytes front back h =
    front_divides version (words_of bytes) (map (λ p. p.1) front) (map (λ p. p.1) back)
    (subst (CanDivide version (words_of bytes)) (map-append (λ (p : ℤ × ℤ). p.1) front back) h)

pub back_step_steim : (version : Version) (bytes : ℕ) → BackStepLaw (places_of version) (FitsSteim version bytes)
unfolding BackPart
back_step_steim version bytes front back h =
    let r = back_part version (words_of bytes) (map (λ p. p.1) front) (map (λ p. p.1) back)
    (subst (CanDivide version (words_of bytes)) (map-append (λ (p : ℤ × ℤ). p.1) front back) h) in
    let long = length-map front (λ (p : ℤ × ℤ). p.1) in
    let same : drop r.0 (map (λ p. p.1) front) ++ map (λ p. p.1) back ≡ map (λ p. p.1) (drop r.0 front ++ back) =
    ap (λ l. l ++ map (λ (p : ℤ × ℤ). p.1) back) (drop-map (λ (p : ℤ × ℤ). p.1) r.0 front)
    ∙ sym (map-append (λ (p : ℤ × ℤ). p.1) (drop r.0 front) back) in
    let low = r.1 in
    let high = r.2 in
    (r.0, omega arith, omega arith, subst (CanDivide version (words_of bytes)) same r.3)

pub some_bytes : (width : Width) → 0 < size_of width
some_bytes TwoBytes = omega arith
some_bytes ThreeBytes = omega arith
some_bytes FourBytes = omega arith

size_integers : (width : Width) (bytes : ℕ) → SizeLaw ((bytes - 64) / size_of width) (FitsIntegers width bytes)
size_integers width bytes run h = le-div (length run) (bytes - 64) (size_of width) (some_bytes width)
    (omega (arith, mul_comm (length run) (size_of width), h.1))

pub size_steim : (version : Version) (bytes : ℕ)
    → SizeLaw (largest_of version * words_of bytes) (FitsSteim version bytes)
size_steim version bytes run h =
    let size = size_law version (words_of bytes) (map (λ p. p.1) run) h in
    let same = length-map run (λ (p : ℤ × ℤ). p.1) in
    subst (λ l. l ≤ largest_of version * words_of bytes) same size

-- if there is room for a header, an empty run fits
abbrev pub EmptyLaw : (ℕ → List (ℤ × ℤ) → Type 0) → Type 0
EmptyLaw fits = (bytes : ℕ) → 64 ≤ bytes → fits bytes []

empty_integers : (width : Width) → EmptyLaw (FitsIntegers width)
empty_integers width bytes h = (All-nil (λ p. IsInteger width p.0), omega (arith, h))

pub empty_steim : (version : Version) → EmptyLaw (FitsSteim version)
empty_steim version bytes h = none_divides version (words_of bytes)

-- the laws of the room, by how samples are stored
prefix_room : (storage : Storage) (bytes : ℕ) → PrefixLaw (HasRoom storage bytes)
prefix_room (Integers width) = prefix_integers width
prefix_room (Frames version) = prefix_steim version

back_step_room : (storage : Storage) (bytes : ℕ) → BackStepLaw (places_in storage) (HasRoom storage bytes)
back_step_room (Integers width) = back_step_integers width
back_step_room (Frames version) = back_step_steim version

size_room : (storage : Storage) (bytes : ℕ) → SizeLaw (room_of storage bytes) (HasRoom storage bytes)
size_room (Integers width) = size_integers width
size_room (Frames version) = size_steim version

empty_room : (storage : Storage) → EmptyLaw (HasRoom storage)
empty_room (Integers width) = empty_integers width
empty_room (Frames version) = empty_steim version

-- the laws, for each kind: if a run is cut, each part has no more samples to count
pub prefix_kind : (kind : Kind) (bytes : ℕ) → PrefixLaw (Fits kind bytes)
prefix_kind kind bytes front back h = (
  omega
      (arith, length-append front back, h.0),
  prefix_room (storage_of kind) bytes front back h.1,
)

pub back_step_kind : (kind : Kind) (bytes : ℕ) → BackStepLaw (look_back_of kind) (Fits kind bytes)
back_step_kind kind bytes front back h =
    let r = back_step_room (storage_of kind) bytes front back h.1 in
    let fewer = length-drop r.0 front in
    (r.0, r.1, r.2, (omega (arith, length-append front back, length-append (drop r.0 front) back, fewer, h.0), r.3))

pub size_kind : (kind : Kind) (bytes : ℕ) → SizeLaw (most_of kind bytes) (Fits kind bytes)
size_kind kind bytes run h = let room = size_room (storage_of kind) bytes run h.1 in omega (arith, h.0, room)

pub empty_kind : (kind : Kind) → EmptyLaw (Fits kind)
empty_kind kind bytes header = (omega arith, empty_room (storage_of kind) bytes header)

pub few_places : (storage : Storage) → places_in storage ≤ 1
few_places (Integers width) = omega arith
few_places (Frames One) = omega arith
few_places (Frames Two) = omega arith

-- the laws of the trackers
pub kind_laws : (kind : Kind) → TrackerLaws
    (look_back_of kind) (λ records. most_of kind records.bytes) (λ records. Fits kind records.bytes)
kind_laws kind = record {
  prefix = λ records. prefix_kind kind records.bytes;
  back_step = λ records. back_step_kind kind records.bytes;
  near = let few = few_places (storage_of kind) in omega arith;
  empty = λ records. empty_kind kind records.bytes;
  size = λ records. size_kind kind records.bytes;
}

pub integers_laws : (width : Width) → TrackerLaws 0 (λ records. most_of (integers width) records.bytes)
    (λ records. Fits (integers width) records.bytes)
integers_laws TwoBytes = kind_laws Int16
integers_laws ThreeBytes = kind_laws Int24
integers_laws FourBytes = kind_laws Int32
