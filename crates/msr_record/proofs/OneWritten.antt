-- What is written is determined.
use Rattle.std.proofs.Common.{◌≡◌, ℕ, ◌-◌, ◌^◌, ◌<◌, inl, inr, ℤ, List, ◌++◌, length, refl, sym, ap, ◌∙◌, arith, Option}
use Rattle.std.proofs.lemmas.Bool.{cases_lt}
use Rattle.std.proofs.Math.Pow.{pow-lt}
use Rattle.msr_time.specs.declared.btime.BTime.{BTime}
use Rattle.msr_time.proofs.TimeLemmas.{split_one}
use Rattle.msr_header.specs.Writing.{header_bytes}
use Rattle.msr_base.specs.declared.storage.Width.{Width}
use Rattle.msr_base.specs.declared.storage.Version.{Version}
use Rattle.msr_words.proofs.WrittenDivision.{one_chosen}
use Rattle.msr_words.specs.Segment.{differences}
use Rattle.msr_base.specs.declared.kinds.Kind.{Kind}
use Rattle.msr_base.specs.declared.storage.Storage.{Storage}
use Rattle.msr_base.specs.declared.storage.Storage.TheVariants.{Integers, Frames}
use Rattle.msr_base.specs.Storage.{storage_of}
use Rattle.msr_record.specs.Written.{AreFrames, AreNumbers, IsWrittenRecord, IsWrittenArea, frame_count, header_for}
use Rattle.msr_rows.specs.declared.row.Key.{Key}

not_below : (d e : ℕ) → 2 ^ d ≡ 2 ^ e → d < e → ⊥
not_below d e p l = let less : 2 ^ d < 2 ^ e = pow-lt l in omega (arith, less, p)

exponent_one : (d e : ℕ) → 2 ^ d ≡ 2 ^ e → d ≡ e
exponent_one d e p = elim (cases_lt d e) [
  | inl low ↦ absurd (not_below d e p low)
  | inr high ↦ elim (cases_lt e d) [
    | inl low ↦ absurd (not_below e d (sym p) low)
    | inr low ↦ omega (arith, high, low)
  ]
]

numbers_one : (width : Width) (samples : List ℤ) (size f g : ℕ) (a b : List ℕ) → AreNumbers width samples size f a
    → AreNumbers width samples size g b → (f ≡ g) × (a ≡ b)
numbers_one width samples size f g a b p q = (p.frames_are ∙ sym q.frames_are, p.bytes_are ∙ sym q.bytes_are)

frames_one : (version : Version) (before : Option ℤ) (samples : List ℤ) (size f g : ℕ) (a b : List ℕ)
    → AreFrames version before samples size f a → AreFrames version before samples size g b → (f ≡ g) × (a ≡ b)
frames_one version before samples size f g a b p q =
    let same : p.groups ≡ q.groups = one_chosen version p.groups q.groups
    (differences before samples) p.canonical q.canonical in (
      p.frames_are ∙ ap (λ (gs : List (List ℤ)). frame_count (length gs)) same ∙ sym q.frames_are,
      p.bytes_are ∙ rw same (sym q.bytes_are),
    )

area_one : (storage : Storage) (before : Option ℤ) (samples : List ℤ) (size f g : ℕ) (a b : List ℕ)
    → IsWrittenArea storage before samples size f a → IsWrittenArea storage before samples size g b
    → (f ≡ g) × (a ≡ b)
area_one (Integers width) before samples size f g a b p q = numbers_one width samples size f g a b p q
area_one (Frames version) before samples size f g a b p q = frames_one version before samples size f g a b p q

bytes_one : (key : Key) (t u : BTime) (m k sequence count d e f g : ℕ) (kind : Kind) (a b : List ℕ) → t ≡ u → m ≡ k
    → d ≡ e → f ≡ g → a ≡ b → header_bytes (header_for key t m sequence count kind d f)
    ++ a ≡ header_bytes (header_for key u k sequence count kind e g) ++ b
bytes_one key t u m k sequence count d e f g kind a b p q r s x = rw (p, q, r, s, x) refl

pub written_once : (bytes others : List ℕ) (key : Key) (start : ℤ) (sequence : ℕ) (before : Option ℤ)
    (samples : List ℤ) (kind : Kind) (size : ℕ) → IsWrittenRecord bytes key start sequence before samples kind size
    → IsWrittenRecord others key start sequence before samples kind size → bytes ≡ others
written_once bytes others key start sequence before samples kind size p q =
    let time = split_one start p.time q.time p.micros q.micros p.split q.split in
    let exponent = exponent_one p.power.exponent q.power.exponent (sym p.power.power ∙ q.power.power) in
    let area = area_one (storage_of kind) before samples (size - 64) p.frames q.frames p.area q.area p.is_area q.is_area in
    p.bytes_are ∙ bytes_one key p.time q.time p.micros q.micros sequence
    (length samples) p.power.exponent q.power.exponent p.frames q.frames kind p.area q.area time.0 time.1
    exponent area.0 area.1 ∙ sym q.bytes_are
