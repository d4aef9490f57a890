-- By the sizes of the first five differences.
use Rattle.std.proofs.Common.{arith, ◌<◌, ◌≤◌, ◌+◌, ℕ, ℤ, List, length, get_or, bit_or, lit<, refl}
use Rattle.std.specs.List.{AllByRecursion}
use Rattle.std.proofs.lemmas.Nat.{le_or_l}
use Rattle.msr_steim.specs.Word.{FitsBits}
use Rattle.msr_words.specs.Bounds.{IsBeforeFour}
use Rattle.msr_words.specs.FirstGroup.{IsCanonicalFirst, IsSizeAt}
use Rattle.msr_words.specs.Window.{AreSeen}
use Rattle.msr_words.proofs.Steim1Ahead.{before_four, four_behind, four_small, one_apart, two_before, two_few, two_large}
use Rattle.msr_words.proofs.TwoOrOne.{one_or_two, pair_fits}
use Rattle.msr_words.proofs.Windows.{size_seen}
use Rattle.msr_words.proofs.window.Window.first_steim1_group.Goals as goal

module _ (ds : List ℤ) (sizes : List ℕ) (kept : List ℤ) (place : ℕ) (seen : AreSeen ds sizes kept place) where
  h1 : IsSizeAt ds 0 (get_or sizes place 0)
  h1 = size_seen ds sizes kept place 0 place (omega arith) seen (lit< tt)

  at : (k : ℕ) → k < 7 → IsSizeAt ds k (get_or sizes (place + k) 0)
  at k less = size_seen ds sizes kept place k (place + k) refl seen less

  some : 0 < length ds
  some = let l = seen.long in omega arith

  abbrev one : ℕ
  one = get_or sizes place 0

  abbrev s : ℕ → ℕ
  s k = get_or sizes (place + k) 0

  single : AllByRecursion (FitsBits 32) ds → 32768 ≤ bit_or one (s 1) → IsCanonicalFirst ds 1
  single fits = one_apart ds one (s 1) h1 (at 1 (lit< tt)) fits some

  large : AllByRecursion (FitsBits 32) ds → bit_or one (s 1) < 32768 → 128 ≤ s 1 → IsCanonicalFirst ds 2
  large fits = two_large ds one (s 1) h1 (at 1 (lit< tt)) fits

  few : AllByRecursion (FitsBits 32) ds → bit_or one (s 1) < 32768 → 128 ≤ bit_or (bit_or (s 1) (s 2)) (s 3)
      → IsCanonicalFirst ds 2
  few fits small middle = two_few ds one (s 1) (s 2) (s 3) h1 (at 1 (lit< tt)) (at 2 (lit< tt))
      (at 3 (lit< tt)) fits small middle (λ e. let l = seen.long in omega arith)

  four : AllByRecursion (FitsBits 32) ds → one < 128 → bit_or (bit_or (s 1) (s 2)) (s 3) < 128 → IsCanonicalFirst ds 4
  four fits = four_small ds one (s 1) (s 2) (s 3) h1 (at 1 (lit< tt)) (at 2 (lit< tt)) (at 3 (lit< tt)) fits

  before : AllByRecursion (FitsBits 32) ds → bit_or one (s 1) < 32768 → 128 ≤ one → 128 ≤ s 4 → IsCanonicalFirst ds 2
  before fits = two_before ds one (s 1) (s 2) (s 3) (s 4) h1 (at 1 (lit< tt)) (at 2 (lit< tt)) (at 3 (lit< tt))
      (at 4 (lit< tt)) fits

  untold : bit_or one (s 1) < 32768 → 128 ≤ one → bit_or (bit_or (s 1) (s 2)) (s 3) < 128 → s 4 < 128 → IsBeforeFour ds
  untold = before_four ds one (s 1) (s 2) (s 3) (s 4) h1 (at 1 (lit< tt)) (at 2 (lit< tt)) (at 3 (lit< tt))
      (at 4 (lit< tt))

  behind : IsBeforeFour ds → (bit_or one (s 1) < 32768) × (s 1 < 128) × (bit_or (bit_or (s 1) (s 2)) (s 3) < 128)
      × (128 ≤ one) × (s 4 < 128)
  behind = four_behind ds one (s 1) (s 2) (s 3) (s 4) h1 (at 1 (lit< tt)) (at 2 (lit< tt)) (at 3 (lit< tt))
      (at 4 (lit< tt))

pub returns-then-one-ge32768-clause-first : goal.returns-then-one-ge32768-clause-first
returns-then-one-ge32768-clause-first c ds seen fits =
    let sizes = c.self.inside.sizes in
    single ds sizes c.self.inside.kept c.args.place (rw (← c.self.view_is) at seen) fits
    (let l = le_or_l (get_or sizes c.args.place 0) (get_or sizes (c.args.place + 1) 0) in
    omega (arith, c.if-one-ge32768.true))

pub returns-then-two-ge128-clause-first : goal.returns-then-two-ge128-clause-first
returns-then-two-ge128-clause-first c ds seen fits =
    let sizes = c.self.inside.sizes in
    let kept = c.self.inside.kept in
    let place = c.args.place in
    let shown = rw (← c.self.view_is) at seen in
    let pair = bit_or (get_or sizes place 0) (get_or sizes (place + 1) 0) in
    one_or_two pair c.from.result (IsCanonicalFirst ds) c.from.ensures
    (λ less. large ds sizes kept place shown fits less c.if-two-ge128.true)
    (λ more. single ds sizes kept place shown fits more)

pub returns-then-four-ge128-clause-first : goal.returns-then-four-ge128-clause-first
returns-then-four-ge128-clause-first c ds seen fits =
    few ds c.self.inside.sizes c.self.inside.kept c.args.place (rw (← c.self.view_is) at seen) fits
    (pair_fits _ _ c.if-one-ge32768.false c.if-two-ge128.false)
    c.if-four-ge128.true

pub returns-then-one-lt128-clause-first : goal.returns-then-one-lt128-clause-first
returns-then-one-lt128-clause-first c ds seen fits =
    four ds c.self.inside.sizes c.self.inside.kept c.args.place (rw (← c.self.view_is) at seen) fits
    c.if-one-lt128.true c.if-four-ge128.false

pub returns-else-self-place-lt128-clause-first : goal.returns-else-self-place-lt128-clause-first
returns-else-self-place-lt128-clause-first c ds seen fits =
    before ds c.self.inside.sizes c.self.inside.kept c.args.place (rw (← c.self.view_is) at seen) fits
    (pair_fits _ _ c.if-one-ge32768.false c.if-two-ge128.false)
    c.if-one-lt128.false c.if-self-place-lt128.false

pub returns-then-one-ge32768-clause-none : goal.returns-then-one-ge32768-clause-none
returns-then-one-ge32768-clause-none c ds seen = (
  λ none. absurd (grind (arith, none)),
  λ is.
      let sizes = c.self.inside.sizes in
      let h = behind ds sizes c.self.inside.kept c.args.place (rw (← c.self.view_is) at seen) is in
      let l = le_or_l (get_or sizes c.args.place 0) (get_or sizes (c.args.place + 1) 0) in
      let never : ⊥ = omega (arith, h.0, c.if-one-ge32768.true) in absurd never,
)

pub returns-then-two-ge128-clause-none : goal.returns-then-two-ge128-clause-none
returns-then-two-ge128-clause-none c ds seen = (
  λ none. absurd (grind (arith, none)),
  λ is.
      let h = behind ds c.self.inside.sizes c.self.inside.kept c.args.place (rw (← c.self.view_is) at seen) is in
      let never : ⊥ = omega (arith, h.1, c.if-two-ge128.true) in absurd never,
)

pub returns-then-four-ge128-clause-none : goal.returns-then-four-ge128-clause-none
returns-then-four-ge128-clause-none c ds seen = (
  λ none. absurd (grind (arith, none)),
  λ is.
      let h = behind ds c.self.inside.sizes c.self.inside.kept c.args.place (rw (← c.self.view_is) at seen) is in
      let never : ⊥ = omega (arith, h.2, c.if-four-ge128.true) in absurd never,
)

pub returns-then-one-lt128-clause-none : goal.returns-then-one-lt128-clause-none
returns-then-one-lt128-clause-none c ds seen = (
  λ none. absurd (grind (arith, none)),
  λ is.
      let h = behind ds c.self.inside.sizes c.self.inside.kept c.args.place (rw (← c.self.view_is) at seen) is in
      let never : ⊥ = omega (arith, h.3, c.if-one-lt128.true) in absurd never,
)

pub returns-else-self-place-lt128-clause-none : goal.returns-else-self-place-lt128-clause-none
returns-else-self-place-lt128-clause-none c ds seen = (
  λ none. absurd (grind (arith, none)),
  λ is.
      let h = behind ds c.self.inside.sizes c.self.inside.kept c.args.place (rw (← c.self.view_is) at seen) is in
      let never : ⊥ = omega (arith, h.4, c.if-self-place-lt128.false) in absurd never,
)

pub returns-then-self-place-lt128-clause-none : goal.returns-then-self-place-lt128-clause-none
returns-then-self-place-lt128-clause-none c ds seen = (
  λ none. untold ds c.self.inside.sizes c.self.inside.kept c.args.place (rw (← c.self.view_is) at seen)
      (pair_fits _ _ c.if-one-ge32768.false c.if-two-ge128.false) c.if-one-lt128.false c.if-four-ge128.false c.if-self-place-lt128.true,
  λ is. refl,
)
