-- The canonical packing is determined.
use Rattle.std.proofs.Common.{◌≡◌, ℕ, ℤ, List, [], ◌∷◌, length, refl, sym, ◌∙◌, subst, arith, inl, inr}
use Rattle.std.proofs.lemmas.Bool.{cases_lt}
use Rattle.msr_words.specs.Fit.{Records, FitsAny, IsRun, rank, IsFirstKind}
use Rattle.msr_base.specs.declared.kinds.Kind.{Kind}
use Rattle.msr_words.proofs.Runs.{same_run}
use Rattle.msr_words.specs.declared.kinds.Run.{Run}
use Rattle.msr_words.specs.Segment.{run_points}
use Rattle.msr_words.specs.Packing.{Joins, IsStep, CanonicalTo, IsCanonical}
use Rattle.msr_words.proofs.DivisionsExist.{rank_same}

first_same : (records : Records) (run : List (ℤ × ℤ)) (k l : Kind) → IsFirstKind records run k
    → IsFirstKind records run l → k ≡ l
first_same records run k l first other =
    elim (cases_lt (rank k) (rank l)) [
      | inl less ↦ absurd (other.1 k less first.0)
      | inr not ↦ elim (cases_lt (rank l) (rank k)) [
        | inl less ↦ absurd (first.1 l less other.0)
        | inr nor ↦ rank_same k l (omega arith)
      ]
    ]

joins_from : (runs : List Run) (a c b : ℕ) → Joins a runs b → Joins c runs b → a ≡ c
joins_from [] a c b first second = first ∙ sym second
joins_from (run ∷ runs) a c b first second = sym first.0 ∙ second.0

module _ (records : Records) (samples : List ℤ) where
  step_same : (g h a h' a' : ℕ) → IsStep (FitsAny records) samples g h a → IsStep (FitsAny records) samples g h' a'
      → (h ≡ h') × (a ≡ a')
  step_same g h a h' a' first second =
      let up = first.furthest a' h' second.before second.reached in
      let down = second.furthest a h first.before first.reached in
      let same : h ≡ h' = omega arith in
      let later = second.last a first.before (subst (λ x. IsRun (FitsAny records) samples a x) same first.reached) in
      let sooner = first.last a' second.before (subst (λ x. IsRun (FitsAny records) samples a' x)
      (sym same) second.reached) in
      (same, omega arith)

  chosen_same : (runs others : List Run) (separators places : List ℕ) (g a c : ℕ) →
      CanonicalTo records samples g runs separators (length samples) → Joins a runs (length samples) →
      CanonicalTo records samples g others places (length samples) → Joins c others (length samples) →
      (runs ≡ others) × (separators ≡ places)
  chosen_same [] [] [] [] g a c first j second k = (refl, refl)
  chosen_same [] others (s ∷ separators) places g a c first j second k = absurd first
  chosen_same (run ∷ runs) others [] places g a c first j second k = absurd first
  chosen_same runs [] separators (p ∷ places) g a c first j second k = absurd second
  chosen_same runs (other ∷ others) separators [] g a c first j second k = absurd second
  chosen_same [] (other ∷ others) [] (p ∷ places) g a c first j second k =
      absurd (let e : g ≡ length samples = first in let l = second.2 in omega arith)
  chosen_same (run ∷ runs) [] (s ∷ separators) [] g a c first j second k =
      absurd (let e : g ≡ length samples = second in let l = first.2 in omega arith)
  chosen_same (run ∷ runs) (other ∷ others) (s ∷ separators) (p ∷ places) g a c first j second k =
      let both = step_same g first.0 run.start second.0 other.start first.3 second.3 in
      let rest = chosen_same runs others separators places first.0 run.end other.end first.5 j.1
      (subst (λ h. CanonicalTo records samples h others places (length samples)) (sym both.0) second.5) k.1 in
      let end' : run.end ≡ other.end = joins_from others run.end other.end (length samples)
      (subst (λ r. Joins run.end r (length samples)) rest.0 j.1) k.1 in
      let kind' : run.kind ≡ other.kind = first_same records
      (run_points samples other.start other.end) run.kind other.kind
      (let f = first.4 in rw (both.1, end') at f) second.4 in
      let s' : s ≡ g = first.1 in
      let p' : p ≡ g = second.1 in
      let head : run ≡ other = same_run run other both.1 end' kind' in
      let tail = rest.0 in
      let places' = rest.1 in
      (cc, cc)

  pub one_packing : (runs others : List Run) (separators places : List ℕ)
      → IsCanonical records samples runs separators → IsCanonical records samples others places →
      (runs ≡ others) × (separators ≡ places)
  one_packing runs others separators places first second =
      chosen_same runs others separators places 0 0 0 first.0 first.1 second.0 second.1
