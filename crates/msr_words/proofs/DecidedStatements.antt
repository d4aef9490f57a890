-- Statements that hold or do not, and the last place where one holds.
use Rattle.std.proofs.Common.{◌≡◌, ◌≢◌, ℕ, zero, suc, ◌<◌, ◌≤◌, ◌⊎◌, List, [], ◌∷◌, arith, subst, inl, inr}
use Rattle.std.specs.Prelude.{All}
use Rattle.std.specs.List.{AllByRecursion}
use Rattle.std.proofs.lemmas.Bool.{cases_lt}
use Rattle.std.proofs.lemmas.List.Elements.{All-nil, All-cons, All-drop}
use Rattle.msr_words.specs.Existence.{Decided}

pub both_decided : (P Q : Type 0) → Decided P → Decided Q → Decided (P × Q)
both_decided P Q (inl p) (inl q) = inl (p, q)
both_decided P Q (inl p) (inr never) = inr (λ h. never h.1)
both_decided P Q (inr never) d = inr (λ h. never h.0)

pub less_decided : (a b : ℕ) → Decided (a < b)
less_decided a b = elim (cases_lt a b) [
  | inl h ↦ inl h
  | inr h ↦ inr (λ lt. omega arith)
]

pub most_decided : (a b : ℕ) → Decided (a ≤ b)
most_decided a b = elim (cases_lt b a) [
  | inl h ↦ inr (λ le. omega arith)
  | inr h ↦ inl h
]

pub other_decided : (n m : ℕ) → Decided (n ≢ m)
other_decided n m = elim (cases_lt n m) [
  | inl h ↦ inl (λ e. omega arith)
  | inr h ↦ elim (cases_lt m n) [
    | inl more ↦ inl (λ e. omega arith)
    | inr same ↦ inr (λ never. never (omega arith))
  ]
]

pub each_decided : {X : Type 0} (P : X → Type 0) → ((x : X) → Decided (P x)) → (xs : List X)
    → Decided (AllByRecursion P xs)
each_decided P each [] = inl tt
each_decided P each (x ∷ xs) = both_decided (P x) (AllByRecursion P xs) (each x) (each_decided P each xs)

pub all_decided : {X : Type 0} (P : X → Type 0) → ((x : X) → Decided (P x)) → (xs : List X) → Decided (All P xs)
all_decided P each [] = inl (All-nil P)
all_decided P each (x ∷ xs) = elim (each x) [
  | inl first ↦ elim (all_decided P each xs) [
    | inl others ↦ inl (All-cons P x xs first others)
    | inr never ↦ inr (λ h. never (All-drop P 1 (x ∷ xs) h))
  ]
  | inr never ↦ inr (λ h. never (h 0 x (omega arith)))
]

-- of the places up to n where P holds, the last
pub record Last (P : ℕ → Type 0) (n : ℕ) : Type 0 where
  pub place : ℕ
  pub within : place ≤ n
  pub holds : P place
  pub last : (k : ℕ) → k ≤ n → P k → k ≤ place

pub last_of : (P : ℕ → Type 0) → ((k : ℕ) → Decided (P k)) → (n : ℕ) → Last P n ⊎ ((k : ℕ) → k ≤ n → P k → ⊥)
last_of P each zero = elim (each 0) [
  | inl h ↦ inl (record { place = 0; within = omega arith; holds = h; last = λ k le p. le })
  | inr never ↦ inr (λ k le p. let e : k ≡ 0 = omega arith in never (subst P e p))
]
last_of P each (suc n) = elim (each (suc n)) [
  | inl h ↦ inl (record { place = suc n; within = omega arith; holds = h; last = λ k le p. le })
  | inr never ↦ elim (last_of P each n) [
    | inl l ↦ inl (record {
      place = l.place;
      within = let w = l.within in omega arith;
      holds = l.holds;
      last = λ k le p. elim (cases_lt n k) [
        | inl more ↦ let e : k ≡ suc n = omega arith in absurd (never (subst P e p))
        | inr less ↦ l.last k less p
      ];
    })
    | inr nowhere ↦ inr (λ k le p. elim (cases_lt n k) [
      | inl more ↦ let e : k ≡ suc n = omega arith in never (subst P e p)
      | inr less ↦ nowhere k less p
    ])
  ]
]
