-- What one more sample does to whether a run fits.
use Rattle.std.proofs.Common.{◌≡◌, ℕ, ◌+◌, ◌-◌, ◌≤◌, ◌<◌, zero, suc, ap, pos, ◌-ℤ◌, slice_index_or, min, Bool, true, false, refl, IsTrue, ◌↔◌, ℤ, List, [], ◌∷◌, ◌++◌, length, arith, length-append}
use Rattle.std.proofs.lemmas.List.Elements.{All-push, Contains-push, All-contains}
use Rattle.msr_words.specs.Segment.{difference_at}
use Rattle.msr_base.specs.declared.kinds.Kind.{Kind}
use Rattle.msr_base.specs.declared.storage.Storage.TheVariants.{Integers}
use Rattle.msr_base.specs.declared.storage.Width.{Width}
use Rattle.msr_base.specs.declared.storage.Width.TheVariants.{Two as TwoBytes, Three as ThreeBytes, Four as FourBytes}
use Rattle.msr_words.specs.Fit.{Fits, FitsIntegers, IsInteger, most_counted}
use Rattle.msr_words.specs.Laws.{most_of, room_of}
use Rattle.msr_words.specs.Trackers.{FollowsIntegers, integers}
use Rattle.msr_words.specs.Lemmas.KindLaws.{prefix_kind, size_kind}
use Rattle.msr_words.proofs.AnyKind.{fit_by_width}

-- one integer more fits after a run that fits, if the record has room; and what fits is such an integer
pub record TakesIntegers (kind : Kind) (width : Width) (bytes : ℕ) : Type 0 where
  pub takes : (run : List (ℤ × ℤ)) (x d : ℤ) → Fits kind bytes run → length run + 1 ≤ most_of kind bytes
      → IsInteger width x → Fits kind bytes (run ++ (x, d) ∷ [])
  pub needs : (run : List (ℤ × ℤ)) (x d : ℤ) → Fits kind bytes (run ++ (x, d) ∷ []) → IsInteger width x

module _ (width : Width) (bytes : ℕ) (run : List (ℤ × ℤ)) (x d : ℤ) where
  one_more : (length run ≤ most_counted) × FitsIntegers width bytes run
      → length run + 1 ≤ min (room_of (Integers width) bytes) most_counted → IsInteger width x
      → (length (run ++ (x, d) ∷ []) ≤ most_counted) × FitsIntegers width bytes (run ++ (x, d) ∷ [])
  one_more h room one =
      let p : ℤ × ℤ = (x, d) in
      fit_by_width width bytes (omega (arith, h.1.1)) (run ++ p ∷ [])
      (All-push (λ p. IsInteger width p.0) run p h.1.0 one) (omega (arith, length-append run (p ∷ []), room))

  last_one : (length (run ++ (x, d) ∷ []) ≤ most_counted) × FitsIntegers width bytes (run ++ (x, d) ∷ [])
      → IsInteger width x
  last_one h = let p : ℤ × ℤ = (x, d) in All-contains (λ p. IsInteger width p.0) (run ++ p ∷ []) p h.1.0
      (Contains-push run p)

pub takes_integers : (width : Width) (bytes : ℕ) → TakesIntegers (integers width) width bytes
takes_integers TwoBytes bytes = record { takes = one_more TwoBytes bytes; needs = last_one TwoBytes bytes }
takes_integers ThreeBytes bytes = record { takes = one_more ThreeBytes bytes; needs = last_one ThreeBytes bytes }
takes_integers FourBytes bytes = record { takes = one_more FourBytes bytes; needs = last_one FourBytes bytes }

-- What one more sample does to whether a run of integers fits.
module _ (kind : Kind) (width : Width) (bytes : ℕ) (are : TakesIntegers kind width bytes) (run : List (ℤ × ℤ))
    (x d : ℤ) where
  not_taken : (left : ℕ) (fits : Bool) → FollowsIntegers kind bytes run (record { left = left; fits = fits })
      → (IsTrue fits × 0 < left × IsInteger width x → ⊥) → Fits kind bytes (run ++ (x, d) ∷ []) → ⊥
  not_taken left false state refused h = state.past refl (prefix_kind kind bytes run ((x, d) ∷ []) h)
  not_taken left true state refused h =
      let r = state.room refl in
      let few = size_kind kind bytes (run ++ (x, d) ∷ []) h in
      refused (refl, omega (arith, length-append run ((x, d) ∷ []), r, few), are.needs run x d h)

  pub push_no : (left : ℕ) (fits : Bool) → FollowsIntegers kind bytes run (record { left = left; fits = fits })
      → (IsTrue fits × 0 < left × IsInteger width x → ⊥) →
      FollowsIntegers kind bytes (run ++ (x, d) ∷ []) (record { left = left; fits = false })
      × (IsTrue false ↔ Fits kind bytes (run ++ (x, d) ∷ []))
  push_no left fits state refused =
      let not = not_taken left fits state refused in
      (record { so_far = λ t. cc; room = λ t. cc; past = λ _. not }, (λ t. cc, λ h. absurd (not h)))

  pub push_yes : (left : ℕ) (fits : Bool) → FollowsIntegers kind bytes run (record { left = left; fits = fits })
      → IsTrue fits × 0 < left × IsInteger width x →
      FollowsIntegers kind bytes (run ++ (x, d) ∷ []) (record { left = left - 1; fits = fits })
      × (IsTrue true ↔ Fits kind bytes (run ++ (x, d) ∷ []))
  push_yes left fits state accepted =
      let r = state.room accepted.0 in
      let more = are.takes run x d (state.so_far accepted.0) (omega (arith, r, accepted.1)) accepted.2 in (
        record {
          so_far = λ _. more;
          room = λ _. omega (arith, length-append run ((x, d) ∷ []), r, accepted.1);
          past = λ f. cc;
        },
        (λ _. more, λ _. refl),
      )

pub difference_at_later : (samples : List ℤ) (i : ℕ) → 0 < i
    → difference_at samples i ≡ slice_index_or samples i (pos 0) -ℤ slice_index_or samples (i - 1) (pos 0)
difference_at_later samples zero h = absurd (omega arith)
difference_at_later samples (suc i) h = ap (λ n. slice_index_or samples (suc i) (pos 0) -ℤ slice_index_or samples n
    (pos 0)) (omega arith)
