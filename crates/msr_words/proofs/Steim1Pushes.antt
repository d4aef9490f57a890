-- What one more difference does to whether a run of Steim-1 differences fits.
use Rattle.std.proofs.Common.{◌≡◌, ◌↔◌, ◌<◌, ◌≤◌, ◌*◌, ℕ, ℤ, Bool, true, false, IsTrue, IsFalse, List, [], ◌∷◌, ◌++◌, length, map, refl, sym, subst, arith}
use Rattle.std.specs.Prelude.{reverse}
use Rattle.std.proofs.lemmas.List.{map-append}
use Rattle.msr_base.specs.declared.storage.Version.TheVariants.{One}
use Rattle.msr_words.specs.declared.counts.LeastCounts.{LeastCounts}
use Rattle.msr_words.specs.Division.{CanDivide}
use Rattle.msr_words.specs.Counts.{EndsIn}
use Rattle.msr_words.specs.AreCounts.{AreCounts}
use Rattle.msr_words.specs.Lemmas.Ends.{ends_is_division}
use Rattle.msr_words.specs.Fit.{Fits, FitsSteim, most_counted}
use Rattle.msr_base.specs.RecordLength.{words_of}
use Rattle.msr_words.specs.Lemmas.KindLaws.{prefix_steim, size_steim}
use Rattle.msr_words.specs.Trackers.{FollowsSteim1}
use Rattle.msr_base.specs.declared.kinds.Kind.TheVariants.{Steim1}
use Rattle.msr_words.proofs.Plain.{reverse_push}

never : (result : Bool) → IsFalse result → IsTrue result → ⊥
never true f t = cc
never false f t = cc

-- the least counts, with one difference more
pub record CountsOn (own : ℕ) (counts new : LeastCounts) (d : ℤ) (result : Bool) : Type 0 where
  pub with : (past : List ℤ) → AreCounts own past counts → AreCounts own (d ∷ past) new
  pub within : (past : List ℤ) → 0 < length past → AreCounts own past new → (IsTrue result ↔ EndsIn One true own past)

module _ (words own : ℕ) (ds : List ℤ) (d : ℤ) (counts new : LeastCounts) (result : Bool) (own_is : own ≡ words)
    (few : 4 * words ≤ most_counted) (on : CountsOn own counts new d result)
    (counted : AreCounts words (reverse ds) counts) where
  counted_own : AreCounts own (d ∷ reverse ds) new
  counted_own = on.with (reverse ds) (subst (λ w. AreCounts w (reverse ds) counts) (sym own_is) counted)

  pub counted_on : AreCounts words (reverse (ds ++ d ∷ [])) new
  counted_on = subst (λ p. AreCounts words p new) (sym (reverse_push d ds))
      (subst (λ w. AreCounts w (d ∷ reverse ds) new) own_is counted_own)

  pub divides : IsTrue result ↔ CanDivide One words (ds ++ d ∷ [])
  divides =
      let exact : IsTrue result ↔ EndsIn One true words (d ∷ reverse ds) =
      subst (λ w. IsTrue result ↔ EndsIn One true w (d ∷ reverse ds)) own_is
      (on.within (d ∷ reverse ds) (omega arith) counted_own) in
      let turned : IsTrue result ↔ EndsIn One true words (reverse (ds ++ d ∷ [])) =
      subst (λ p. IsTrue result ↔ EndsIn One true words p) (sym (reverse_push d ds)) exact in
      let division = ends_is_division One words d ds in
      (λ t. division.0 (turned.0 t), λ can. turned.1 (division.1 can))

  pub follows_on : FollowsSteim1 words (ds ++ d ∷ []) (record { words = own; counts = new; fits = result })
  follows_on = record {
    words_is = own_is;
    countable = few;
    counted = λ t. counted_on;
    past = λ f can. never result f (divides.1 can);
  }

module _ (bytes : ℕ) (run : List (ℤ × ℤ)) (x d : ℤ) (own : ℕ) (counts : LeastCounts) where
  last : map (λ p. p.1) (run ++ (x, d) ∷ []) ≡ map (λ p. p.1) run ++ d ∷ []
  last = map-append (λ (p : ℤ × ℤ). p.1) run ((x, d) ∷ [])

  -- the samples of a record are so few that they can be counted
  fits_steim1 : (more : List (ℤ × ℤ)) → 4 * words_of bytes ≤ most_counted → FitsSteim One bytes more
      → Fits Steim1 bytes more
  fits_steim1 more few h = let size = size_steim One bytes more h in (omega arith, h)

  pub push_steim1_dead : FollowsSteim1 (words_of bytes) (map (λ p. p.1) run)
      (record { words = own; counts = counts; fits = false }) →
      FollowsSteim1 (words_of bytes) (map (λ p. p.1) (run ++ (x, d) ∷ []))
      (record { words = own; counts = counts; fits = false })
      × (IsTrue false ↔ Fits Steim1 bytes (run ++ (x, d) ∷ []))
  push_steim1_dead state =
      let not = λ (h : FitsSteim One bytes (run ++ (x, d) ∷ [])). state.past refl
      (prefix_steim One bytes run ((x, d) ∷ []) h) in (
        record { words_is = state.words_is; countable = state.countable; counted = λ t. cc; past = λ f. not },
        (λ t. cc, λ h. absurd (not h.1)),
      )

  pub push_steim1 : FollowsSteim1 (words_of bytes) (map (λ p. p.1) run)
      (record { words = own; counts = counts; fits = true })
      → (new : LeastCounts) (result : Bool) → CountsOn own counts new d result →
      FollowsSteim1 (words_of bytes) (map (λ p. p.1) (run ++ (x, d) ∷ []))
      (record { words = own; counts = new; fits = result })
      × (IsTrue result ↔ Fits Steim1 bytes (run ++ (x, d) ∷ []))
  push_steim1 state new result on =
      let exact : IsTrue result ↔ FitsSteim One bytes (run ++ (x, d) ∷ []) =
      rw last (divides (words_of bytes) own
      (map (λ p. p.1) run) d counts new result state.words_is state.countable on (state.counted refl)) in (
        rw last (follows_on (words_of bytes) own (map
            (λ p. p.1) run) d counts new result state.words_is state.countable on (state.counted refl)),
        (λ t. fits_steim1 (run ++ (x, d) ∷ []) state.countable (exact.0 t), λ h. exact.1 h.1),
      )

pub steim1_start : (words own : ℕ) (counts : LeastCounts) → own ≡ words → 4 * words ≤ most_counted
    → AreCounts words [] counts → FollowsSteim1 words [] (record { words = own; counts = counts; fits = true })
steim1_start words own counts e few counted =
    record { words_is = e; countable = few; counted = λ t. counted; past = λ f. cc }
