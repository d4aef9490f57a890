-- One entry more is counted.
use Rattle.std.proofs.Common.{◌≡◌, ◌≢◌, ◌<◌, ℕ, ◌+◌, Bool, true, false, cond, inl, inr, List, [], ◌∷◌, ◌++◌, length, set, get_or, refl, sym, ◌∙◌, arith, get_or-set_same, get_or-set_other}
use Rattle.std.specs.Int.{from_bool}
use Rattle.std.specs.List.{count_by}
use Rattle.std.proofs.lemmas.Bool.Decides.{eqb_tells}
use Rattle.std.proofs.lemmas.List.Sums.{sum_by_push}
use Rattle.msr_replace.specs.declared.words.Word.{Word}
use Rattle.msr_replace.specs.declared.lines.Outcome.{Outcome}
use Rattle.msr_replace.specs.Lines.{exchange_word}
use Rattle.msr_replace.specs.Words.{word_number}
use Rattle.msr_folders.specs.Totals.{saturated}
use Rattle.msr_replace.specs.Entries.{ExchangeEntry, exchange_count, is_word, sum_of}

-- a sum that stops at a bound can stop on its way
saturated_more : (n more : ℕ) → saturated (saturated n + more) ≡ saturated (n + more)
saturated_more n more = omega arith

pub sum_more : (of : Outcome → ℕ) (entries : List ExchangeEntry) (entry : ExchangeEntry) (n : ℕ) → n ≡ sum_of of entries
    → saturated (n + of entry.outcome) ≡ sum_of of (entries ++ entry ∷ [])
sum_more of entries entry n h =
    rw (h, saturated_more, sum_by_push (λ (e : ExchangeEntry). of e.outcome) entries entry) refl

pub count_more : (of : Word → Bool) (entries : List ExchangeEntry) (entry : ExchangeEntry) (n : ℕ) → n ≡ exchange_count of entries
    → saturated (n + cond (of (exchange_word entry.outcome)) 1 0) ≡ exchange_count of (entries ++ entry ∷ [])
count_more of entries entry n h =
    rw (h, saturated_more, sum_by_push (λ (e : ExchangeEntry). cond (of (exchange_word e.outcome)) 1 0) entries entry) refl

-- a count has its place among the counts
pub counts_more : (counts : List ℕ) (entries : List ExchangeEntry) (entry : ExchangeEntry) (at new : ℕ)
    → ((word : Word) → get_or counts (word_number word) 0 ≡ exchange_count (is_word word) entries)
    → at ≡ word_number (exchange_word entry.outcome) → at < length counts → new ≡ saturated (get_or counts at 0 + 1)
    → (word : Word) → get_or (set counts at new) (word_number word) 0 ≡ exchange_count (is_word word) (entries ++ entry ∷ [])
counts_more counts entries entry at new held place room is word =
    elim (eqb_tells (word_number word) (word_number (exchange_word entry.outcome))) [
      | inl h ↦
          let same : word_number word ≡ at = h.1 ∙ sym place in
          let more = count_more (is_word word) entries entry (get_or counts (word_number word) 0) (held word) in
          rw (same, get_or-set_same counts at new 0 room, is, ← same) (rw h.0 at more)
      | inr h ↦
          let other : word_number word ≢ at = λ e. h.1 (e ∙ place) in
          let more = count_more (is_word word) entries entry (get_or counts (word_number word) 0) (held word) in
          rw (get_or-set_other counts at (word_number word) new 0 other) (unbounded (get_or counts (word_number word) 0) (count_by (λ (e : ExchangeEntry). is_word word (exchange_word e.outcome)) entries) (held word) ∙ rw h.0 at more)
    ]
  where
    unbounded : (n m : ℕ) → n ≡ saturated m → n ≡ saturated (n + 0)
    unbounded n m h = omega arith

pub as_number : (b : Bool) → from_bool b ≡ cond b 1 0
as_number true = refl
as_number false = refl
