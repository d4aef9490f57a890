-- Which words ask for a dry run, one after another.
use Rattle.std.proofs.Common.{◌≡◌, ◌∙◌, ◌↔◌, ◌<◌, ◌≤◌, ◌+◌, ◌-◌, ◌&&◌, ◌||◌, ℕ, Bool, zero, suc, true, false, not, List, [], ◌∷◌, ap, arith, refl, sym, length, map, drop, take, length-drop, codes, Bor, slice_index_or, Result, Ok, Err, IfOk}
use Rattle.std.specs.Str.{bytes_eq}
use Rattle.std.proofs.Math.Seq.{take-length}
use Rattle.std.proofs.lemmas.List.{drop_all}
use Rattle.msr_options.specs.Asked.{AsksDryRun, ask_dry_run}
use Rattle.msr_options.specs.Tasks.{IsTrial, word_of}
use Rattle.msr_options.specs.declared.task.NoTask.{NoTask}
use Rattle.msr_options.specs.declared.task.Task.{Task}
use Rattle.msr_options.specs.declared.task.Verb.{Verb}
use Rattle.msr_options.specs.declared.task.Verb.TheVariants as verb

abbrev texts : List (Bor (List ℕ)) → List (List ℕ)
texts words = map (λ (word : Bor (List ℕ)). word.now) words

-- whether the words from one place on ask for it is whether all do
pub record AsksFrom (words : List (Bor (List ℕ))) (place : ℕ) : Type 0 where
  pub same : ask_dry_run (texts words) ≡ ask_dry_run (texts (drop place words))

abbrev none : Bor (List ℕ)
none = record { ref_ptr = (0, 0); now = [] }

-- what one word says, and those after it
abbrev by_word : (ends asks after : Bool) → Bool
by_word ends asks after = not ends && (asks || after)

word_at : (words : List (Bor (List ℕ))) (place : ℕ) → place < length words
    → drop place words ≡ slice_index_or words place none ∷ drop (suc place) words
word_at [] place within = absurd (omega (arith, within))
word_at (first ∷ words) zero within = refl
word_at (first ∷ words) (suc place) within = word_at words place (omega (arith, within))

next_word : (words : List (Bor (List ℕ))) (place : ℕ) → place < length words
    → drop place words ≡ slice_index_or words place none ∷ drop (place + 1) words
next_word words place within =
    let next : suc place ≡ place + 1 = omega arith in
    word_at words place within ∙ ap (λ n. slice_index_or words place none ∷ drop n words) next

module _ (words : List (Bor (List ℕ))) (place : ℕ) (within : place < length words) (from : AsksFrom words place) where
  abbrev word : List ℕ
  word = (slice_index_or words place none).now

  asks_next : ask_dry_run (texts words) ≡ by_word (bytes_eq word (codes "--")) (bytes_eq word (codes "--dry-run")) (ask_dry_run (texts (drop (place + 1) words)))
  asks_next = from.same ∙ ap (λ l. ask_dry_run (texts l)) (next_word words place within)

  pub asks_ended : {ends : Bool} → bytes_eq word (codes "--") ≡ ends → ends ≡ true → false ≡ ask_dry_run (texts words)
  asks_ended is ended = sym (asks_next ∙ ap (λ e. by_word e (bytes_eq word (codes "--dry-run")) (ask_dry_run (texts (drop (place + 1) words)))) (is ∙ ended))

  module _ {ends asks : Bool} (is : bytes_eq word (codes "--") ≡ ends) (goes_on : ends ≡ false) (said : bytes_eq word (codes "--dry-run") ≡ asks) where
    asks_by : ask_dry_run (texts words) ≡ by_word false asks (ask_dry_run (texts (drop (place + 1) words)))
    asks_by = asks_next
        ∙ ap (λ e. by_word e (bytes_eq word (codes "--dry-run")) (ask_dry_run (texts (drop (place + 1) words)))) (is ∙ goes_on)
        ∙ ap (λ a. by_word false a (ask_dry_run (texts (drop (place + 1) words)))) said

    pub asks_here : asks ≡ true → true ≡ ask_dry_run (texts words)
    asks_here asked = sym (asks_by ∙ ap (λ a. by_word false a (ask_dry_run (texts (drop (place + 1) words)))) asked)

    pub asks_later : asks ≡ false → AsksFrom words (place + 1)
    asks_later asked = record { same = asks_by ∙ ap (λ a. by_word false a (ask_dry_run (texts (drop (place + 1) words)))) asked }

-- all words were looked at
pub asks_never : (words : List (Bor (List ℕ))) (place : ℕ) → length words ≤ place → AsksFrom words place → false ≡ ask_dry_run (texts words)
asks_never words place all from = sym (from.same ∙ ap (λ l. ask_dry_run (texts l)) (drop_all place words all))

-- a line whose command has that word
is_archive : (of : Verb) → bytes_eq (word_of of) (codes "archive") ≡ true → of ≡ verb.Archive
is_archive verb.Archive is = refl
is_archive _ is = cc

only_archive : (of : Verb) → word_of of ≡ codes "archive" → of ≡ verb.Archive
only_archive of is = is_archive of (ap (λ w. bytes_eq w (codes "archive")) is)

asks_both : (words : List (Bor (List ℕ))) (of : Verb) → 2 ≤ length words → (slice_index_or words 1 none).now ≡ word_of of
    → ((of ≡ verb.Archive) × (ask_dry_run (texts (drop 1 words)) ≡ true)) ↔ AsksDryRun (texts words)
asks_both [] of long at = absurd (omega (arith, long))
asks_both (first ∷ []) of long at = absurd (omega (arith, long))
asks_both (first ∷ second ∷ words) of long at = (
  (λ both. record { named = at ∙ ap word_of both.0; asked = both.1 }),
  (λ asks. (only_archive of (sym at ∙ asks.named), asks.asked)),
)

whole : (words : List (Bor (List ℕ))) → take (length words - 1) (drop 1 words) ≡ drop 1 words
whole words = ap (λ n. take n (drop 1 words)) (sym (length-drop 1 words)) ∙ take-length (drop 1 words)

pub asks_line : (words : List (Bor (List ℕ))) (of : Verb) (result : Result Task NoTask) → 2 ≤ length words
    → (slice_index_or words 1 none).now ≡ word_of of
    → IfOk result (λ task. IsTrial task ↔ ((of ≡ verb.Archive) × (ask_dry_run (texts (take (length words - 1) (drop 1 words))) ≡ true)))
    → IfOk result (λ task. IsTrial task ↔ AsksDryRun (texts words))
asks_line words of (Ok task) long at said =
    let both = asks_both words of long at in
    let same : ask_dry_run (texts (take (length words - 1) (drop 1 words))) ≡ ask_dry_run (texts (drop 1 words)) =
    ap (λ l. ask_dry_run (texts l)) (whole words) in (
      (λ is. both.0 ((said.0 is).0, sym same ∙ (said.0 is).1)),
      (λ asks. said.1 ((both.1 asks).0, same ∙ (both.1 asks).1)),
    )
asks_line words of (Err why) long at said = tt
