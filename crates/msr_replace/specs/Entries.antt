-- The entries of a walk: what is said of each, its line, and what they sum up to.
use Rattle.std.specs.Prelude.{◌≡◌, ◌==◌, ℕ, ⊤, Bool, true, false, List, [], ◌∷◌, ◌++◌, slice_index, Option, None, Some, String}
use Rattle.std.specs.List.{AllByRecursion, count_by, sum_by}
use Rattle.std.specs.String.{string_bytes}
use Rattle.msr_folders.specs.Days.{IsDay, IsNoDay}
use Rattle.msr_folders.specs.Totals.{saturated}
use Rattle.msr_replace.specs.Lines.{IsExchangeLine, after_of, before_of, exchange_word}
use Rattle.msr_replace.specs.Words.{is_unwell, is_well, word_number}
use Rattle.msr_replace.specs.declared.lines.Outcome.{Outcome}
use Rattle.msr_replace.specs.declared.lines.Outcome.TheVariants.{Day, Undone, Refused, Skipped, Orphan, DayFailed, FolderFailed}
use Rattle.msr_replace.specs.declared.words.Word.{Word}
use Rattle.msr_replace.specs.declared.tally.Tally.{Tally}

-- an entry: its path from the archive's folder, and what became of it
pub record ExchangeEntry : Type 0 where
  pub path : List ℕ
  pub outcome : Outcome

abbrev pub entry_of : (path : List ℕ) → Outcome → ExchangeEntry
entry_of path outcome = record { path = path; outcome = outcome }

-- What is told of an entry. A refusal of the walk itself may be told of any, and that a folder failed.
abbrev pub IsExchangeOf : List ℕ → Outcome → Type 0
IsExchangeOf path (Day answer) = IsDay path
IsExchangeOf path (Undone answer) = IsDay path
IsExchangeOf path (Refused refusal) = ⊤
IsExchangeOf path (Skipped fault) = IsNoDay path fault
IsExchangeOf path Orphan = IsDay path
IsExchangeOf path DayFailed = IsDay path
IsExchangeOf path FolderFailed = ⊤

abbrev pub IsExchangeEntry : ExchangeEntry → Type 0
IsExchangeEntry entry = IsExchangeOf entry.path entry.outcome

abbrev pub IsExchangeEntryLine : ExchangeEntry → List ℕ → Type 0
IsExchangeEntryLine entry line = IsExchangeLine entry.path entry.outcome line

-- the tree failed
abbrev pub has_failed : Outcome → Bool
has_failed DayFailed = true
has_failed FolderFailed = true
has_failed _ = false

-- no entry failed, or the last one did, with this path
abbrev pub IsStoppedAt : {Z : Type 0} → List ExchangeEntry → Option (String Z) → Type 0
IsStoppedAt entries None = AllByRecursion (λ entry. has_failed entry.outcome ≡ false) entries
IsStoppedAt entries (Some path) = (before : List ExchangeEntry) × (last : ExchangeEntry) × (entries ≡ before ++ last ∷ [])
    × AllByRecursion (λ entry. has_failed entry.outcome ≡ false) before × (has_failed last.outcome ≡ true)
    × (last.path ≡ string_bytes path)

abbrev pub is_word : Word → Word → Bool
is_word one other = word_number one == word_number other

-- how many entries have such a word, or 2^64 - 1 if they are more
abbrev pub exchange_count : (Word → Bool) → List ExchangeEntry → ℕ
exchange_count of entries = saturated (count_by (λ entry. of (exchange_word entry.outcome)) entries)

-- the sum over all entries, or 2^64 - 1 if it is more
abbrev pub sum_of : (Outcome → ℕ) → List ExchangeEntry → ℕ
sum_of of entries = saturated (sum_by (λ entry. of entry.outcome) entries)

-- These are the counts of the entries, and the sums of their bytes.
pub record IsExchangeTally (entries : List ExchangeEntry) (tally : Tally) : Type 0 where
  pub counts : (word : Word) → slice_index tally.counts (word_number word) ≡ exchange_count (is_word word) entries
  pub unwell : tally.unwell ≡ exchange_count is_unwell entries
  pub well : tally.well ≡ exchange_count is_well entries
  pub before : tally.before ≡ sum_of before_of entries
  pub after : tally.after ≡ sum_of after_of entries
