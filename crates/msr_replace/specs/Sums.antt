-- The last line of a walk.
use Rattle.std.specs.Prelude.{ℕ, Bool, true, false, List, [], ◌∷◌, ◌++◌, codes, slice_index}
use Rattle.std.specs.Fmt.{decimal}
use Rattle.std.specs.List.{flat_map}
use Rattle.msr_replace.specs.Entries.{ExchangeEntry, exchange_count, is_word, sum_of}
use Rattle.msr_replace.specs.Lines.{after_of, before_of, bytes_text}
use Rattle.msr_replace.specs.Words.{word_number, text_of}
use Rattle.msr_replace.specs.declared.words.Word.{Word}
use Rattle.msr_replace.specs.declared.words.Word.TheVariants.{Replaced, Same, Young, Larger, Changed, Skipped, Refused, Missing, NotShown, Differs, Orphan, Unfinished, Restored}
use Rattle.msr_replace.specs.declared.tally.Tally.{Tally}

-- a word and its count
abbrev pub sum_text : (count : Word → ℕ) → Word → List ℕ
sum_text count word = codes " " ++ (text_of word ++ (codes " " ++ decimal (count word)))

abbrev pub sums_text : (count : Word → ℕ) → List Word → List ℕ
sums_text count words = flat_map (sum_text count) words

abbrev pub replace_words : List Word
replace_words = Replaced ∷ Same ∷ Young ∷ Larger ∷ Changed ∷ Skipped ∷ Refused ∷ Missing ∷ NotShown ∷ Differs ∷ Orphan ∷ Unfinished ∷ []

abbrev pub undo_words : List Word
undo_words = Restored ∷ Changed ∷ Refused ∷ Unfinished ∷ []

-- the last line of a walk, through the archive or through the originals that were set aside
abbrev pub total_line : (undo : Bool) → (count : Word → ℕ) → (before after : ℕ) → List ℕ
total_line false count before after = (codes "total" ++ sums_text count replace_words) ++ bytes_text before after
total_line true count before after = (codes "total" ++ sums_text count undo_words) ++ codes "\n"

-- what is counted of a word
abbrev pub count_kept : Tally → Word → ℕ
count_kept tally word = slice_index tally.counts (word_number word)

abbrev pub tally_line : (undo : Bool) → Tally → List ℕ
tally_line undo tally = total_line undo (count_kept tally) tally.before tally.after

-- the line after those of the entries
abbrev pub exchange_summary : (undo : Bool) → List ExchangeEntry → List ℕ
exchange_summary undo entries =
    total_line undo (λ word. exchange_count (is_word word) entries) (sum_of before_of entries) (sum_of after_of entries)
