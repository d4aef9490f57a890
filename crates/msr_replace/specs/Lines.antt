-- What became of an entry, and the line that tells it.
use Rattle.std.specs.Prelude.{◌≡◌, ℕ, List, ◌++◌, codes}
use Rattle.std.specs.Fmt.{decimal}
use Rattle.msr_folders.specs.Paths.{folder_of, shown_path}
use Rattle.msr_replace.specs.Words.{text_of}
use Rattle.msr_replace.specs.declared.answers.DayAnswer.{DayAnswer}
use Rattle.msr_replace.specs.declared.answers.DayAnswer.TheVariants as answer
use Rattle.msr_replace.specs.declared.answers.DayRestored.{DayRestored}
use Rattle.msr_replace.specs.declared.answers.DayRestored.TheVariants as restored
use Rattle.msr_replace.specs.declared.lines.Outcome.{Outcome}
use Rattle.msr_replace.specs.declared.lines.Outcome.TheVariants.{Day, Undone, Refused, Skipped, Orphan, DayFailed, FolderFailed}
use Rattle.msr_replace.specs.declared.words.Word.{Word}
use Rattle.msr_replace.specs.declared.words.Word.TheVariants as word

abbrev pub word_of_answer : DayAnswer → Word
word_of_answer (answer.Replaced before after) = word.Replaced
word_of_answer answer.Same = word.Same
word_of_answer answer.Young = word.Young
word_of_answer (answer.Larger before after) = word.Larger
word_of_answer answer.Changed = word.Changed
word_of_answer answer.Missing = word.Missing
word_of_answer answer.NotShown = word.NotShown
word_of_answer answer.Differs = word.Differs
word_of_answer (answer.Refused refusal) = word.Refused

abbrev pub word_of_restored : DayRestored → Word
word_of_restored restored.Restored = word.Restored
word_of_restored restored.Changed = word.Changed
word_of_restored (restored.Refused refusal) = word.Refused

abbrev pub exchange_word : Outcome → Word
exchange_word (Day answer) = word_of_answer answer
exchange_word (Undone answer) = word_of_restored answer
exchange_word (Refused refusal) = word.Refused
exchange_word (Skipped fault) = word.Skipped
exchange_word Orphan = word.Orphan
exchange_word DayFailed = word.Unfinished
exchange_word FolderFailed = word.Unfinished

-- the bytes of the file that was replaced
abbrev pub before_of : Outcome → ℕ
before_of (Day (answer.Replaced before after)) = before
before_of _ = 0

-- those of the records that have its place
abbrev pub after_of : Outcome → ℕ
after_of (Day (answer.Replaced before after)) = after
after_of _ = 0

-- the end of a line that tells bytes before and after
abbrev pub bytes_text : (before after : ℕ) → List ℕ
bytes_text before after = codes " bytes " ++ (decimal before ++ (codes " " ++ (decimal after ++ codes "\n")))

-- the end of a line that says why
abbrev pub IsReason : List ℕ → Type 0
IsReason end = (why : List ℕ) × (end ≡ codes ": " ++ (why ++ codes "\n"))

-- how a line ends; the texts of refusals and faults are shown by tests
abbrev pub IsExchangeEnd : Outcome → List ℕ → Type 0
IsExchangeEnd (Day (answer.Replaced before after)) end = end ≡ bytes_text before after
IsExchangeEnd (Day (answer.Larger before after)) end = end ≡ bytes_text before after
IsExchangeEnd (Day (answer.Refused refusal)) end = IsReason end
IsExchangeEnd (Undone (restored.Refused refusal)) end = IsReason end
IsExchangeEnd (Refused refusal) end = IsReason end
IsExchangeEnd (Skipped fault) end = IsReason end
IsExchangeEnd outcome end = end ≡ codes "\n"

-- the path that is told of an entry: if the day failed, that of its folder
abbrev pub told_path : Outcome → (path : List ℕ) → List ℕ
told_path DayFailed path = folder_of path
told_path _ path = path

-- the line of an entry: its word, its path as it is shown, and an end
abbrev pub IsExchangeLine : (path : List ℕ) → Outcome → List ℕ → Type 0
IsExchangeLine path outcome line = (end : List ℕ) × IsExchangeEnd outcome end
    × (line ≡ text_of (exchange_word outcome) ++ (codes " " ++ (shown_path (told_path outcome path) ++ end)))
