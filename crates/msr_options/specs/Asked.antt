-- Which words ask for help or for the version, and with what status a line ends that asks for no task.
use Rattle.std.specs.Prelude.{◌≡◌, ◌⊎◌, ◌==◌, ◌&&◌, ◌||◌, ℕ, ⊤, Bool, not, true, false, List, [], ◌∷◌, ◌++◌, codes, slice_get, drop}
use Rattle.std.specs.List.{starts_with}
use Rattle.std.specs.Option.{IsSomeAnd}
use Rattle.std.specs.Str.{bytes_eq, chars}
use Rattle.msr_options.specs.Tasks.{word_of}
use Rattle.msr_options.specs.declared.task.NoTask.{NoTask}
use Rattle.msr_options.specs.declared.task.NoTask.TheVariants.{Ending, NotALength, Memory}
use Rattle.msr_options.specs.declared.task.Verb.{Verb}

-- the word is the flag of that name, or begins with a hyphen and the flag's letter
abbrev pub is_flag : (name : List ℕ) (letter : ℕ) → (word : List ℕ) → Bool
is_flag name letter word =
    bytes_eq word (codes "--" ++ name) || starts_with (λ x y. x == y) (chars word) (45 ∷ letter ∷ [])

-- `--help`, or a word that begins with `-h`
abbrev pub asks_help : (word : List ℕ) → Bool
asks_help word = is_flag (codes "help") 104 word

-- `--version`, or a word that begins with `-V`
abbrev pub asks_version : (word : List ℕ) → Bool
asks_version word = is_flag (codes "version") 86 word

-- help is asked for by one of the words before any `--`
abbrev pub ask_help : (words : List (List ℕ)) → Bool
ask_help [] = false
ask_help (word ∷ words) = not (bytes_eq word (codes "--")) && (asks_help word || ask_help words)

-- a dry run is asked for by one of the words before any `--`
abbrev pub ask_dry_run : (words : List (List ℕ)) → Bool
ask_dry_run [] = false
ask_dry_run (word ∷ words) = not (bytes_eq word (codes "--")) && (bytes_eq word (codes "--dry-run") || ask_dry_run words)

-- the word asks for help or the version in the place of a command
abbrev pub AsksAlone : (word : List ℕ) → Type 0
AsksAlone word = (word ≡ codes "help") ⊎ ((asks_help word || asks_version word) ≡ true)

-- the word is a command's, and one of those after it asks for help
pub record AsksOfCommand (word : List ℕ) (words : List (List ℕ)) : Type 0 where
  pub verb : Verb
  pub named : word ≡ word_of verb
  pub asked : ask_help words ≡ true

-- a line asks for help or the version by the word after the program's name, or for help by a word of a command
abbrev pub AsksText : (words : List (List ℕ)) → Type 0
AsksText words = IsSomeAnd (slice_get words 1) (λ word. AsksAlone word ⊎ AsksOfCommand word (drop 2 words))

-- a line asks for a dry run by a word after that of the command `archive`
pub record AsksDryRun (words : List (List ℕ)) : Type 0 where
  pub named : IsSomeAnd (slice_get words 1) (λ word. word ≡ codes "archive")
  pub asked : ask_dry_run (drop 1 words) ≡ true

-- no task, with status 0 for help and the version, if the line asks for them, and 2 for a bad command line
abbrev pub HasStatus : (words : List (List ℕ)) → NoTask → Type 0
HasStatus words (Ending ending) = ((ending.status ≡ 0) × AsksText words) ⊎ (ending.status ≡ 2)
HasStatus words NotALength = ⊤
HasStatus words Memory = ⊤
