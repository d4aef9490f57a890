-- The line that shows how far a walk is.
use Rattle.std.specs.Prelude.{if◌then◌else◌, ◌≡◌, ◌+◌, ◌-◌, ◌^◌, ◌/◌, ◌%◌, ◌<◌, ◌≤◌, ◌==◌, min, nat_lt, ℕ, List, ◌++◌, codes, take, Option, None, Some, IsCharBoundary}
use Rattle.std.specs.Char.{encode_utf8, is_ascii_control}
use Rattle.std.specs.Fmt.{decimal}
use Rattle.std.specs.Io.KnownBytes.{Appends}
use Rattle.std.specs.List.{flat_map}
use Rattle.std.specs.Str.{chars}

-- a sum that stays the greatest number of 64 bits once it is that
abbrev pub added : ℕ → ℕ → ℕ
added one other = min (one + other) (2 ^ 64 - 1)

-- a character as a terminal gets it: a control character, which might be a command, as `?`
abbrev pub plain_letter : ℕ → List ℕ
plain_letter letter = if is_ascii_control letter then codes "?" else encode_utf8 letter

abbrev pub plain_path : List ℕ → List ℕ
plain_path path = flat_map plain_letter (chars path)

-- the three last digits of a count
abbrev pub digits_of : ℕ → List ℕ
digits_of count = decimal (count / 100 % 10) ++ (decimal (count / 10 % 10) ++ decimal (count % 10))

-- a count, of which the last two groups of three digits are set apart
abbrev pub count_text : ℕ → List ℕ
count_text count =
    if nat_lt count 1_000 then decimal count
    else if nat_lt (count / 1_000) 1_000 then decimal (count / 1_000) ++ (codes "," ++ digits_of count)
    else decimal (count / 1_000 / 1_000) ++ (codes "," ++ (digits_of (count / 1_000) ++ (codes "," ++ digits_of count)))

-- a tenth of the unit in which so many bytes are told
abbrev pub tenth_of : ℕ → ℕ
tenth_of bytes =
    if nat_lt bytes 1_000_000 then 100
    else if nat_lt bytes 1_000_000_000 then 100_000
    else if nat_lt bytes 1_000_000_000_000 then 100_000_000
    else 100_000_000_000

abbrev pub unit_of : ℕ → List ℕ
unit_of bytes =
    if nat_lt bytes 1_000_000 then codes "kB"
    else if nat_lt bytes 1_000_000_000 then codes "MB"
    else if nat_lt bytes 1_000_000_000_000 then codes "GB"
    else codes "TB"

-- so many bytes, in tenths of a unit, rounded down
abbrev pub amount_text : ℕ → List ℕ
amount_text bytes =
    if nat_lt bytes 1_000 then decimal bytes ++ codes " bytes"
    else decimal (bytes / tenth_of bytes / 10) ++ (codes "." ++ (decimal (bytes / tenth_of bytes % 10) ++ (codes " " ++ unit_of bytes)))

abbrev pub noun_of : ℕ → List ℕ
noun_of files = if files == 1 then codes "file" else codes "files"

-- what is told of a walk
abbrev pub progress_text : (files bytes : ℕ) → (folder : List ℕ) → List ℕ
progress_text files bytes folder =
    count_text files ++ (codes " " ++ (noun_of files ++ (codes ", " ++ (amount_text bytes ++ (codes ": " ++ plain_path folder)))))

-- A text cut to so many bytes, before the first character that does not fit whole.
pub record IsCutToFit (most : ℕ) (text cut : List ℕ) : Type 0 where
  pub kept : ℕ
  pub is : cut ≡ take kept text
  pub fits : kept ≤ most
  pub boundary : IsCharBoundary text kept
  pub nearest : (more : ℕ) → kept < more → more ≤ most → ¬ (IsCharBoundary text more)

-- it fits a terminal of 80 columns
abbrev pub IsProgressLine : (files bytes : ℕ) → (folder line : List ℕ) → Type 0
IsProgressLine files bytes folder line = IsCutToFit 79 (progress_text files bytes folder) line

-- A writer has got the line, over what stood in its place.
pub record ShowsLine (files bytes : ℕ) (folder : List ℕ) (old new : Option (List ℕ)) : Type 0 where
  pub line : List ℕ
  pub is_progress : IsProgressLine files bytes folder line
  pub told : Appends old new (codes "\r" ++ (line ++ codes "\u{1b}[K"))

-- what is said of a writer's bytes, if there is one
abbrev pub OnScreen : {E : Type 0} → (E → Option (List ℕ)) → ((old new : Option (List ℕ)) → Type 0) → (old new : Option E) → Type 0
OnScreen contents says None new = new ≡ None
OnScreen contents says (Some old) None = ⊥
OnScreen contents says (Some old) (Some new) = says (contents old) (contents new)

abbrev pub ShowsOn : {E : Type 0} → (E → Option (List ℕ)) → (files bytes : ℕ) → (folder : List ℕ) → (old new : Option E) → Type 0
ShowsOn contents files bytes folder old new = OnScreen contents (ShowsLine files bytes folder) old new

abbrev pub ClearsOn : {E : Type 0} → (E → Option (List ℕ)) → (old new : Option E) → Type 0
ClearsOn contents old new = OnScreen contents (λ before after. Appends before after (codes "\r\u{1b}[K")) old new
