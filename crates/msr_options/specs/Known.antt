-- What is known from the lines of earlier runs.
use Rattle.std.specs.Prelude.{if◌then◌else◌, ◌||◌, ◌==◌, not, ℕ, Bool, true, false, List, [], ◌∷◌, ◌++◌, codes, Option, None, Some}
use Rattle.std.specs.List.{list_any, starts_with}
use Rattle.std.specs.Option.{option_or}
use Rattle.std.specs.Str.{bytes_eq}
use Rattle.msr_options.specs.declared.known.Known.{Known}
use Rattle.msr_options.specs.declared.known.Known.TheVariants.{Lines}

-- the line tells of something refused
abbrev pub is_refusal : List ℕ → Bool
is_refusal line = starts_with (λ x y. x == y) line (codes "refused ")

abbrev pub has_line : List (List ℕ) → List ℕ → Bool
has_line lines line = list_any (bytes_eq line) lines

-- the lines with one more: a line that tells of nothing refused, or is there, adds nothing
abbrev pub with_line : List (List ℕ) → List ℕ → List (List ℕ)
with_line lines line = if not (is_refusal line) || has_line lines line then lines else lines ++ line ∷ []

-- what stands after a beginning, if the line has it
abbrev pub rest_after : (beginning line : List ℕ) → Option (List ℕ)
rest_after [] line = Some line
rest_after (one ∷ beginning) [] = None
rest_after (one ∷ beginning) (other ∷ line) = if one == other then rest_after beginning line else None

-- that of the first line that has it
abbrev pub text_after : (beginning : List ℕ) → List (List ℕ) → Option (List ℕ)
text_after beginning [] = None
text_after beginning (line ∷ lines) = option_or (rest_after beginning line) (text_after beginning lines)

-- whether lines are known
abbrev pub knows_any : Known → Bool
knows_any (Lines lines) = true
knows_any _ = false

abbrev pub knows : Known → (line : List ℕ) → Bool
knows (Lines lines) line = has_line lines.now line
knows _ line = false

abbrev pub text_known : Known → (beginning : List ℕ) → Option (List ℕ)
text_known (Lines lines) beginning = text_after beginning lines.now
text_known _ beginning = None
