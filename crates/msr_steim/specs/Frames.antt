-- The area that is written for some groups (SEED 2.4, appendix B).
use Rattle.std.specs.Prelude.{◌==◌, ◌||◌, nat_lt, ℕ, ◌-◌, ◌*◌, ◌/◌, ◌%◌, ℤ, ◌-ℤ◌, List, [], ◌∷◌, length, map, flat_map, slice_index_or, if◌then◌else◌}
use Rattle.std.specs.List.{range_with_len}
use Rattle.std.specs.Int.{cast_unsigned, w32}
use Rattle.std.specs.Int.Digits.{number_from_digits}
use Rattle.byteorder.specs.Endian.{big_bytes}
use Rattle.msr_base.specs.declared.storage.Version.{Version}
use Rattle.msr_steim.specs.Word.{group_code, group_word}

-- The group in the word with this number, from 0: the groups stand in the data words in order, without a
-- gap. The first word of each frame and the two constants are no data words.
abbrev pub group_in : List (List ℤ) → ℕ → List ℤ
group_in groups number =
    if nat_lt number 3 || number % 16 == 0 then []
    else slice_index_or groups (number - number / 16 - 3) []

-- the code of the word with this number
abbrev pub code_in : Version → List (List ℤ) → ℕ → ℕ
code_in version groups number = group_code version (length (group_in groups number))

-- the first word of the frame that begins with this number: the codes of its sixteen words, in order
unfoldable pub codes_word : Version → List (List ℤ) → ℕ → ℕ
codes_word version groups number = number_from_digits 4 (map (code_in version groups) (range_with_len number 16))

-- the word with this number
unfoldable pub frame_word : Version → ℤ → ℤ → List (List ℤ) → ℕ → ℕ
frame_word version first last groups number =
    if number % 16 == 0 then codes_word version groups number
    else if number == 1 then cast_unsigned w32 first
    else if number == 2 then cast_unsigned w32 last
    else group_word version (group_in groups number)

-- the words that stand in `frames` frames
abbrev pub frame_words : Version → ℤ → ℤ → List (List ℤ) → ℕ → List ℕ
frame_words version first last groups frames =
    map (frame_word version first last groups) (range_with_len 0 (16 * frames))

-- an area of `frames` frames consists of their words, big-endian
abbrev pub frame_bytes : Version → ℤ → ℤ → List (List ℤ) → ℕ → List ℕ
frame_bytes version first last groups frames =
    flat_map (big_bytes 4) (frame_words version first last groups frames)

-- the differences of some samples, the first of them from the sample before
abbrev pub differences_after : ℤ → List ℤ → List ℤ
differences_after before [] = []
differences_after before (x ∷ xs) = (x -ℤ before) ∷ differences_after x xs
