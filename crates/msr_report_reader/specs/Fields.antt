-- Where the fields of a report's text end.
use Rattle.std.specs.Prelude.{◌≡◌, ℕ, ◌+◌, ◌-◌, ◌*◌, ◌<◌, ◌==◌, cond, false, List, [], ◌∷◌, ◌++◌, slice_index, length, ℤ, codes}
use Rattle.std.specs.Fmt.{signed_decimal}
use Rattle.std.specs.Char.{is_ascii_digit}
use Rattle.std.specs.List.{prefix_len}
use Rattle.msr_time.specs.declared.btime.BTime.{BTime}
use Rattle.msr_report.specs.Text.{padded_decimal, field_text, hex_text}

-- the text does not go on with a digit
abbrev pub EndsNumber : List ℕ → Type 0
EndsNumber [] = Unit {0}
EndsNumber (byte ∷ _) = is_ascii_digit byte ≡ false

-- how many bytes a `-` and digits are that the text begins with
abbrev pub signed_len : List ℕ → ℕ
signed_len [] = 0
signed_len (byte ∷ bytes) = cond (byte == 45) (1 + prefix_len is_ascii_digit bytes)
    (prefix_len is_ascii_digit (byte ∷ bytes))

-- these are `count` bytes
pub record AreBytes (count : ℕ) (bytes : List ℕ) : Type 0 where
  pub many : length bytes ≡ count
  pub each : (place : ℕ) → slice_index bytes place < 256

-- the number that digits give after the number so far
abbrev pub with_digits : ℕ → List ℕ → ℕ
with_digits n [] = n
with_digits n (digit ∷ digits) = with_digits (10 * n + (digit - 48)) digits

-- the words of a date, of a clock time and of a whole time, and then more text
abbrev pub date_then : ℕ → ℕ → List ℕ → List ℕ
date_then year day more = padded_decimal 4 year ++ (44 ∷ (padded_decimal 3 day ++ more))

abbrev pub clock_then : ℕ → ℕ → ℕ → List ℕ → List ℕ
clock_then hour minute second more =
    padded_decimal 2 hour ++ (58 ∷ (padded_decimal 2 minute ++ (58 ∷ (padded_decimal 2 second ++ more))))

abbrev pub split_then : BTime → ℕ → List ℕ → List ℕ
split_then time micros more =
    date_then time.year time.day (44 ∷ clock_then time.hour time.minute time.second
    (46 ∷ (padded_decimal 6 (100 * time.fract + micros) ++ more)))

-- a name, a rate and flags, and then more text
abbrev pub name_then : List ℕ → List ℕ → List ℕ → List ℕ → List ℕ → List ℕ
name_then network station location channel more =
    field_text network ++ (46 ∷ (field_text station
    ++ (46 ∷ (field_text location ++ (46 ∷ (field_text channel ++ more))))))

abbrev pub rate_then : ℤ → ℤ → List ℕ → List ℕ
rate_then factor multiplier more = codes " rate "
    ++ (signed_decimal factor ++ (32 ∷ (signed_decimal multiplier ++ more)))

abbrev pub flags_then : ℕ → ℕ → ℕ → List ℕ → List ℕ
flags_then activity clock quality more =
    codes " flags " ++ (hex_text activity ++ (32 ∷ (hex_text clock ++ (32 ∷ (hex_text quality ++ more)))))
