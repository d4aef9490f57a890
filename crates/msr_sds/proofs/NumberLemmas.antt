-- Texts of decimal digits, as numbers.
use Rattle.std.proofs.Common.{◌≡◌, ℕ, ◌<◌, ◌≤◌, ◌^◌, List, length, get_or, All, IsTrue, Result, Ok, arith}
use Rattle.std.specs.Char.{is_ascii_digit}
use Rattle.std.specs.Int.{IsInRange}
use Rattle.std.specs.Str.Parse.{ParsesUnsigned, digits_value}
use Rattle.std.proofs.lemmas.Bool.Decides.{nat_tests}
use Rattle.std.proofs.lemmas.Str.Parse.{IsNumeralModel, numerals_by_value, tells_by_index, parse_gives, digits_value_short}

-- each byte is a digit
abbrev Digits : List ℕ → Type 0
Digits text = (i : ℕ) → i < length text → IsInRange 48 57 (get_or text i 0)

-- such texts are the numerals that std reads
abbrev numerals : IsNumeralModel Digits (digits_value 10)
numerals = numerals_by_value Digits tells_by_index

digits_of : (text : List ℕ) → All (λ b. IsTrue (is_ascii_digit b)) text → Digits text
digits_of text all i inside = let d = all i 0 inside in grind (arith, nat_tests)

-- one to four digits are read as their number
pub digits_are_read : {E : Type 0} (text : List ℕ) (r : Result ℕ E)
    → 0 < length text → length text ≤ 4
    → All (λ b. IsTrue (is_ascii_digit b)) text → ParsesUnsigned 16 10 text r
    → r ≡ Ok (digits_value 10 text)
digits_are_read text r some few all read =
    let digits = digits_of text all in
    let short = digits_value_short numerals text 4 digits few in
    let small : digits_value 10 text < 2 ^ 16 = omega (arith, short) in
    parse_gives numerals 16 text r read digits some small
