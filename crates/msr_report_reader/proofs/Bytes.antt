-- Bytes of a name, one after another.
use Rattle.std.proofs.Common.{◌≡◌, ◌≢◌, ◌∙◌, ap, arith, inl, inr, ◌⊎◌, ℕ, ◌+◌, ◌-◌, ◌*◌, ◌/◌, ◌<◌, ◌≤◌, ◌%◌, ◌^◌, ◌==◌, Bool, true, false, List, [], ◌∷◌, ◌++◌, append_assoc, drop, length, refl, slice_index, sym, take}
use Rattle.std.specs.Prelude.{cond, nat_lt, slice_set}
use Rattle.std.specs.Char.{is_ascii_alphanumeric}
use Rattle.std.specs.Fmt.{digit_glyph}
use Rattle.std.proofs.lemmas.Bool.{cases_lt, ltb-false, ltb-true}
use Rattle.std.proofs.lemmas.List.{drop_all, drop_more, length-set, take_all, take_more, take_more_set}
use Rattle.msr_report.specs.Text.{byte_text, field_text, hex_text}
use Rattle.msr_report_reader.specs.Fields.{AreBytes}
use Rattle.msr_report_reader.proofs.LineFeeds.{glyph_high, glyph_low, same_cons}

-- The first bytes of a name were read, and the rest of the text follows. If the text is that of any name, they are its
-- first ones.
pub record AreRead (count at : ℕ) (text bytes rest : List ℕ) : Type 0 where
  pub many : length bytes ≡ count
  pub found : text ≡ field_text (take at bytes) ++ rest
  pub only : (all more : List ℕ) → AreBytes count all → text ≡ field_text all ++ more
      → (take at bytes ≡ take at all) × (rest ≡ field_text (drop at all) ++ more)

pub none_read : (count : ℕ) (text bytes : List ℕ) → length bytes ≡ count → AreRead count 0 text bytes text
none_read count text bytes many = record { many = many; found = refl; only = λ all more are is. (refl, is) }

pushed : (front : List ℕ) (b : ℕ) (more : List ℕ)
    → field_text (front ++ b ∷ []) ++ more ≡ field_text front ++ (byte_text b ++ more)
pushed [] b more = append_assoc (byte_text b) [] more
pushed (a ∷ front) b more =
    append_assoc (byte_text a) (field_text (front ++ b ∷ [])) more
    ∙ ap (λ (l : List ℕ). byte_text a ++ l) (pushed front b more)
    ∙ sym (append_assoc (byte_text a) (field_text front) (byte_text b ++ more))

-- the next byte of a name that the text may be of
next_of : (count at : ℕ) (all rest more : List ℕ) → at < count → AreBytes count all
    → rest ≡ field_text (drop at all) ++ more
    → rest ≡ byte_text (slice_index all at) ++ (field_text (drop (at + 1) all) ++ more)
next_of count at all rest more within are is =
    is ∙ ap (λ (l : List ℕ). field_text l ++ more) (drop_more all at 0 (omega (arith, within, are.many)))
    ∙ append_assoc (byte_text (slice_index all at)) (field_text (drop (at + 1) all)) more

pub one_read : (count at b : ℕ) (text bytes rest more : List ℕ) → at < count → AreRead count at text bytes rest
    → rest ≡ byte_text b ++ more
    → ((d : ℕ) (left : List ℕ) → d < 256 → rest ≡ byte_text d ++ left → (b ≡ d) × (more ≡ left))
    → AreRead count (at + 1) text (slice_set bytes at b) more
one_read count at b text bytes rest more within read is only =
    let stored = take_more_set bytes at b (omega (arith, within, read.many)) in
    record {
      many = length-set bytes at b ∙ read.many;
      found = read.found ∙ ap (λ (l : List ℕ). field_text (take at bytes) ++ l) is ∙ sym (pushed (take at bytes) b more)
          ∙ ap (λ (l : List ℕ). field_text l ++ more) (sym stored);
      only = λ all left are whole.
          let before = read.only all left are whole in
          let one = only (slice_index all at) (field_text (drop (at + 1) all) ++ left) (are.each at)
          (next_of count at all rest left within are before.1) in (
            stored ∙ ap (λ (l : List ℕ). l ++ b ∷ []) before.0
                ∙ ap (λ (d : ℕ). take at all ++ d ∷ []) one.0
                ∙ sym (take_more all at 0 (omega (arith, within, are.many))),
            one.1,
          );
    }

-- no name goes on with what is no byte of a name
pub no_more_read : (count at : ℕ) (text bytes rest : List ℕ) → at < count → AreRead count at text bytes rest
    → ((d : ℕ) (left : List ℕ) → d < 256 → rest ≡ byte_text d ++ left → ⊥)
    → (all more : List ℕ) → AreBytes count all → text ≡ field_text all ++ more → ⊥
no_more_read count at text bytes rest within read none all more are whole =
    none (slice_index all at) (field_text (drop (at + 1) all) ++ more) (are.each at)
    (next_of count at all rest more within are (read.only all more are whole).1)

pub all_read : (count at : ℕ) (text bytes rest : List ℕ) → at ≡ count → AreRead count at text bytes rest
    → text ≡ field_text bytes ++ rest
all_read count at text bytes rest end read =
    read.found ∙ ap (λ (l : List ℕ). field_text l ++ rest) (take_all at bytes (omega (arith, end, read.many)))

pub only_read : (count at : ℕ) (text bytes rest : List ℕ) → at ≡ count → AreRead count at text bytes rest
    → (all more : List ℕ) → AreBytes count all → text ≡ field_text all ++ more → (bytes ≡ all) × (rest ≡ more)
only_read count at text bytes rest end read all more are whole =
    let same = read.only all more are whole in (
      sym (take_all at bytes (omega (arith, end, read.many))) ∙ same.0
          ∙ take_all at all (omega (arith, end, are.many)),
      same.1 ∙ ap (λ (l : List ℕ). field_text l ++ more) (drop_all at all (omega (arith, end, are.many))),
    )

-- `%` begins only the text of a byte that is no letter, no digit and no space
pub escaped : (b : ℕ) (letter space : Bool) (tail more : List ℕ) → is_ascii_alphanumeric b ≡ letter → (b == 32) ≡ space
    → 37 ∷ tail ≡ cond letter (b ∷ []) (cond space (95 ∷ []) (37 ∷ hex_text b)) ++ more
    → (tail ≡ hex_text b ++ more) × ((is_ascii_alphanumeric b ≡ false) × (b ≢ 32))
escaped b true space tail more plain is_space is =
    let wrong : false ≡ true = rw (sym (same_cons 37 b tail more is).0) at plain in absurd (cc wrong)
escaped b false true tail more plain is_space is = absurd (omega (arith, (same_cons 37 95 tail more is).0))
escaped b false false tail more plain is_space is =
    let other : b ≢ 32 = λ e. let wrong : true ≡ false = rw e at is_space in cc wrong in
    ((same_cons 37 37 tail (hex_text b ++ more) is).1, (plain, other))

-- a hexadecimal digit, as its byte less that of `0`, or of `a`, tells it
same_by : (m n : ℕ) → (m < 10) ⊎ (10 ≤ m) → (n < 10) ⊎ (10 ≤ n) → m < 16 → n < 16
    → digit_glyph false m ≡ digit_glyph false n → m ≡ n
same_by m n (inl low_m) (inl low_n) small_m small_n is =
    omega (arith, sym (glyph_low m low_m) ∙ is ∙ glyph_low n low_n)
same_by m n (inl low_m) (inr high_n) small_m small_n is =
    omega (arith, sym (glyph_low m low_m) ∙ is ∙ glyph_high n high_n)
same_by m n (inr high_m) (inl low_n) small_m small_n is =
    omega (arith, sym (glyph_high m high_m) ∙ is ∙ glyph_low n low_n)
same_by m n (inr high_m) (inr high_n) small_m small_n is =
    omega (arith, sym (glyph_high m high_m) ∙ is ∙ glyph_high n high_n)

pub same_glyph : (m n : ℕ) → m < 16 → n < 16 → digit_glyph false m ≡ digit_glyph false n → m ≡ n
same_glyph m n small_m small_n is = same_by m n (cases_lt m 10) (cases_lt n 10) small_m small_n is

pub record IsHexDigit (byte digit : ℕ) : Type 0 where
  pub small : digit < 16
  pub is : byte ≡ digit_glyph false digit

pub decimal_hex : (byte digit : ℕ) → byte < 256 → digit ≡ (byte + (2 ^ 8 - 48)) % 2 ^ 8 → digit < 10
    → IsHexDigit byte digit
decimal_hex byte digit fits is small =
    let same : byte ≡ 48 + digit = omega arith in
    record { small = omega arith; is = same ∙ sym (glyph_low digit small) }

pub letter_hex : (byte letter : ℕ) → byte < 256 → letter ≡ (byte + (2 ^ 8 - 97)) % 2 ^ 8 → letter < 6
    → IsHexDigit byte (letter + 10)
letter_hex byte letter fits is small =
    let same : byte ≡ 87 + (letter + 10) = omega arith in
    record { small = omega arith; is = same ∙ sym (glyph_high (letter + 10) (omega arith)) }

pub one_hex : (byte digit n : ℕ) → IsHexDigit byte digit → n < 16 → byte ≡ digit_glyph false n → digit ≡ n
one_hex byte digit n is small same = same_glyph digit n is.small small (sym is.is ∙ same)

no_hex_by : (low : Bool) (byte digit letter n : ℕ) → nat_lt n 10 ≡ low → byte < 256
    → digit ≡ (byte + (2 ^ 8 - 48)) % 2 ^ 8 → 10 ≤ digit → letter ≡ (byte + (2 ^ 8 - 97)) % 2 ^ 8 → 6 ≤ letter
    → n < 16 → byte ≡ digit_glyph false n → ⊥
no_hex_by true byte digit letter n test fits is_digit no_digit is_letter no_letter small is =
    let low = ltb-true n 10 test in omega (arith, glyph_low n low)
no_hex_by false byte digit letter n test fits is_digit no_digit is_letter no_letter small is =
    let high = ltb-false n 10 test in omega (arith, glyph_high n high)

pub no_hex : (byte digit letter n : ℕ) → byte < 256 → digit ≡ (byte + (2 ^ 8 - 48)) % 2 ^ 8 → 10 ≤ digit
    → letter ≡ (byte + (2 ^ 8 - 97)) % 2 ^ 8 → 6 ≤ letter → n < 16 → byte ≡ digit_glyph false n → ⊥
no_hex byte digit letter n = no_hex_by (nat_lt n 10) byte digit letter n refl

-- two hexadecimal digits
pub hex_two : (text tail rest : List ℕ) (a b high low : ℕ) → text ≡ a ∷ tail → tail ≡ b ∷ rest → high < 16
    → a ≡ digit_glyph false high → low < 16 → b ≡ digit_glyph false low → text ≡ hex_text (high * 16 + low) ++ rest
hex_two text tail rest a b high low is_text is_tail small_high is_high small_low is_low =
    let first : (high * 16 + low) / 16 ≡ high = omega arith in
    let second : (high * 16 + low) % 16 ≡ low = omega arith in
    rw (is_text, is_tail, is_high, is_low, first, second) refl

pub hex_front : (text tail rest : List ℕ) (a n : ℕ) → text ≡ a ∷ tail → text ≡ hex_text n ++ rest
    → (a ≡ digit_glyph false (n / 16)) × (tail ≡ digit_glyph false (n % 16) ∷ rest)
hex_front text tail rest a n is_text is =
    same_cons a (digit_glyph false (n / 16)) tail (digit_glyph false (n % 16) ∷ rest) (sym is_text ∙ is)
