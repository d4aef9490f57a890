-- Lines have no line feed inside.
use Rattle.std.proofs.Common.{◌≡◌, ◌∙◌, ap, sym, refl, arith, inl, inr, ◌⊎◌, ℕ, suc, ◌+◌, ◌<◌, ◌≤◌, ◌^◌, ◌/◌, ◌%◌, ◌==◌, Bool, true, false, List, [], ◌∷◌, ◌++◌, append_assoc, decimal, flat_map, cond, All, slice_index}
use Rattle.std.specs.Char.{is_ascii_digit, is_ascii_alphanumeric}
use Rattle.std.specs.Fmt.{digit_glyph}
use Rattle.std.specs.Str.{all_ascii_digits}
use Rattle.std.proofs.lemmas.Bool.{cases_lt, eqb-false, le-ltb, lt-ltb, ne_eqb}
use Rattle.msr_report.specs.Text.{hex_text, byte_text, field_text, padded_decimal}
use Rattle.msr_report_reader.specs.Fault.{IsOfLines, IsOneLine}
use Rattle.msr_report_reader.proofs.Digits.{both_true, decimal_is_digits, digit_range}
use Rattle.msr_report_reader.proofs.Padded.{reads_padded}

pub one_append : (a b : List ℕ) → IsOneLine a → IsOneLine b → IsOneLine (a ++ b)
one_append [] b one_a one_b = one_b
one_append (x ∷ a) b one_a one_b = (one_a.0, one_append a b one_a.1 one_b)

digit_is_no_feed : (d : ℕ) → is_ascii_digit d ≡ true → (d == 10) ≡ false
digit_is_no_feed d h = let range = digit_range d h in ne_eqb d 10 (λ e. omega (arith, range.least))

pub digits_are_one : (ds : List ℕ) → all_ascii_digits ds ≡ true → IsOneLine ds
digits_are_one [] all = tt
digits_are_one (d ∷ ds) all =
    let both = both_true (is_ascii_digit d) (all_ascii_digits ds) all in
    (digit_is_no_feed d both.0, digits_are_one ds both.1)

pub decimal_is_one : (n : ℕ) → n < 2 ^ 64 → IsOneLine (decimal n)
decimal_is_one n small = digits_are_one (decimal n) (decimal_is_digits n small)

pub padded_is_one : (width n : ℕ) → 1 ≤ width → n < 10 ^ width → n < 10 ^ 6 → IsOneLine (padded_decimal width n)
padded_is_one width n some fits small = digits_are_one (padded_decimal width n)
    (reads_padded width n some fits small).all

pub glyph_low : (n : ℕ) → n < 10 → digit_glyph false n ≡ 48 + n
glyph_low n small = rw (lt-ltb n 10 small) refl

pub glyph_high : (n : ℕ) → 10 ≤ n → digit_glyph false n ≡ 87 + n
glyph_high n large = rw (le-ltb n 10 large) refl

no_feed_by : (n : ℕ) → (n < 10) ⊎ (10 ≤ n) → digit_glyph false n ≡ 10 → ⊥
no_feed_by n (inl low) is = omega (arith, glyph_low n low)
no_feed_by n (inr high) is = omega (arith, glyph_high n high)

pub glyph_is_no_feed : (n : ℕ) → n < 16 → (digit_glyph false n == 10) ≡ false
glyph_is_no_feed n small = ne_eqb (digit_glyph false n) 10 (no_feed_by n (cases_lt n 10))

pub hex_is_one : (n : ℕ) → n < 256 → IsOneLine (hex_text n)
hex_is_one n small = (glyph_is_no_feed (n / 16) (omega arith), (glyph_is_no_feed (n % 16) (omega arith), tt))

letter_is_no_feed : (b : ℕ) → is_ascii_alphanumeric b ≡ true → (b == 10) ≡ false
letter_is_no_feed b h = ne_eqb b 10 (λ e. let wrong : false ≡ true = rw e at h in cc wrong)

byte_by : (b : ℕ) (letter space : Bool) → is_ascii_alphanumeric b ≡ letter → b < 256
    → IsOneLine (cond letter (b ∷ []) (cond space (95 ∷ []) (37 ∷ hex_text b)))
byte_by b true space is small = (letter_is_no_feed b is, tt)
byte_by b false true is small = (refl, tt)
byte_by b false false is small = (refl, hex_is_one b small)

pub byte_is_one : (b : ℕ) → b < 256 → IsOneLine (byte_text b)
byte_is_one b small = byte_by b (is_ascii_alphanumeric b) (b == 32) refl small

pub field_is_one : (bytes : List ℕ) → ((k : ℕ) → slice_index bytes k < 256) → IsOneLine (field_text bytes)
field_is_one [] each = tt
field_is_one (b ∷ bytes) each = one_append (byte_text b) (field_text bytes) (byte_is_one b (each 0))
    (field_is_one bytes (λ k. each (suc k)))

pub separators_are_one : (ns : List ℕ) → All (λ n. n < 2 ^ 64) ns → IsOneLine (flat_map (λ n. 32 ∷ decimal n) ns)
separators_are_one [] each = tt
separators_are_one (n ∷ ns) each =
    one_append (32 ∷ decimal n) (flat_map (λ n. 32 ∷ decimal n) ns) (refl, decimal_is_one n (each 0 0 (omega arith)))
    (separators_are_one ns (λ k d within. each (suc k) d (omega arith)))

-- what the first line takes of lines
pub record Peeled (n : ℕ) (first rest body more : List ℕ) : Type 0 where
  pub left : List ℕ
  pub lines : IsOfLines n left
  pub first_is : first ≡ body ++ (10 ∷ left)
  pub more_is : more ≡ left ++ rest

pub record SameLine (line xs body ys : List ℕ) : Type 0 where
  pub line_is : line ≡ body
  pub rest_is : xs ≡ ys

feed_is_feed : (b : ℕ) (xs ys : List ℕ) → (b == 10) ≡ false → b ∷ xs ≡ 10 ∷ ys → ⊥
feed_is_feed b xs ys other e = let same : b ≡ 10 = cc in eqb-false b 10 other same

pub same_cons : (a b : ℕ) (xs ys : List ℕ) → a ∷ xs ≡ b ∷ ys → (a ≡ b) × (xs ≡ ys)
same_cons a b xs ys e = (cc, cc)

pub same_line : (line xs body ys : List ℕ) → IsOneLine line → IsOneLine body
    → line ++ (10 ∷ xs) ≡ body ++ (10 ∷ ys) → SameLine line xs body ys
same_line [] xs [] ys one_line one_body e = record { line_is = refl; rest_is = (same_cons 10 10 xs ys e).1 }
same_line [] xs (b ∷ body) ys one_line one_body e = absurd (feed_is_feed b (body ++ (10 ∷ ys)) xs one_body.0 (sym e))
same_line (a ∷ line) xs [] ys one_line one_body e = absurd (feed_is_feed a (line ++ (10 ∷ xs)) ys one_line.0 e)
same_line (a ∷ line) xs (b ∷ body) ys one_line one_body e =
    let both = same_cons a b (line ++ (10 ∷ xs)) (body ++ (10 ∷ ys)) e in
    let s = same_line line xs body ys one_line.1 one_body.1 both.1 in
    record { line_is = ap (λ (l : List ℕ). a ∷ l) s.line_is ∙ ap (λ (x : ℕ). x ∷ body) both.0; rest_is = s.rest_is }

pub peel : (n : ℕ) (first rest body more : List ℕ) → IsOfLines (suc n) first → IsOneLine body
    → first ++ rest ≡ body ++ (10 ∷ more) → Peeled n first rest body more
peel n first rest body more lines one is =
    let line : List ℕ = lines.0 in
    let left : List ℕ = lines.1.0 in
    let first_is : first ≡ line ++ (10 ∷ left) = lines.1.1.2 in
    let s = same_line line (left ++ rest) body more lines.1.1.0 one
    (sym (append_assoc line (10 ∷ left) rest) ∙ ap (λ (l : List ℕ). l ++ rest) (sym first_is) ∙ is) in
    record {
      left = left;
      lines = lines.1.1.1;
      first_is = first_is
          ∙ ap (λ (l : List ℕ). l ++ (10 ∷ left)) s.line_is;
      more_is = sym s.rest_is;
    }
