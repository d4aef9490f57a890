-- A line that stands in a text and what follows it stands in the text, if that is enough to judge the line.
use Rattle.std.proofs.Common.{◌≡◌, ◌∙◌, ap, sym, inl, inr, ◌⊎◌, arith, ℕ, zero, suc, ◌+◌, ◌*◌, ◌<◌, ◌≤◌, ◌/◌, ◌%◌, ◌==◌, Bool, true, false, cond, List, [], ◌∷◌, ◌++◌, length, length-append, decimal, codes, ℤ, pos, negsuc}
use Rattle.std.specs.Fmt.{digits, digits_onto, digit_glyph, signed_decimal}
use Rattle.std.specs.Char.{is_ascii_alphanumeric}
use Rattle.std.proofs.lemmas.List.{append-nil, length-replicate}
use Rattle.msr_rows.specs.declared.row.Key.{Key}
use Rattle.msr_report.specs.Text.{IsTimeText, byte_text, field_text, hex_text, split_text}
use Rattle.msr_report_reader.specs.Fields.{AreBytes}
use Rattle.msr_report_reader.specs.Content.{Content, IsReportKey, key_then}
use Rattle.msr_report_reader.specs.Fault.{IsOneLine}
use Rattle.msr_report_reader.proofs.Rest.{body_2, body_3, body_5}
use Rattle.msr_report_reader.specs.Draft.{IsEnough, IsSettled, line_limit}
use Rattle.msr_report_reader.proofs.LineFeeds.{same_cons}
use Rattle.msr_report_reader.proofs.Segments.{opening_body, end_body}

pub record Inside (body : List ℕ) (byte : ℕ) (x text more : List ℕ) : Type 0 where
  pub left : List ℕ
  pub is : text ≡ body ++ (byte ∷ left)
  pub behind : x ≡ left ++ more

settled_inside : (body : List ℕ) (byte : ℕ) (x text more : List ℕ) → IsOneLine body
    → (IsOneLine text → length body < length text) → text ++ more ≡ body ++ (byte ∷ x)
    → Inside body byte x text more
settled_inside body byte x [] more one long is = let none : length body < 0 = long tt in absurd (omega (arith, none))
settled_inside [] byte x (b ∷ text) more one long is =
    let both = same_cons b byte (text ++ more) x is in
    record { left = text; is = ap (λ (c : ℕ). c ∷ text) both.0; behind = sym both.1 }
settled_inside (c ∷ body) byte x (b ∷ text) more one long is =
    let both = same_cons b c (text ++ more) (body ++ (byte ∷ x)) is in
    let head : (b == 10) ≡ false = rw both.0 one.0 in
    let shorter : IsOneLine text → length body < length text = λ (rest : IsOneLine text).
    let longer : suc (length body) < suc (length text) = long (head, rest) in omega (arith, longer) in
    let rest = settled_inside body byte x text more one.1 shorter both.1 in
    record {
      left = rest.left;
      is = ap (λ (l : List ℕ). b ∷ l) rest.is ∙ ap (λ (d : ℕ). d ∷ (body ++ (byte ∷ rest.left))) both.0;
      behind = rest.behind;
    }

inside_by : (body : List ℕ) (byte : ℕ) (x : List ℕ) (begins : Bool) (text more : List ℕ) → IsOneLine body
    → length body < line_limit → begins ≡ true → IsSettled begins text ⊎ (more ≡ []) → text ++ more ≡ body ++ (byte ∷ x) → Inside body byte x text more
inside_by body byte x begins text more one small may (inl settled) is =
    settled_inside body byte x text more one (λ (l : IsOneLine text). let long = settled may l in omega (arith, long, small))
    is
inside_by body byte x begins text more one small may (inr none) is =
    record {
      left = x;
      is = sym (append-nil text) ∙ ap (λ (l : List ℕ). text ++ l) (sym none) ∙ is;
      behind = sym (append-nil x) ∙ ap (λ (l : List ℕ). x ++ l) (sym none);
    }

pub inside : (body : List ℕ) (byte : ℕ) (x : List ℕ) (begins : Bool) (text more : List ℕ) → IsOneLine body
    → length body < line_limit → begins ≡ true → IsEnough begins text more → text ++ more ≡ body ++ (byte ∷ x)
    → Inside body byte x text more
inside body byte x begins text more one small may enough is =
    inside_by body byte x begins text more one small may enough.enough is

cond_short : (b : Bool) (xs ys : List ℕ) (m : ℕ) → length xs ≤ m → length ys ≤ m → length (cond b xs ys) ≤ m
cond_short true xs ys m first second = first
cond_short false xs ys m first second = second

onto_short : (k n : ℕ) (acc : List ℕ) → length (digits_onto k 10 false n acc) ≤ k + length acc
onto_short zero n acc = omega arith
onto_short (suc k) n acc =
    let more = onto_short k (n / 10) (digit_glyph false (n % 10) ∷ acc) in
    cond_short (n / 10 == 0) (digit_glyph false (n % 10) ∷ acc)
    (digits_onto k 10 false (n / 10) (digit_glyph false (n % 10) ∷ acc)) (suc k + length acc) (omega arith)
    (omega (arith, more))

pub decimal_short : (n : ℕ) → length (decimal n) ≤ 64
unfolding digits
decimal_short n = onto_short 64 n []

signed_short : (z : ℤ) → length (signed_decimal z) ≤ 65
signed_short (pos n) = omega (arith, decimal_short n)
signed_short (negsuc n) = omega (arith, decimal_short (suc n))

byte_short : (b : ℕ) → length (byte_text b) ≤ 3
byte_short b =
    cond_short (is_ascii_alphanumeric b) (b ∷ []) (cond (b == 32) (95 ∷ []) (37 ∷ hex_text b)) 3 (omega arith)
    (cond_short (b == 32) (95 ∷ []) (37 ∷ hex_text b) 3 (omega arith) (omega arith))

names_short : (bytes : List ℕ) → length (field_text bytes) ≤ 3 * length bytes
names_short [] = omega arith
names_short (b ∷ bytes) =
    omega (arith, length-append (byte_text b) (field_text bytes), byte_short b, names_short bytes)

field_short : (count : ℕ) (bytes : List ℕ) → AreBytes count bytes → length (field_text bytes) ≤ 3 * count
field_short count bytes are = omega (arith, names_short bytes, are.many)

time_short : (t : ℤ) (word : List ℕ) → IsTimeText t word → length word ≤ 408
time_short t word is =
    let same = ap (λ (l : List ℕ). length l) is.is in
    let year = decimal_short is.time.year in
    let day = decimal_short is.time.day in
    let hour = decimal_short is.time.hour in
    let minute = decimal_short is.time.minute in
    let second = decimal_short is.time.second in
    let part = decimal_short (100 * is.time.fract + is.micros) in
    let long : length (split_text is.time is.micros) ≤ 408 = simp (length-append, length-replicate)
    (omega (arith, year, day, hour, minute, second, part)) in
    omega (arith, same, long)

key_short : (key : Key) (more : List ℕ) → IsReportKey key → length (key_then key more) ≤ 350 + length more
key_short key more is =
    let network = field_short 2 key.network is.network in
    let station = field_short 5 key.station is.station in
    let location = field_short 2 key.location is.location in
    let channel = field_short 3 key.channel is.channel in
    let factor = signed_short key.rate.factor in
    let multiplier = signed_short key.rate.multiplier in
    let correction = signed_short key.correction in
    let timing = decimal_short key.timing in
    simp length-append (omega (arith, network, station, location, channel, factor, multiplier, correction, timing))

pub opening_short : (key : Key) (t : ℤ) (word : List ℕ) (samples records : ℕ) → IsReportKey key → IsTimeText t word
    → length (opening_body key word samples records) < line_limit
opening_short key t word samples records is time =
    let key_long = key_short key (codes " start " ++ (word ++ (codes " samples "
    ++ (decimal samples ++ (codes " records " ++ decimal records))))) is in
    let word_long = time_short t word time in
    let samples_long = decimal_short samples in
    let records_long = decimal_short records in
    let rest : length (codes " start " ++ (word ++ (codes " samples "
    ++ (decimal samples ++ (codes " records " ++ decimal records))))) ≤ 600 =
    simp length-append (omega (arith, word_long, samples_long, records_long)) in
    omega (arith, key_long, rest)

pub end_short : (segments records : ℕ) → length (end_body segments records) < line_limit
end_short segments records =
    let first = decimal_short segments in
    let second = decimal_short records in
    simp length-append (omega (arith, first, second))

pub short_2 : (content : Content) → length (body_2 content) < line_limit
short_2 content = let bytes = decimal_short content.bytes in simp length-append (omega (arith, bytes))

pub short_3 : (content : Content) → length (body_3 content) < line_limit
short_3 content = let tolerance = decimal_short content.tolerance in simp length-append (omega (arith, tolerance))

pub short_5 : (content : Content) → length (body_5 content) < line_limit
short_5 content =
    let read = decimal_short content.counts.read in
    let empty = decimal_short content.counts.empty in
    let mismatched = decimal_short content.counts.mismatched in
    simp length-append (omega (arith, read, empty, mismatched))
