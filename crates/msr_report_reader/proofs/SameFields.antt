-- If two texts are the same, so are the fields at their prefixes, and the texts after these.
use Rattle.std.proofs.Common.{◌≡◌, ◌∙◌, ap, sym, refl, arith, ℕ, suc, ◌+◌, ◌*◌, ◌/◌, ◌%◌, ◌<◌, ◌≤◌, ◌^◌, ◌==◌, Bool, true, false, cond, List, [], ◌∷◌, ◌++◌, append_assoc, length, take, drop, decimal, slice_index, ℤ, pos, ◌+ℤ◌}
use Rattle.std.specs.Char.{is_ascii_digit, is_ascii_alphanumeric}
use Rattle.std.specs.Fmt.{signed_decimal, digit_glyph}
use Rattle.std.specs.Int.{w16, w32}
use Rattle.std.specs.Int.RustNames.{FitsSigned}
use Rattle.std.specs.List.{prefix_len}
use Rattle.std.proofs.lemmas.Bool.{eqb-false, eqb-true}
use Rattle.std.proofs.lemmas.Fmt.{decimal_injective, signed_decimal_injective}
use Rattle.jiff_core.proofs.CalendarLemmas.{days_in_year_bounds}
use Rattle.msr_time.specs.declared.btime.BTime.{BTime}
use Rattle.msr_time.specs.Instant.{IsTime, instant_of}
use Rattle.msr_report.specs.Text.{hex_text, byte_text, field_text, padded_decimal, IsTimeText}
use Rattle.msr_report_reader.specs.Fields.{EndsNumber, AreBytes, signed_len, with_digits, clock_then, split_then}
use Rattle.msr_report_reader.proofs.Digits.{parts, signed_parts, short, decimal_is_digits}
use Rattle.msr_report_reader.proofs.LineFeeds.{same_cons}
use Rattle.msr_report_reader.proofs.Bytes.{same_glyph}
use Rattle.msr_report_reader.proofs.Instants.{split_same}
use Rattle.msr_report_reader.proofs.Padded.{reads_padded, padded_parts}

pub same_number : (m n : ℕ) (xs ys : List ℕ) → m < 2 ^ 64 → n < 2 ^ 64 → EndsNumber xs → EndsNumber ys
    → decimal m ++ xs ≡ decimal n ++ ys → (m ≡ n) × (xs ≡ ys)
same_number m n xs ys small_m small_n ends_xs ends_ys is =
    let text : List ℕ = decimal m ++ xs in
    let count : ℕ = prefix_len is_ascii_digit text in
    let first = parts text (decimal m) xs (take count text) (drop count text) count refl refl refl refl
    (decimal_is_digits m small_m) ends_xs in
    let second = parts text (decimal n) ys (take count text) (drop count text) count refl refl refl is
    (decimal_is_digits n small_n) ends_ys in
    (decimal_injective m n small_m small_n (sym first.0 ∙ second.0), sym first.1 ∙ second.1)

pub same_signed : (y z : ℤ) (xs ys : List ℕ) → FitsSigned w32 y → FitsSigned w32 z → EndsNumber xs → EndsNumber ys
    → signed_decimal y ++ xs ≡ signed_decimal z ++ ys → (y ≡ z) × (xs ≡ ys)
same_signed y z xs ys fits_y fits_z ends_xs ends_ys is =
    let text : List ℕ = signed_decimal y ++ xs in
    let count : ℕ = signed_len text in
    let first = signed_parts text y xs (take count text) (drop count text) count refl refl refl refl fits_y ends_xs in
    let second = signed_parts text z ys (take count text) (drop count text) count refl refl refl is fits_z ends_ys in
    (signed_decimal_injective y z (short y fits_y) (short z fits_z) (sym first.0 ∙ second.0), sym first.1 ∙ second.1)

pub same_hex : (m n : ℕ) (xs ys : List ℕ) → m < 256 → n < 256 → hex_text m ++ xs ≡ hex_text n ++ ys
    → (m ≡ n) × (xs ≡ ys)
same_hex m n xs ys small_m small_n is =
    let high = same_cons (digit_glyph false (m / 16)) (digit_glyph false (n / 16))
    (digit_glyph false (m % 16) ∷ xs) (digit_glyph false (n % 16) ∷ ys) is in
    let low = same_cons (digit_glyph false (m % 16)) (digit_glyph false (n % 16)) xs ys high.1 in
    let first : m / 16 ≡ n / 16 = same_glyph (m / 16) (n / 16) (omega arith) (omega arith) high.0 in
    let second : m % 16 ≡ n % 16 = same_glyph (m % 16) (n % 16) (omega arith) (omega arith) low.0 in
    (omega arith, low.1)

pub differ : (a b : ℕ) (xs ys : List ℕ) → (a == b) ≡ false → a ∷ xs ≡ b ∷ ys → ⊥
differ a b xs ys other is = eqb-false a b other (same_cons a b xs ys is).0

-- how a byte of a name is written: as itself, as `_`, or as `%` and its digits
abbrev byte_as : ℕ → Bool → Bool → List ℕ
byte_as b letter space = cond letter (b ∷ []) (cond space (95 ∷ []) (37 ∷ hex_text b))

is_space : (b : ℕ) → (b == 32) ≡ true → b ≡ 32
is_space b test = eqb-true b 32 test

no_letter : (b c : ℕ) → is_ascii_alphanumeric b ≡ true → is_ascii_alphanumeric c ≡ false → b ≡ c → ⊥
no_letter b c letter other is = let same : is_ascii_alphanumeric b ≡ is_ascii_alphanumeric c =
    ap is_ascii_alphanumeric is in cc

same_byte_by : (a b : ℕ) (la sa lb sb : Bool) (xs ys : List ℕ) → is_ascii_alphanumeric a ≡ la → (a == 32) ≡ sa
    → is_ascii_alphanumeric b ≡ lb → (b == 32) ≡ sb
    → a < 256 → b < 256 → byte_as a la sa ++ xs ≡ byte_as b lb sb ++ ys → (a ≡ b) × (xs ≡ ys)
same_byte_by a b true sa true sb xs ys is_la is_sa is_lb is_sb small_a small_b is = same_cons a b xs ys is
same_byte_by a b true sa false true xs ys is_la is_sa is_lb is_sb small_a small_b is =
    absurd (no_letter a 95 is_la refl (same_cons a 95 xs ys is).0)
same_byte_by a b true sa false false xs ys is_la is_sa is_lb is_sb small_a small_b is =
    absurd (no_letter a 37 is_la refl (same_cons a 37 xs (hex_text b ++ ys) is).0)
same_byte_by a b false true true sb xs ys is_la is_sa is_lb is_sb small_a small_b is =
    absurd (no_letter b 95 is_lb refl (sym (same_cons 95 b xs ys is).0))
same_byte_by a b false true false true xs ys is_la is_sa is_lb is_sb small_a small_b is =
    (is_space a is_sa ∙ sym (is_space b is_sb), (same_cons 95 95 xs ys is).1)
same_byte_by a b false true false false xs ys is_la is_sa is_lb is_sb small_a small_b is =
    absurd (differ 95 37 xs (hex_text b ++ ys) refl is)
same_byte_by a b false false true sb xs ys is_la is_sa is_lb is_sb small_a small_b is =
    absurd (no_letter b 37 is_lb refl (sym (same_cons 37 b (hex_text a ++ xs) ys is).0))
same_byte_by a b false false false true xs ys is_la is_sa is_lb is_sb small_a small_b is =
    absurd (differ 37 95 (hex_text a ++ xs) ys refl is)
same_byte_by a b false false false false xs ys is_la is_sa is_lb is_sb small_a small_b is =
    same_hex a b xs ys small_a small_b (same_cons 37 37 (hex_text a ++ xs) (hex_text b ++ ys) is).1

same_byte : (a b : ℕ) (xs ys : List ℕ) → a < 256 → b < 256 → byte_text a ++ xs ≡ byte_text b ++ ys → (a ≡ b) × (xs ≡ ys)
same_byte a b xs ys small_a small_b is =
    same_byte_by a b (is_ascii_alphanumeric a) (a == 32) (is_ascii_alphanumeric b)
    (b == 32) xs ys refl refl refl refl small_a small_b is

same_names : (cs bs xs ys : List ℕ) → length cs ≡ length bs → ((k : ℕ) → slice_index cs k < 256)
    → ((k : ℕ) → slice_index bs k < 256)
    → field_text cs ++ xs ≡ field_text bs ++ ys → (cs ≡ bs) × (xs ≡ ys)
same_names [] [] xs ys many small_cs small_bs is = (refl, is)
same_names [] (b ∷ bs) xs ys many small_cs small_bs is = absurd (omega (arith, many))
same_names (a ∷ cs) [] xs ys many small_cs small_bs is = absurd (omega (arith, many))
same_names (a ∷ cs) (b ∷ bs) xs ys many small_cs small_bs is =
    let split : byte_text a ++ (field_text cs ++ xs) ≡ byte_text b ++ (field_text bs ++ ys) =
    sym (append_assoc (byte_text a) (field_text cs) xs) ∙ is ∙ append_assoc (byte_text b) (field_text bs) ys in
    let first = same_byte a b (field_text cs ++ xs) (field_text bs ++ ys) (small_cs 0) (small_bs 0) split in
    let rest = same_names cs bs xs ys (omega (arith, many)) (λ k. small_cs (suc k)) (λ k. small_bs (suc k)) first.1 in
    (ap (λ (x : ℕ). x ∷ cs) first.0 ∙ ap (λ (l : List ℕ). b ∷ l) rest.0, rest.1)

pub same_field : (count : ℕ) (cs bs xs ys : List ℕ) → AreBytes count cs → AreBytes count bs
    → field_text cs ++ xs ≡ field_text bs ++ ys → (cs ≡ bs) × (xs ≡ ys)
same_field count cs bs xs ys are_cs are_bs is =
    same_names cs bs xs ys (are_cs.many ∙ sym are_bs.many) are_cs.each are_bs.each is

same_padded : (width m n : ℕ) (xs ys : List ℕ) → 1 ≤ width → m < 10 ^ width → n < 10 ^ width → m < 10 ^ 6 → n < 10 ^ 6
    → padded_decimal width m ++ xs ≡ padded_decimal width n ++ ys → (m ≡ n) × (xs ≡ ys)
same_padded width m n xs ys some fits_m fits_n small_m small_n is =
    let text : List ℕ = padded_decimal width m ++ xs in
    let is_m = reads_padded width m some fits_m small_m in
    let is_n = reads_padded width n some fits_n small_n in
    let first = padded_parts text xs (take width text) (drop width text)
    (padded_decimal width m) width refl refl refl is_m.long in
    let second = padded_parts text ys (take width text) (drop width text)
    (padded_decimal width n) width refl refl is is_n.long in
    (sym is_m.is ∙ ap (with_digits 0) (sym first.0 ∙ second.0) ∙ is_n.is, sym first.1 ∙ second.1)

-- the same time, and the same microseconds below its fraction
record IsSameTime (time other : BTime) (m n : ℕ) (xs ys : List ℕ) : Type 0 where
  time_is : time ≡ other
  micros_are : m ≡ n
  rest_is : xs ≡ ys

pub same_fields : (a b : BTime) → a.year ≡ b.year → a.day ≡ b.day → a.hour ≡ b.hour → a.minute ≡ b.minute
    → a.second ≡ b.second → a.fract ≡ b.fract → a ≡ b
same_fields a b year day hour minute second fract =
    let same : record {
      year = a.year;
      day = a.day;
      hour = a.hour;
      minute = a.minute;
      second = a.second;
      fract = a.fract;
    }
    ≡ record { year = b.year; day = b.day; hour = b.hour; minute = b.minute; second = b.second; fract = b.fract } =
    cc in same

same_split : (time other : BTime) (m n : ℕ) (xs ys : List ℕ) → IsTime time → IsTime other → m < 100 → n < 100
    → split_then time m xs ≡ split_then other n ys → IsSameTime time other m n xs ys
same_split time other m n xs ys is_time is_other below_m below_n is =
    let most = (days_in_year_bounds (pos time.year)).0 in
    let most_other = (days_in_year_bounds (pos other.year)).0 in
    let fraction : ℕ = 100 * time.fract + m in
    let other_fraction : ℕ = 100 * other.fract + n in
    let behind : List ℕ = padded_decimal 6 fraction ++ xs in
    let other_behind : List ℕ = padded_decimal 6 other_fraction ++ ys in
    let clock : List ℕ = clock_then time.hour time.minute time.second (46 ∷ behind) in
    let other_clock : List ℕ = clock_then other.hour other.minute other.second (46 ∷ other_behind) in
    let year = same_padded 4 time.year other.year _ _ (omega arith) (omega (arith, is_time.year))
    (omega (arith, is_other.year)) (omega (arith, is_time.year)) (omega (arith, is_other.year)) is in
    let day = same_padded 3 time.day other.day (44 ∷ clock) (44 ∷ other_clock) (omega arith)
    (omega (arith, is_time.day, most)) (omega (arith, is_other.day, most_other))
    (omega (arith, is_time.day, most)) (omega (arith, is_other.day, most_other)) (same_cons 44 44 _ _ year.1).1 in
    let hour = same_padded 2 time.hour other.hour _ _ (omega arith) (omega (arith, is_time.hour))
    (omega (arith, is_other.hour)) (omega (arith, is_time.hour)) (omega (arith, is_other.hour))
    (same_cons 44 44 clock other_clock day.1).1 in
    let minute = same_padded 2 time.minute other.minute _ _ (omega arith) (omega (arith, is_time.minute))
    (omega (arith, is_other.minute)) (omega (arith, is_time.minute)) (omega (arith, is_other.minute))
    (same_cons 58 58 _ _ hour.1).1 in
    let second = same_padded 2 time.second other.second (46 ∷ behind) (46 ∷ other_behind) (omega arith)
    (omega (arith, is_time.second)) (omega (arith, is_other.second)) (omega (arith, is_time.second))
    (omega (arith, is_other.second)) (same_cons 58 58 _ _ minute.1).1 in
    let part = same_padded 6 fraction other_fraction xs ys (omega arith) (omega (arith, is_time.fract))
    (omega (arith, is_other.fract)) (omega (arith, is_time.fract)) (omega (arith, is_other.fract))
    (same_cons 46 46 behind other_behind second.1).1 in
    record {
      time_is = same_fields time other year.0 day.0 hour.0 minute.0 second.0 (omega (arith, part.0));
      micros_are = omega (arith, part.0);
      rest_is = part.1;
    }

pub same_time : (s t : ℤ) (word other xs ys : List ℕ) → IsTimeText s word → IsTimeText t other
    → word ++ xs ≡ other ++ ys → (s ≡ t) × (xs ≡ ys)
same_time s t word other xs ys is_s is_t is =
    let split : split_then is_s.time is_s.micros xs ≡ split_then is_t.time is_t.micros ys =
    sym (split_same is_s.time is_s.micros xs) ∙ ap (λ (l : List ℕ). l ++ xs) (sym is_s.is) ∙ is
    ∙ ap (λ (l : List ℕ). l ++ ys) is_t.is ∙ split_same is_t.time is_t.micros ys in
    let same = same_split is_s.time is_t.time is_s.micros is_t.micros xs ys is_s.split.is_time is_t.split.is_time
    is_s.split.below is_t.split.below split in
    let sums : instant_of is_s.time +ℤ pos is_s.micros ≡ instant_of is_t.time +ℤ pos is_t.micros =
    ap (λ (time : BTime). instant_of time +ℤ pos is_s.micros) same.time_is
    ∙ ap (λ (n : ℕ). instant_of is_t.time +ℤ pos n) same.micros_are in
    (sym is_s.split.sum ∙ sums ∙ is_t.split.sum, same.rest_is)

pub wider : (z : ℤ) → FitsSigned w16 z → FitsSigned w32 z
wider z fits = omega (arith, fits)
