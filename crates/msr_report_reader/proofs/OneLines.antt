-- The lines of a segment and the last line have no line feed inside.
use Rattle.std.proofs.Common.{◌≡◌, refl, rules, arith, ℕ, zero, suc, ◌+◌, ◌*◌, ◌<◌, ◌/◌, ◌%◌, ◌==◌, Bool, true, false, cond, List, [], ◌∷◌, ◌++◌, decimal, codes, ℤ, pos, negsuc, IsTrue}
use Rattle.std.specs.Fmt.{digits, digits_onto, digit_glyph, signed_decimal}
use Rattle.std.specs.Int.{w16}
use Rattle.std.specs.Int.RustNames.{FitsSigned}
use Rattle.std.proofs.lemmas.Bool.{ne_eqb}
use Rattle.jiff_core.proofs.CalendarLemmas.{days_in_year_bounds}
use Rattle.msr_time.specs.declared.btime.BTime.{BTime}
use Rattle.msr_time.specs.Instant.{IsTime}
use Rattle.msr_header.specs.Reading.{is_quality}
use Rattle.msr_rows.specs.declared.row.Key.{Key}
use Rattle.msr_report.specs.Text.{IsTimeText, split_text, date_text, clock_text, padded_decimal, hex_text, field_text}
use Rattle.msr_report_reader.specs.Fields.{AreBytes, name_then, rate_then, flags_then}
use Rattle.msr_report_reader.specs.Content.{IsReportKey, key_then}
use Rattle.msr_report_reader.specs.Fault.{IsOneLine}
use Rattle.msr_report_reader.proofs.LineFeeds.{one_append, padded_is_one, hex_is_one, field_is_one, glyph_is_no_feed}
use Rattle.msr_report_reader.proofs.Segments.{opening_body, end_body}

onto_by : (b : Bool) (acc more : List ℕ) → IsOneLine acc → IsOneLine more → IsOneLine (cond b acc more)
onto_by true acc more one one_more = one
onto_by false acc more one one_more = one_more

onto_is_one : (k n : ℕ) (acc : List ℕ) → IsOneLine acc → IsOneLine (digits_onto k 10 false n acc)
onto_is_one zero n acc one = one
onto_is_one (suc k) n acc one =
    let here : IsOneLine (digit_glyph false (n % 10) ∷ acc) = (glyph_is_no_feed (n % 10) (omega arith), one) in
    onto_by (n / 10 == 0) (digit_glyph false (n % 10) ∷ acc)
    (digits_onto k 10 false (n / 10) (digit_glyph false (n % 10) ∷ acc)) here
    (onto_is_one k (n / 10) (digit_glyph false (n % 10) ∷ acc) here)

-- also of a number that fits no 64 bits
pub any_decimal_is_one : (n : ℕ) → IsOneLine (decimal n)
unfolding digits
any_decimal_is_one n = onto_is_one 64 n [] tt

any_signed_is_one : (z : ℤ) → IsOneLine (signed_decimal z)
any_signed_is_one (pos n) = any_decimal_is_one n
any_signed_is_one (negsuc n) = (refl, any_decimal_is_one (suc n))

date_is_one : (time : BTime) → IsTime time → IsOneLine (date_text time)
date_is_one time is =
    let most = (days_in_year_bounds (pos time.year)).0 in
    one_append (padded_decimal 4 time.year) (44 ∷ padded_decimal 3 time.day)
    (padded_is_one 4 time.year (omega arith) (omega (arith, is.year)) (omega (arith, is.year)))
    (refl, padded_is_one 3 time.day (omega arith) (omega (arith, is.day, most)) (omega (arith, is.day, most)))

clock_is_one : (time : BTime) → IsTime time → IsOneLine (clock_text time)
clock_is_one time is =
    one_append (padded_decimal 2 time.hour) (58 ∷
    (padded_decimal 2 time.minute ++ (58 ∷ padded_decimal 2 time.second))) (padded_is_one 2 time.hour
    (omega arith) (omega (arith, is.hour)) (omega (arith, is.hour))) (
      refl,
      one_append (padded_decimal 2 time.minute) (58 ∷ padded_decimal 2 time.second)
          (padded_is_one 2 time.minute (omega arith) (omega (arith, is.minute)) (omega (arith, is.minute)))
          (refl, padded_is_one 2 time.second (omega arith) (omega (arith, is.second)) (omega (arith, is.second))),
    )

split_is_one : (time : BTime) (micros : ℕ) → IsTime time → micros < 100 → IsOneLine (split_text time micros)
split_is_one time micros is below =
    one_append (date_text time) (44 ∷ (clock_text time ++ (46 ∷ padded_decimal 6 (100 * time.fract + micros))))
    (date_is_one time is) (
      refl,
      one_append (clock_text time) (46 ∷ padded_decimal 6 (100 * time.fract + micros)) (clock_is_one time is) (
        refl,
        padded_is_one 6 (100 * time.fract + micros) (omega arith) (omega (arith, is.fract)) (omega (arith, is.fract)),
      ),
    )

pub time_is_one : (t : ℤ) (word : List ℕ) → IsTimeText t word → IsOneLine word
time_is_one t word is = rw is.is (split_is_one is.time is.micros is.split.is_time is.split.below)

quality_is_no_feed : (b : ℕ) → IsTrue (is_quality b) → (b == 10) ≡ false
quality_is_no_feed b h = ne_eqb b 10 (λ e. let wrong : false ≡ true = rw e at h in cc wrong)

name_is_one : (network station location channel more : List ℕ) → AreBytes 2 network → AreBytes 5 station
    → AreBytes 2 location → AreBytes 3 channel
    → IsOneLine more → IsOneLine (name_then network station location channel more)
name_is_one network station location channel more is_network is_station is_location is_channel one =
    one_append (field_text network) (46 ∷ (field_text station
    ++ (46 ∷ (field_text location ++ (46 ∷ (field_text channel ++ more)))))) (field_is_one network is_network.each) (
      refl,
      one_append (field_text station) (46 ∷ (field_text location ++ (46 ∷ (field_text channel ++ more))))
          (field_is_one station is_station.each) (
            refl,
            one_append (field_text location) (46 ∷ (field_text channel ++ more))
                (field_is_one location is_location.each)
                (refl, one_append (field_text channel) more (field_is_one channel is_channel.each) one),
          ),
    )

rate_is_one : (factor multiplier : ℤ) (more : List ℕ) → FitsSigned w16 factor → FitsSigned w16 multiplier
    → IsOneLine more → IsOneLine (rate_then factor multiplier more)
rate_is_one factor multiplier more fits_factor fits_multiplier one =
    one_append (codes " rate ") (signed_decimal factor ++ (32 ∷ (signed_decimal multiplier ++ more))) (search rules)
    (one_append (signed_decimal factor) (32 ∷ (signed_decimal multiplier ++ more)) (any_signed_is_one factor)
    (refl, one_append (signed_decimal multiplier) more (any_signed_is_one multiplier) one))

flags_are_one : (activity clock quality : ℕ) (more : List ℕ) → activity < 256 → clock < 256 → quality < 256
    → IsOneLine more → IsOneLine (flags_then activity clock quality more)
flags_are_one activity clock quality more small_activity small_clock small_quality one =
    one_append (codes " flags ") (hex_text activity
    ++ (32 ∷ (hex_text clock ++ (32 ∷ (hex_text quality ++ more))))) (search rules)
    (one_append (hex_text activity) (32 ∷ (hex_text clock ++ (32 ∷ (hex_text quality ++ more))))
    (hex_is_one activity small_activity) (
      refl,
      one_append (hex_text clock) (32 ∷ (hex_text quality ++ more)) (hex_is_one clock small_clock)
          (refl, one_append (hex_text quality) more (hex_is_one quality small_quality) one),
    ))

key_is_one : (key : Key) (more : List ℕ) → IsReportKey key → IsOneLine more → IsOneLine (key_then key more)
key_is_one key more is one =
    let after_flags : List ℕ = codes " correction "
    ++ (signed_decimal key.correction ++ (codes " timing " ++ (decimal key.timing ++ more))) in
    let after_rate : List ℕ = flags_then key.activity key.clock key.data_quality after_flags in
    let after_quality : List ℕ = rate_then key.rate.factor key.rate.multiplier after_rate in
    one_append (codes "segment ") (name_then key.network key.station key.location key.channel
    (32 ∷ (key.quality ∷ after_quality))) (search rules) (name_is_one key.network key.station key.location key.channel
    (32 ∷ (key.quality ∷ after_quality)) is.network is.station is.location is.channel (
      refl,
      (
        quality_is_no_feed key.quality is.quality,
        rate_is_one key.rate.factor key.rate.multiplier after_rate is.factor is.multiplier
            (flags_are_one key.activity key.clock key.data_quality after_flags is.activity is.clock is.data_quality
            (one_append (codes " correction ") (signed_decimal key.correction
            ++ (codes " timing " ++ (decimal key.timing ++ more))) (search rules)
            (one_append (signed_decimal key.correction) (codes " timing " ++ (decimal key.timing ++ more))
            (any_signed_is_one key.correction)
            (one_append (codes " timing ") (decimal key.timing ++ more) (search rules)
            (one_append (decimal key.timing) more (any_decimal_is_one key.timing) one))))),
      ),
    ))

pub opening_is_one : (key : Key) (t : ℤ) (word : List ℕ) (samples records : ℕ) → IsReportKey key → IsTimeText t word
    → IsOneLine (opening_body key word samples records)
opening_is_one key t word samples records is time =
    key_is_one key (codes " start " ++ (word ++ (codes " samples "
    ++ (decimal samples ++ (codes " records " ++ decimal records))))) is
    (one_append (codes " start ") (word ++ (codes " samples "
    ++ (decimal samples ++ (codes " records " ++ decimal records)))) (search rules)
    (one_append word (codes " samples " ++ (decimal samples ++ (codes " records " ++ decimal records)))
    (time_is_one t word time)
    (one_append (codes " samples ") (decimal samples ++ (codes " records " ++ decimal records)) (search rules)
    (one_append (decimal samples) (codes " records " ++ decimal records) (any_decimal_is_one samples)
    (one_append (codes " records ") (decimal records) (search rules) (any_decimal_is_one records))))))

pub end_is_one : (segments records : ℕ) → IsOneLine (end_body segments records)
end_is_one segments records =
    one_append (codes "end ") (decimal segments ++ (codes " segments " ++ (decimal records ++ codes " records")))
    (search rules) (one_append (decimal segments) (codes " segments " ++ (decimal records ++ codes " records"))
    (any_decimal_is_one segments)
    (one_append (codes " segments ") (decimal records ++ codes " records") (search rules)
    (one_append (decimal records) (codes " records") (any_decimal_is_one records) (search rules))))
