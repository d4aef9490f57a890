-- Two reports with the same text say the same.
use Rattle.std.proofs.Common.{◌≡◌, ◌∙◌, ap, sym, refl, arith, ℕ, suc, ◌<◌, ◌^◌, List, [], ◌∷◌, ◌++◌, append_assoc, decimal, codes, flat_map, All, map, Ok, Err}
use Rattle.std.proofs.lemmas.List.{append-nil, append_cancel_left}
use Rattle.std.specs.Fmt.{signed_decimal}
use Rattle.msr_time.specs.SampleRate.{SampleRate}
use Rattle.msr_rows.specs.declared.row.Key.{Key}
use Rattle.msr_report.specs.Text.{separators_line, end_line, AreSegmentTexts, IsReportText}
use Rattle.msr_base.specs.declared.counts.Counts.{Counts}
use Rattle.msr_report.specs.declared.report.SegmentLine.{SegmentLine}
use Rattle.msr_report.specs.declared.report.Report.{Report}
use Rattle.msr_report_reader.specs.Fields.{EndsNumber, name_then, rate_then, flags_then}
use Rattle.msr_report_reader.specs.Content.{Content, ContentLine, IsReportKey, IsContent, IsFirst, IsContentLine, IsContentText, AreContentLineTexts, IsOpening, key_then, first_then, content_line, content_of, content_records}
use Rattle.msr_report_reader.specs.Laws.{OneReport, NoLineAtFault, TextIsReadBack}
use Rattle.msr_report_reader.specs.declared.fault.ReportFault.TheVariants.{Line, Read, Memory}
use Rattle.msr_report_reader.proofs.RestOfText.{record_length_small, counts_then, counts_split, same_kinds}
use Rattle.msr_report_reader.proofs.LineFeeds.{same_cons}
use Rattle.msr_report_reader.proofs.SegmentsRead.{first_same, opening_not_end, records_same, length-lines}
use Rattle.msr_report_reader.proofs.SameFields.{differ, same_number, same_signed, same_hex, same_field, same_time, wider}
use Rattle.msr_report_reader.proofs.Segments.{first_line_then}
use Rattle.msr_report_reader.proofs.Separators.{spaced, line_then, ends_number}
use Rattle.msr_report_reader.proofs.NextLines.{opens_with}

-- the same name of a channel
record IsSameName (key other : Key) (xs ys : List ℕ) : Type 0 where
  network : key.network ≡ other.network
  station : key.station ≡ other.station
  location : key.location ≡ other.location
  channel : key.channel ≡ other.channel
  rest : xs ≡ ys

same_name : (key other : Key) (xs ys : List ℕ) → IsReportKey key → IsReportKey other
    → name_then key.network key.station key.location key.channel xs
    ≡ name_then other.network other.station other.location other.channel ys → IsSameName key other xs ys
same_name key other xs ys is_key is_other is =
    let network = same_field 2 key.network other.network _ _ is_key.network is_other.network is in
    let station = same_field 5 key.station other.station _ _ is_key.station is_other.station
    (same_cons 46 46 _ _ network.1).1 in
    let location = same_field 2 key.location other.location _ _ is_key.location is_other.location
    (same_cons 46 46 _ _ station.1).1 in
    let channel = same_field 3 key.channel other.channel xs ys is_key.channel is_other.channel
    (same_cons 46 46 _ _ location.1).1 in
    record { network = network.0; station = station.0; location = location.0; channel = channel.0; rest = channel.1 }

-- the same rate and flags
record IsSameSettings (key other : Key) (xs ys : List ℕ) : Type 0 where
  factor : key.rate.factor ≡ other.rate.factor
  multiplier : key.rate.multiplier ≡ other.rate.multiplier
  activity : key.activity ≡ other.activity
  clock : key.clock ≡ other.clock
  data_quality : key.data_quality ≡ other.data_quality
  rest : xs ≡ ys

same_settings : (key other : Key) (xs ys : List ℕ) → IsReportKey key → IsReportKey other
    → rate_then key.rate.factor key.rate.multiplier (flags_then key.activity key.clock key.data_quality xs)
    ≡ rate_then other.rate.factor other.rate.multiplier (flags_then other.activity other.clock other.data_quality ys)
    → IsSameSettings key other xs ys
same_settings key other xs ys is_key is_other is =
    let flags : List ℕ = flags_then key.activity key.clock key.data_quality xs in
    let other_flags : List ℕ = flags_then other.activity other.clock other.data_quality ys in
    let multiplier_then : List ℕ = 32 ∷ (signed_decimal key.rate.multiplier ++ flags) in
    let other_multiplier_then : List ℕ = 32 ∷ (signed_decimal other.rate.multiplier ++ other_flags) in
    let start = append_cancel_left (codes " rate ") (signed_decimal key.rate.factor ++ multiplier_then)
    (signed_decimal other.rate.factor ++ other_multiplier_then) is in
    let factor = same_signed key.rate.factor other.rate.factor multiplier_then other_multiplier_then
    (wider key.rate.factor is_key.factor) (wider other.rate.factor is_other.factor) refl refl start in
    let multiplier = same_signed key.rate.multiplier other.rate.multiplier flags other_flags
    (wider key.rate.multiplier is_key.multiplier) (wider other.rate.multiplier is_other.multiplier) refl refl
    (same_cons 32 32 _ _ factor.1).1 in
    let activity = same_hex key.activity other.activity _ _ is_key.activity is_other.activity
    (append_cancel_left (codes " flags ") _ _ multiplier.1) in
    let clock = same_hex key.clock other.clock _ _ is_key.clock is_other.clock (same_cons 32 32 _ _ activity.1).1 in
    let data_quality = same_hex key.data_quality other.data_quality xs ys is_key.data_quality is_other.data_quality
    (same_cons 32 32 _ _ clock.1).1 in
    record {
      factor = factor.0;
      multiplier = multiplier.0;
      activity = activity.0;
      clock = clock.0;
      data_quality = data_quality.0;
      rest = data_quality.1;
    }

same_rate : (a b : SampleRate) → a.factor ≡ b.factor → a.multiplier ≡ b.multiplier → a ≡ b
same_rate a b factor multiplier =
    let same : record { factor = a.factor; multiplier = a.multiplier }
    ≡ record { factor = b.factor; multiplier = b.multiplier } = cc in same

key_is : (a b : Key) (xs ys us vs : List ℕ) → IsSameName a b xs ys → a.quality ≡ b.quality
    → IsSameSettings a b us vs → a.rate ≡ b.rate → a.correction ≡ b.correction → a.timing ≡ b.timing → a ≡ b
key_is a b xs ys us vs name quality settings rate correction timing =
    let same : record {
      network = a.network;
      station = a.station;
      location = a.location;
      channel = a.channel;
      quality = a.quality;
      rate = a.rate;
      activity = a.activity;
      clock = a.clock;
      data_quality = a.data_quality;
      correction = a.correction;
      timing = a.timing;
    }
    ≡ record {
      network = b.network;
      station = b.station;
      location = b.location;
      channel = b.channel;
      quality = b.quality;
      rate = b.rate;
      activity = b.activity;
      clock = b.clock;
      data_quality = b.data_quality;
      correction = b.correction;
      timing = b.timing;
    } = cc in same

pub same_key : (key other : Key) (xs ys : List ℕ) → IsReportKey key → IsReportKey other → EndsNumber xs → EndsNumber ys
    → key_then key xs ≡ key_then other ys → (key ≡ other) × (xs ≡ ys)
same_key key other xs ys is_key is_other ends_xs ends_ys is =
    let timing_then : List ℕ = codes " timing " ++ (decimal key.timing ++ xs) in
    let other_timing_then : List ℕ = codes " timing " ++ (decimal other.timing ++ ys) in
    let correction_then : List ℕ = codes " correction " ++ (signed_decimal key.correction ++ timing_then) in
    let other_correction_then : List ℕ = codes " correction "
    ++ (signed_decimal other.correction ++ other_timing_then) in
    let settings_then : List ℕ = rate_then key.rate.factor key.rate.multiplier
    (flags_then key.activity key.clock key.data_quality correction_then) in
    let other_settings_then : List ℕ = rate_then other.rate.factor other.rate.multiplier
    (flags_then other.activity other.clock other.data_quality other_correction_then) in
    let name = same_name key other (32 ∷ (key.quality ∷ settings_then))
    (32 ∷ (other.quality ∷ other_settings_then)) is_key is_other (append_cancel_left (codes "segment ") _ _ is) in
    let quality = same_cons key.quality other.quality settings_then other_settings_then
    (same_cons 32 32 (key.quality ∷ settings_then) (other.quality ∷ other_settings_then) name.rest).1 in
    let settings = same_settings key other correction_then other_correction_then is_key is_other quality.1 in
    let correction = same_signed key.correction other.correction timing_then other_timing_then is_key.correction
    is_other.correction refl refl (append_cancel_left (codes " correction ") _ _ settings.rest) in
    let timing = same_number key.timing other.timing xs ys (omega (arith, is_key.timing))
    (omega (arith, is_other.timing)) ends_xs ends_ys (append_cancel_left (codes " timing ") _ _ correction.1) in (
      key_is key other _ _ _ _ name quality.0 settings
          (same_rate key.rate other.rate settings.factor settings.multiplier) correction.0 timing.0,
      timing.1,
    )

same_spaced : (ns ms xs ys : List ℕ) → All (λ n. n < 2 ^ 64) ns → All (λ n. n < 2 ^ 64) ms
    → flat_map spaced ns ++ (10 ∷ xs) ≡ flat_map spaced ms ++ (10 ∷ ys) → (ns ≡ ms) × (xs ≡ ys)
same_spaced [] [] xs ys each_n each_m is = (refl, (same_cons 10 10 xs ys is).1)
same_spaced [] (m ∷ ms) xs ys each_n each_m is =
    absurd (differ 10 32 xs ((decimal m ++ flat_map spaced ms) ++ (10 ∷ ys)) refl is)
same_spaced (n ∷ ns) [] xs ys each_n each_m is =
    absurd (differ 32 10 ((decimal n ++ flat_map spaced ns) ++ (10 ∷ xs)) ys refl is)
same_spaced (n ∷ ns) (m ∷ ms) xs ys each_n each_m is =
    let behind : List ℕ = flat_map spaced ns ++ (10 ∷ xs) in
    let other_behind : List ℕ = flat_map spaced ms ++ (10 ∷ ys) in
    let split : spaced n ++ behind ≡ spaced m ++ other_behind =
    sym (append_assoc (spaced n) (flat_map spaced ns) (10 ∷ xs)) ∙ is
    ∙ append_assoc (spaced m) (flat_map spaced ms) (10 ∷ ys) in
    let first = same_number n m behind other_behind (each_n 0 0 (omega arith)) (each_m 0 0 (omega arith))
    (ends_number ns xs) (ends_number ms ys) (same_cons 32 32 (decimal n ++ behind)
    (decimal m ++ other_behind) split).1 in
    let rest = same_spaced ns ms xs ys (λ k d within. each_n (suc k) d (omega arith))
    (λ k d within. each_m (suc k) d (omega arith)) first.1 in
    (ap (λ (x : ℕ). x ∷ ns) first.0 ∙ ap (λ (l : List ℕ). m ∷ l) rest.0, rest.1)

pub same_separators : (ns ms xs ys : List ℕ) → All (λ n. n < 2 ^ 64) ns → All (λ n. n < 2 ^ 64) ms
    → separators_line ns ++ xs ≡ separators_line ms ++ ys → (ns ≡ ms) × (xs ≡ ys)
same_separators ns ms xs ys each_n each_m is =
    same_spaced ns ms xs ys each_n each_m (append_cancel_left (codes "separators")
    (flat_map spaced ns ++ (10 ∷ xs)) (flat_map spaced ms ++ (10 ∷ ys))
    (sym (line_then ns xs) ∙ is ∙ line_then ms ys))

line_is : (a b : ContentLine) → a.key ≡ b.key → a.start ≡ b.start → a.samples ≡ b.samples → a.records ≡ b.records
    → a.separators ≡ b.separators → a ≡ b
line_is a b key start samples records separators =
    let same : record {
      key = a.key;
      start = a.start;
      samples = a.samples;
      records = a.records;
      separators = a.separators;
    }
    ≡ record {
      key = b.key;
      start = b.start;
      samples = b.samples;
      records = b.records;
      separators = b.separators;
    } = cc in same

-- the same two lines of a segment, and the same text after them
same_line_of : (a b : ContentLine) (text other xs ys : List ℕ) → IsContentLine a → IsContentLine b
    → IsOpening a.key a.start a.samples a.records (separators_line a.separators ++ xs) text
    → IsOpening b.key b.start b.samples b.records (separators_line b.separators ++ ys) other
    → text ≡ other → (a ≡ b) × (xs ≡ ys)
same_line_of a b text other xs ys is_a is_b opens_a opens_b is =
    let records_then : List ℕ = codes " records "
    ++ (decimal a.records ++ (10 ∷ (separators_line a.separators ++ xs))) in
    let other_records_then : List ℕ = codes " records "
    ++ (decimal b.records ++ (10 ∷ (separators_line b.separators ++ ys))) in
    let samples_then : List ℕ = codes " samples " ++ (decimal a.samples ++ records_then) in
    let other_samples_then : List ℕ = codes " samples " ++ (decimal b.samples ++ other_records_then) in
    let key = same_key a.key b.key (codes " start " ++ (opens_a.word ++ samples_then))
    (codes " start " ++ (opens_b.word ++ other_samples_then)) is_a.key is_b.key refl refl
    (sym opens_a.is ∙ is ∙ opens_b.is) in
    let start = same_time a.start b.start opens_a.word opens_b.word samples_then other_samples_then opens_a.time
    opens_b.time (append_cancel_left (codes " start ") _ _ key.1) in
    let samples = same_number a.samples b.samples records_then other_records_then is_a.samples is_b.samples refl
    refl (append_cancel_left (codes " samples ") _ _ start.1) in
    let records = same_number a.records b.records (10 ∷ (separators_line a.separators ++ xs))
    (10 ∷ (separators_line b.separators ++ ys)) is_a.records is_b.records refl refl
    (append_cancel_left (codes " records ") _ _ samples.1) in
    let separators = same_separators a.separators b.separators xs ys is_a.separators is_b.separators
    (same_cons 10 10 _ _ records.1).1 in
    (line_is a b key.0 start.0 samples.0 records.0 separators.0, separators.1)

opens_all : (line : ContentLine) (lines : List ContentLine) (text behind : List ℕ)
    (are : AreContentLineTexts (line ∷ lines) text)
    → IsOpening line.key line.start line.samples line.records
    (separators_line line.separators ++ (are.1.0 ++ behind)) (text ++ behind)
opens_all line lines text behind are =
    opens_with line are.0 (are.1.0 ++ behind) (text ++ behind) are.1.1.0
    (ap (λ (l : List ℕ). l ++ behind) are.1.1.2 ∙ append_assoc are.0 are.1.0 behind)

same_end : (count total : ℕ) (text : List ℕ) → text ≡ end_line count total → text ≡ end_line count total ++ []
same_end count total text is = is ∙ sym (append-nil (end_line count total))

same_lines : (lines others : List ContentLine) (text other : List ℕ) (count total other_count other_total : ℕ)
    → All IsContentLine lines → All IsContentLine others
    → AreContentLineTexts lines text → AreContentLineTexts others other
    → text ++ end_line count total ≡ other ++ end_line other_count other_total → lines ≡ others
same_lines [] [] text other count total other_count other_total each each_other are are_other is = refl
same_lines [] (line ∷ others) text other count total other_count other_total each each_other are are_other is =
    let opening = opens_all line others other (end_line other_count other_total) are_other in
    let none : text ++ end_line count total ≡ end_line count total =
    ap (λ (l : List ℕ). l ++ end_line count total) are in
    absurd (opening_not_end line _ _ [] count total opening (same_end count total _ (sym is ∙ none)))
same_lines (line ∷ lines) [] text other count total other_count other_total each each_other are are_other is =
    let opening = opens_all line lines text (end_line count total) are in
    let none : other ++ end_line other_count other_total ≡ end_line other_count other_total =
    ap (λ (l : List ℕ). l ++ end_line other_count other_total) are_other in
    absurd (opening_not_end line _ _ [] other_count other_total opening
    (same_end other_count other_total _ (is ∙ none)))
same_lines (line ∷ lines)
    (another ∷ others) text other count total other_count other_total each each_other are are_other is =
    let opening = opens_all line lines text (end_line count total) are in
    let other_opening = opens_all another others other (end_line other_count other_total) are_other in
    let first = same_line_of line another _ _ (are.1.0 ++ end_line count total)
    (are_other.1.0 ++ end_line other_count other_total) (each 0 line (omega arith))
    (each_other 0 another (omega arith)) opening other_opening is in
    let rest = same_lines lines others are.1.0 are_other.1.0 count total other_count other_total
    (λ k d within. each (suc k) d (omega arith))
    (λ k d within. each_other (suc k) d (omega arith)) are.1.1.1 are_other.1.1.1 first.1 in
    ap (λ (l : ContentLine). l ∷ lines) first.0 ∙ ap (λ (ls : List ContentLine). another ∷ ls) rest

same_counts : (a b : Counts) → a.read ≡ b.read → a.empty ≡ b.empty → a.mismatched ≡ b.mismatched → a ≡ b
same_counts a b read empty mismatched =
    let same : record { read = a.read; empty = a.empty; mismatched = a.mismatched }
    ≡ record { read = b.read; empty = b.empty; mismatched = b.mismatched } = cc in same

-- the same lines before the segments, and the same text after them
record IsSameFirst (content other : Content) (xs ys : List ℕ) : Type 0 where
  bytes : content.bytes ≡ other.bytes
  kinds : content.kinds ≡ other.kinds
  tolerance : content.tolerance ≡ other.tolerance
  counts : content.counts ≡ other.counts
  rest : xs ≡ ys

same_first : (content other : Content) (xs ys : List ℕ) → IsFirst content.bytes content.tolerance content.counts
    → IsFirst other.bytes other.tolerance other.counts
    → first_then content.bytes content.tolerance content.kinds content.counts xs
    ≡ first_then other.bytes other.tolerance other.kinds other.counts ys
    → IsSameFirst content other xs ys
same_first content other xs ys is_first is_other is =
    let small = record_length_small content.bytes is_first.is_length in
    let other_small = record_length_small other.bytes is_other.is_length in
    let title = same_cons 10 10 _ _ (append_cancel_left (codes "msrepack 1") _ _ is) in
    let bytes = same_number content.bytes other.bytes _ _ (omega (arith, small))
    (omega (arith, other_small)) refl refl (append_cancel_left (codes "length ") _ _ title.1) in
    let tolerance = same_number content.tolerance other.tolerance _ _ (omega (arith, is_first.most))
    (omega (arith, is_other.most)) refl refl (append_cancel_left (codes "tolerance ") _ _
    (same_cons 10 10 _ _ bytes.1).1) in
    let kinds = same_kinds content.kinds other.kinds content.counts other.counts xs ys
    (same_cons 10 10 _ _ tolerance.1).1 in
    let line = sym (counts_then content.counts xs ∙ counts_split content.counts xs) ∙ kinds.1
    ∙ counts_then other.counts ys ∙ counts_split other.counts ys in
    let read = same_number content.counts.read other.counts.read _ _ is_first.read is_other.read refl refl
    (append_cancel_left (codes "read ") _ _ line) in
    let empty = same_number content.counts.empty other.counts.empty _ _ is_first.empty is_other.empty refl refl
    (append_cancel_left (codes " empty ") _ _ read.1) in
    let mismatched = same_number content.counts.mismatched other.counts.mismatched (10 ∷ xs)
    (10 ∷ ys) is_first.mismatched is_other.mismatched refl refl
    (append_cancel_left (codes " mismatched ") _ _ empty.1) in
    record {
      bytes = bytes.0;
      kinds = kinds.0;
      tolerance = tolerance.0;
      counts = same_counts content.counts other.counts read.0 empty.0 mismatched.0;
      rest = (same_cons 10 10 xs ys mismatched.1).1;
    }

content_is : (a b : Content) → a.bytes ≡ b.bytes → a.kinds ≡ b.kinds → a.tolerance ≡ b.tolerance → a.counts ≡ b.counts
    → a.segments ≡ b.segments → a ≡ b
content_is a b bytes kinds tolerance counts segments =
    let same : record
    { bytes = a.bytes; kinds = a.kinds; tolerance = a.tolerance; counts = a.counts; segments = a.segments }
    ≡ record
    { bytes = b.bytes; kinds = b.kinds; tolerance = b.tolerance; counts = b.counts; segments = b.segments } = cc in
    same

pub one_content : (content other : Content) (text : List ℕ) → IsContent content → IsContent other
    → IsContentText content text
    → IsContentText other text → content ≡ other
one_content content other text is_content is_other is_text is_other_text =
    let first = same_first content other _ _ is_content.first is_other.first (sym is_text.is ∙ is_other_text.is) in
    let segments = same_lines content.segments other.segments is_text.segments is_other_text.segments _ _ _ _
    is_content.segments is_other.segments is_text.are is_other_text.are first.rest in
    content_is content other first.bytes first.kinds first.tolerance first.counts segments

-- a report's text in the words of its content
texts_from : (segments : List SegmentLine) (text : List ℕ) → AreSegmentTexts segments text
    → AreContentLineTexts (map content_line segments) text
texts_from [] text are = are
texts_from (s ∷ segments) text are =
    let first = are.1.1.0 in (
      are.0,
      (
        are.1.0,
        (
          record {
            word = first.start_text;
            time = first.time;
            is = first.is
                ∙ first_line_then s.key first.start_text s.samples s.records (separators_line s.separators.items);
          },
          texts_from segments are.1.0 are.1.1.1,
          are.1.1.2,
        ),
      ),
    )

pub content_text : (report : Report) (text : List ℕ) → IsReportText report text → IsContentText (content_of report) text
content_text report text is_text = record {
  segments = is_text.segments;
  are = texts_from report.segments.items is_text.segments is_text.are;
  is = rw (length-lines report.segments.items, records_same report.segments.items) (is_text.is ∙ first_same report _);
}

pub one_report : OneReport
one_report report other text is_content is_other is_text is_other_text =
    one_content (content_of report) (content_of other) text is_content is_other (content_text report text is_text)
    (content_text other text is_other_text)

pub no_fault : NoLineAtFault
no_fault report text line read fault =
    let fits : content_records (content_of report).segments < 2 ^ 64 =
    rw (records_same report.segments.items) read.proper.records in
    fault.no_report (content_of report) read.is_content fits (content_text report text read.is_text)

pub read_back : TextIsReadBack
read_back report text (Ok other) read answer =
    one_report other report text answer.is_content read.is_content answer.is_text read.is_text
read_back report text (Err (Line line)) read answer = no_fault report text line read answer
read_back report text (Err Read) read answer = tt
read_back report text (Err Memory) read answer = tt
