-- What is written is read back as its row.
use Rattle.std.proofs.Common.{◌≡◌, ◌≢◌, ℕ, ◌+◌, ◌-◌, ◌/◌, ◌%◌, ◌^◌, ◌<◌, ◌≤◌, true, false, ℤ, pos, ◌+ℤ◌, List, [], ◌++◌, length, take, drop, refl, sym, ap, ◌∙◌, arith, append_assoc, Option, Some, None, Ok, IsTrue, length-append, replicate}
use Rattle.std.specs.Prelude.{slice_range}
use Rattle.std.specs.List.{list_all}
use Rattle.std.proofs.lemmas.Bool.{le-leb}
use Rattle.std.proofs.lemmas.List.{append-nil, drop_all, drop_at, length-drop, length-replicate, length-take-le, take_all, take_at}
use borrow.Rule.Slice.PartMut.{put_mid}
use Rattle.std.proofs.Math.Pow.{pow_mono}
use Rattle.std.proofs.Math.Seq.{drop-append_seam, take-append_seam}
use Rattle.msr_time.proofs.SignedFacts.{signed_arith}
use Rattle.msr_time.specs.declared.btime.BTime.{BTime}
use Rattle.msr_time.specs.Instant.{IsSplit, instant_of}
use Rattle.msr_header.specs.Reading.{header_of, is_sequence_byte, is_quality}
use Rattle.msr_header.specs.Writing.{IsWritableHeader, header_as_read, header_bytes}
use Rattle.msr_base.specs.declared.order.Order.TheVariants.{Big}
use Rattle.msr_header.specs.declared.header.Header.{Header}
use Rattle.msr_base.specs.RecordLength.{least_exponent, most_exponent}
use Rattle.msr_base.specs.Kinds.{code_of}
use Rattle.msr_base.specs.Storage.{storage_of}
use Rattle.msr_base.specs.declared.kinds.Kind.{Kind}
use Rattle.msr_base.specs.declared.kinds.Kind.TheVariants.{Int16, Int24, Int32, Steim1, Steim2}
use Rattle.msr_rows.specs.Records.{kind_of_code}
use Rattle.msr_rows.specs.Correction.{key_of, start_of, is_pending, correction_micros}
use Rattle.msr_rows.specs.Area.{Carries, ReverseAgreesIfAny}
use Rattle.msr_rows.specs.Records.{has_area, field_faults, data_area, IsRowOf}
use Rattle.msr_base.specs.Faults.{first_fault}
use Rattle.msr_record.specs.Written.{sequence_digits, header_for, IsWrittenArea, AppendsRecord}
use Rattle.msr_rows.specs.declared.row.Key.{Key}
use Rattle.msr_rows.specs.declared.row.Row.{Row}
use Rattle.msr_rows.proofs.FieldLemmas.{has_rate_true, fields_pass}

kind_back : (kind : Kind) → kind_of_code (code_of kind) ≡ Some kind
kind_back Int16 = refl
kind_back Int24 = refl
kind_back Int32 = refl
kind_back Steim1 = refl
kind_back Steim2 = refl

digit : (n unit : ℕ) → is_sequence_byte (48 + n / unit % 10) ≡ true
digit n unit =
    let small : n / unit % 10 < 10 = omega arith in
    grind (arith, small)

digits : (n : ℕ) → list_all is_sequence_byte (sequence_digits n) ≡ true
digits n = rw (digit n 100_000, digit n 10_000, digit n 1_000, digit n 100, digit n 10, digit n 1) refl

-- the header of a written record is such as a reader accepts
writable : (key : Key) (time : BTime) (micros sequence count : ℕ) (kind : Kind) (exponent frames : ℕ) (start : ℤ)
    → IsTrue (is_quality key.quality) → IsSplit start time micros → least_exponent ≤ exponent
    → exponent ≤ most_exponent → IsWritableHeader (header_for key time micros sequence count kind exponent frames)
writable key time micros sequence count kind exponent frames start quality split low high = record {
  sequence = digits sequence;
  quality = quality;
  time = split.is_time;
  exponent = (omega arith, omega arith);
}

area_passes : (key : Key) (time : BTime) (micros sequence count : ℕ) (kind : Kind) (exponent frames : ℕ)
    → 8 ≤ exponent → has_area (header_for key time micros sequence count kind exponent frames) ≡ true
area_passes key time micros sequence count kind exponent frames low =
    let most = pow_mono {i = 8} {j = exponent} low in
    le-leb 64 (2 ^ exponent) (omega (arith, most))

key_back : (key : Key) (time : BTime) (micros sequence count : ℕ) (kind : Kind) (exponent frames : ℕ)
    → is_pending key.activity key.correction ≡ false
    → key ≡ key_of (header_for key time micros sequence count kind exponent frames)
key_back key time micros sequence count kind exponent frames e = rw e refl

no_move : (activity : ℕ) (z : ℤ) → is_pending activity z ≡ false → correction_micros activity z ≡ pos 0
no_move activity z e = rw e refl

plus_zero : (z : ℤ) → z +ℤ pos 0 ≡ z
plus_zero z = omega (arith, signed_arith)

start_back : (key : Key) (time : BTime) (micros sequence count : ℕ) (kind : Kind) (exponent frames : ℕ) (start : ℤ)
    → is_pending key.activity key.correction ≡ false → IsSplit start time micros
    → start ≡ start_of (header_for key time micros sequence count kind exponent frames)
start_back key time micros sequence count kind exponent frames start e split =
    let base = instant_of time +ℤ pos micros in
    sym (ap (λ (m : ℤ). base +ℤ m) (no_move key.activity key.correction e) ∙ plus_zero base ∙ split.sum)

-- the data area of a written record, whatever follows it
area_back : (front area rest : List ℕ) (size : ℕ) → length front ≡ 64 → length area ≡ size - 64
    → slice_range ((front ++ area) ++ rest) 64 size ≡ area
area_back front area rest size f a =
    let apart : drop 64 ((front ++ area) ++ rest) ≡ drop 64 (front ++ (area ++ rest)) =
    ap (λ (l : List ℕ). drop 64 l) (append_assoc front area rest) in
    let behind : drop 64 (front ++ (area ++ rest)) ≡ area ++ rest =
    ap (λ (n : ℕ). drop n (front ++ (area ++ rest))) (sym f) ∙ drop-append_seam front (area ++ rest) in
    let first : take (size - 64) (area ++ rest) ≡ area = ap (λ (n : ℕ). take n (area ++ rest)) (sym a)
    ∙ take-append_seam area rest in
    ap (λ (l : List ℕ). take (size - 64) l) (apart ∙ behind) ∙ first

-- the row of bytes that begin with a header and have this data area
row_is : (bytes area rest : List ℕ) (row : Row) (h : Header) → header_of (bytes ++ rest) ≡ Ok h → 1 ≤ h.samples
    → first_fault (field_faults h) ≡ None → kind_of_code h.encoding ≡ Some row.kind → row.key ≡ key_of h
    → row.start ≡ start_of h → length row.samples ≡ h.samples → data_area h (bytes ++ rest) ≡ area
    → Carries (storage_of row.kind) h.data_order area row.samples → IsRowOf (bytes ++ rest) row
row_is bytes area rest row h read some fields kind key start count at carried = record {
  header = h;
  has_area = record { has_samples = record { read = read; some = some }; fields = fields; kind_is = kind };
  key_is = key;
  start_is = start;
  count = count;
  carried = rw at carried;
}

-- the written record is found, whatever follows it
pub appends_record : (old new front area : List ℕ) (key : Key) (start : ℤ) (sequence : ℕ) (before : Option ℤ)
    (samples : List ℤ) (kind : Kind) (size exponent frames : ℕ) (time : BTime) (micros count : ℕ)
    → new ≡ old ++ (front ++ area)
    → count ≡ length samples
    → front ≡ header_bytes (header_for key time micros sequence count kind exponent frames)
    → length front ≡ 64
    → IsWrittenArea (storage_of kind) before samples (size - 64) frames area
    → length area ≡ size - 64
    → ((rest : List ℕ) → IsWritableHeader (header_for key time micros sequence count kind exponent frames)
    → 2 ^ exponent ≤ 64 + length rest → header_of (front ++ rest)
    ≡ Ok (header_as_read (header_for key time micros sequence count kind exponent frames)))
    → Carries (storage_of kind) Big area samples
    → ReverseAgreesIfAny (storage_of kind) Big area samples
    → IsSplit start time micros → size ≡ 2 ^ exponent → least_exponent ≤ exponent → exponent ≤ most_exponent
    → IsTrue (is_quality key.quality) → is_pending key.activity key.correction ≡ false → 1 ≤ length samples
    → (key.rate.factor ≢ pos 0) × (key.rate.multiplier ≢ pos 0)
    → AppendsRecord old new key start sequence before samples kind size
appends_record old new front area key start sequence before samples kind size exponent frames time micros count
    joined ec ef lf is_area la back carried reverse split es low high quality normal some rate =
    let h : Header = header_for key time micros sequence count kind exponent frames in
    let least = pow_mono {i = 8} {j = exponent} low in
    let long : length (front ++ area) ≡ size = omega (arith, length-append front area, lf, la, es, least) in
    let row : Row = record { key = key; start = start; kind = kind; samples = samples } in
    let la' : length area ≡ 2 ^ exponent - 64 = omega (arith, la, es) in
    let read = λ (rest : List ℕ).
    let enough : 2 ^ exponent ≤ 64 + length (area ++ rest) = omega (arith, length-append area rest, la', least) in
    ap header_of (append_assoc front area rest) ∙ back (area ++ rest)
    (writable key time micros sequence count kind exponent frames start quality split low high) enough in
    let at_area = λ (rest : List ℕ). area_back front area rest (2 ^ exponent) lf la' in
    let is_row = λ (rest : List ℕ). row_is (front ++ area) area rest row h (read rest) (omega (arith, some, ec))
    (fields_pass h kind (has_rate_true h rate) (kind_back kind)
    (area_passes key time micros sequence count kind exponent frames low)) (kind_back kind)
    (key_back key time micros sequence count kind exponent frames normal)
    (start_back key time micros sequence count kind exponent frames start normal split) (sym ec)
    (at_area rest) carried in
    record {
      bytes = front ++ area;
      joined = joined;
      size_is = long;
      written = record {
        time = time;
        micros = micros;
        frames = frames;
        area = area;
        power = record { exponent = exponent; least = low; most = high; power = es };
        split = split;
        is_area = is_area;
        bytes_are = rw (ef, ec) refl;
      };
      row = is_row;
      found = λ rest in_time. record {
        header = h;
        read = read rest;
        length_is = es;
        empty = tt;
        row = is_row rest;
        in_time = in_time;
        agrees = (λ t. record { header = h; read = read rest; reverse = rw (at_area rest) reverse }, λ a. refl);
        no_reverse = tt;
      };
    }

-- ---- a record in its place

-- what stands after the header, once all after it is written
pub behind_header : (bytes area : List ℕ) → 64 ≤ length bytes
    → drop 64 (put_mid 64 (length bytes - 64) bytes area) ≡ area
behind_header bytes area enough =
    let front : length (take 64 bytes) ≡ 64 = length-take-le 64 bytes enough in
    let left = length-drop 64 bytes in
    let none : drop (length bytes - 64) (drop 64 bytes) ≡ [] =
    drop_all (length bytes - 64) (drop 64 bytes) (omega arith) in
    drop_at (take 64 bytes) (area ++ drop (length bytes - 64) (drop 64 bytes)) 64 front
    ∙ ap (λ (x : List ℕ). area ++ x) none ∙ append-nil area

-- what stands in a vector whose new part was written
pub new_part : (old zeros items now part : List ℕ) (end len : ℕ) → items ≡ old ++ zeros → now ≡ items
    → length old ≡ end → length part ≡ length zeros → len ≡ length items
    → take len (put_mid end (length now - end) now part
    ++ drop (length (put_mid end (length now - end) now part)) items) ≡ old ++ part
new_part old zeros items now part end len filled same size new_size long =
    let now_is : now ≡ old ++ zeros = same ∙ filled in
    let all : length items ≡ length old + length zeros = ap length filled ∙ length-append old zeros in
    let now_long : length now ≡ length items = ap length same in
    let front : take end now ≡ old = ap (take end) now_is ∙ take_at old zeros end size in
    let left = length-drop end now in
    let none : drop (length now - end) (drop end now) ≡ [] = drop_all (length now - end) (drop end now) (omega arith) in
    let whole : put_mid end (length now - end) now part ≡ old ++ part =
    ap (λ (x : List ℕ). x ++ (part ++ drop (length now - end) (drop end now))) front
    ∙ ap (λ (x : List ℕ). old ++ (part ++ x)) none ∙ ap (λ (x : List ℕ). old ++ x) (append-nil part) in
    let wide = length-append old part in
    let wide' : length (put_mid end (length now - end) now part) ≡ length (old ++ part) = ap length whole in
    let kept : take len (put_mid end (length now - end) now part) ≡ old ++ part =
    take_all len (put_mid end (length now - end) now part) (omega arith) ∙ whole in
    let nothing : drop (length (put_mid end (length now - end) now part)) items ≡ [] =
    drop_all (length (put_mid end (length now - end) now part)) items (omega arith) in
    ap (λ (x : List ℕ). take len (put_mid end (length now - end) now part ++ x)) nothing
    ∙ ap (take len) (append-nil (put_mid end (length now - end) now part)) ∙ kept

-- what stands in it if the new part took the place of zeros
pub filled_part : (old items now part : List ℕ) (end n old_len len : ℕ) → end ≡ old_len → old_len ≡ length old
    → items ≡ take (end + n) old ++ replicate (end + n - old_len) 0 → now ≡ items → length part ≡ n → len ≡ length items
    → take len (put_mid end (length now - end) now part
    ++ drop (length (put_mid end (length now - end) now part)) items) ≡ old ++ part
filled_part old items now part end n old_len len at all resized same size long =
    let zeros : List ℕ = replicate (end + n - old_len) 0 in
    let many : length zeros ≡ end + n - old_len = length-replicate (end + n - old_len) 0 in
    let kept : take (end + n) old ≡ old = take_all (end + n) old (omega arith) in
    new_part old zeros items now part end len (resized ∙ ap (λ (x : List ℕ). x ++ zeros) kept) same
    (omega arith) (omega (arith, many)) long

-- a record that stands after others
pub appended_behind : (old new part : List ℕ) (key : Key) (start : ℤ) (sequence : ℕ) (before : Option ℤ)
    (samples : List ℤ) (kind : Kind) (size : ℕ) → new ≡ old ++ part
    → AppendsRecord [] part key start sequence before samples kind size
    → AppendsRecord old new key start sequence before samples kind size
appended_behind old new part key start sequence before samples kind size joined alone = record {
  bytes = alone.bytes;
  joined = joined ∙ ap (λ (x : List ℕ). old ++ x) alone.joined;
  size_is = alone.size_is;
  written = alone.written;
  row = alone.row;
  found = alone.found;
}
