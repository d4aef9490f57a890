-- The faults of the lines after those that were read.
use Rattle.std.proofs.Common.{◌≡◌, ◌∙◌, ap, sym, refl, rules, subst, arith, ℕ, suc, ◌+◌, ◌*◌, ◌<◌, ◌^◌, Bool, true, false, List, [], ◌∷◌, ◌++◌, append_assoc, length, length-append, decimal, codes, All, flat_map, ℤ}
use Rattle.std.proofs.lemmas.List.{append_cancel_left}
use Rattle.msr_rows.specs.declared.row.Key.{Key}
use Rattle.msr_base.specs.Lengths.{bytes_of}
use Rattle.msr_report.specs.Proper.{records_in}
use Rattle.msr_report.specs.Text.{separators_line, end_line}
use Rattle.msr_report.specs.declared.report.SegmentLine.{SegmentLine}
use Rattle.msr_report_reader.specs.Fields.{EndsNumber}
use Rattle.msr_report_reader.specs.Content.{ContentLine, IsContentLine, IsOpening, lines_before}
use Rattle.msr_report_reader.specs.Fault.{BeginsReport, IsFaultLine}
use Rattle.msr_report_reader.specs.LastLine.{IsLast}
use Rattle.msr_report_reader.proofs.Rest.{AtLine}
use Rattle.msr_report_reader.specs.Draft.{IsEnough, ReadSegments, ReadOpening, ReadNumbers, ReadEnd, stop_byte}
use Rattle.msr_report_reader.specs.declared.first.FirstLines.{FirstLines}
use Rattle.msr_report_reader.specs.declared.lines.FirstLine.{FirstLine}
use Rattle.msr_report_reader.proofs.LineFeeds.{same_cons, decimal_is_one}
use Rattle.msr_report_reader.proofs.OneLines.{opening_is_one, end_is_one}
use Rattle.msr_report_reader.proofs.Segments.{Next, opening_body, end_body, opening_then, end_then}
use Rattle.msr_report_reader.proofs.SegmentsRead.{opening_not_end}
use Rattle.msr_report_reader.proofs.NextLines.{ReadsNone, at_second, at_behind, fault_second, fault_segment, fault_behind}
use Rattle.msr_report_reader.proofs.BegunReports.{before_segment, before_second, before_behind}
use Rattle.msr_report_reader.proofs.Separators.{spaced, line_then, ends_number}
use Rattle.msr_report_reader.proofs.SameFields.{same_number, differ}
use Rattle.msr_report_reader.proofs.Enough.{inside, opening_short, end_short, decimal_short}
use Rattle.msr_report_reader.proofs.ReadTexts.{going_of, only_opening}

pub at_number : (text : List ℕ) (m n : ℕ) → n ≡ m → IsFaultLine text m → IsFaultLine text n
at_number text m n is fault = rw is fault

-- the first line of a segment, and the text after it
pub opening_more : (key : Key) (start : ℤ) (samples records : ℕ) (text more : List ℕ)
    → IsOpening key start samples records [] text → IsOpening key start samples records more (text ++ more)
opening_more key start samples records text more opens =
    let body : List ℕ = opening_body key opens.word samples records in
    record {
      word = opens.word;
      time = opens.time;
      is = ap (λ (t : List ℕ). t ++ more) (opens.is ∙ sym (opening_then key opens.word samples records []))
          ∙ append_assoc body (10 ∷ []) more ∙ opening_then key opens.word samples records more;
    }

none_more : (begins : Bool) (text more : List ℕ) → ((x : List ℕ) → text ++ more ≡ codes "segment " ++ x → begins ≡ true)
    → IsEnough begins text more → ReadsNone text → ReadsNone (text ++ more)
none_more begins text more may enough none = λ key start samples n x is_key fits_samples fits_n opening.
    let within = inside (opening_body key opening.word samples n) 10 x begins text more
    (opening_is_one key start opening.word samples n is_key opening.time)
    (opening_short key start opening.word samples n is_key opening.time) (may _ opening.is) enough
    (opening.is ∙ sym (opening_then key opening.word samples n x)) in
    none key start samples n within.left is_key fits_samples fits_n record {
      word = opening.word;
      time = opening.time;
      is = within.is ∙ opening_then key opening.word samples n within.left;
    }

not_last_more : (segments : List SegmentLine) (begins : Bool) (text more : List ℕ)
    → ((x : List ℕ) → text ++ more ≡ codes "end " ++ x → begins ≡ true) → IsEnough begins text more
    → ((rest : List ℕ) → IsLast segments text rest → ⊥) → (x : List ℕ) → records_in segments < 2 ^ 64
    → text ++ more ≡ end_line (length segments) (records_in segments) ++ x → ⊥
not_last_more segments begins text more may enough none x fits is =
    let within = inside (end_body (length segments) (records_in segments)) 10 x begins text more
    (end_is_one (length segments) (records_in segments)) (end_short (length segments) (records_in segments)) (may _ is)
    enough
    (is ∙ end_then (length segments) (records_in segments) x) in
    none within.left record {
      fits = fits;
      is = within.is ∙ sym (end_then (length segments) (records_in segments) within.left);
    }

pub segment_fault : (first : FirstLines) (segments : List SegmentLine) (begins : Bool) (past text more : List ℕ)
    → ReadSegments first segments past → ((x : List ℕ) → text ++ more ≡ codes "segment " ++ x → begins ≡ true)
    → ((x : List ℕ) → text ++ more ≡ codes "end " ++ x → begins ≡ true) → IsEnough begins text more → ReadsNone text
    → ((rest : List ℕ) → IsLast segments text rest → ⊥) → IsFaultLine (past ++ (text ++ more))
    (1 + lines_before first.kinds + 2 * length segments)
segment_fault first segments begins past text more read may may_end enough none not_last =
    let going = going_of first segments past (text ++ more) read in
    at_number (past ++ (text ++ more)) (suc (lines_before first.kinds + 2 * length segments))
    (1 + lines_before first.kinds + 2 * length segments) (omega arith)
    (fault_segment (past ++ (text ++ more)) (text ++ more) (length segments) (records_in segments)
    (lines_before first.kinds + 2 * length segments) going.at (none_more begins text more may enough none)
    (not_last_more segments begins text more may_end enough not_last)
    (before_segment (past ++ (text ++ more)) (bytes_of first.length) first.tolerance first.kinds first.counts segments
    (text ++ more) going))

-- the first line of a segment that was read
abbrev opened : FirstLine → ContentLine
opened line = record {
  key = line.key;
  start = line.start;
  samples = line.samples;
  records = line.records;
  separators = [];
}

record AtSecond (text rest : List ℕ) (k r i records : ℕ) : Type 0 where
  at : AtLine (Next k r (suc records)) text rest i
  before : BeginsReport text i

second_at : (first : FirstLines) (segments : List SegmentLine) (line : FirstLine) (past rest : List ℕ)
    → (read : ReadOpening first segments line past)
    → AtSecond (read.before ++ (read.opening ++ rest)) rest (length segments) (records_in segments)
    (suc (lines_before first.kinds + 2 * length segments)) line.records
second_at first segments line past rest read =
    let text : List ℕ = read.before ++ (read.opening ++ rest) in
    let going = going_of first segments read.before (read.opening ++ rest) read.read in
    let opens = opening_more line.key line.start line.samples line.records read.opening rest read.opens in
    let is_line : IsContentLine (opened line) = record {
      key = read.is_key;
      start = read.start;
      samples = read.samples;
      records = read.records;
      separators = λ k d within. absurd (omega arith);
    } in
    record {
      at = at_second text (read.opening ++ rest) rest (length segments) (records_in segments)
          (lines_before first.kinds + 2 * length segments) line.records going.at
          (only_opening (opened line) rest (read.opening ++ rest) is_line opens)
          (λ x is. opening_not_end (opened line) rest (read.opening ++ rest) x (length segments)
          (records_in segments) opens is);
      before = before_second text (bytes_of first.length) first.tolerance first.kinds first.counts segments
          (read.opening ++ rest) rest (opened line) going is_line opens;
    }

opening_shown : (first : FirstLines) (segments : List SegmentLine) (line : FirstLine) (past rest : List ℕ)
    → (read : ReadOpening first segments line past) → read.before ++ (read.opening ++ rest) ≡ past ++ rest
opening_shown first segments line past rest read =
    sym (ap (λ (t : List ℕ). t ++ rest) read.is ∙ append_assoc read.before read.opening rest)

second_fault : (first : FirstLines) (segments : List SegmentLine) (line : FirstLine) (past rest : List ℕ)
    → ReadOpening first segments line past
    → ((ns x : List ℕ) → All (λ n. n < 2 ^ 64) ns → rest ≡ separators_line ns ++ x → ⊥)
    → IsFaultLine (past ++ rest) (2 + lines_before first.kinds + 2 * length segments)
second_fault first segments line past rest read none =
    let second = second_at first segments line past rest read in
    at_number (past ++ rest) (suc (suc (lines_before first.kinds + 2 * length segments)))
    (2 + lines_before first.kinds + 2 * length segments) (omega arith)
    (subst (λ (t : List ℕ). IsFaultLine t (suc (suc (lines_before first.kinds + 2 * length segments))))
    (opening_shown first segments line past rest read)
    (fault_second (read.before ++ (read.opening ++ rest)) rest (length segments) (records_in segments)
    (suc (lines_before first.kinds + 2 * length segments)) line.records second.at none second.before))

-- what stands after a word of the separators' line
record Stops (ns x : List ℕ) : Type 0 where
  last : Bool
  behind : List ℕ
  is : flat_map spaced ns ++ (10 ∷ x) ≡ stop_byte last ∷ behind

stops : (ns x : List ℕ) → Stops ns x
stops [] x = record { last = true; behind = x; is = refl }
stops (n ∷ ns) x = record {
  last = false;
  behind = (decimal n ++ flat_map spaced ns) ++ (10 ∷ x);
  is = refl;
}

pub word_fault : (first : FirstLines) (segments : List SegmentLine) (line : FirstLine) (begins : Bool)
    (past text more : List ℕ) → ReadOpening first segments line past
    → ((x : List ℕ) → text ++ more ≡ codes "separators" ++ x → begins ≡ true) → IsEnough begins text more
    → ((last : Bool) (rest : List ℕ) → text ≡ codes "separators" ++ (stop_byte last ∷ rest) → ⊥)
    → IsFaultLine (past ++ (text ++ more)) (2 + lines_before first.kinds + 2 * length segments)
word_fault first segments line begins past text more read may enough none =
    second_fault first segments line past (text ++ more) read (λ ns x each is.
    let s = stops ns x in
    let shown = is ∙ line_then ns x in
    let within = inside (codes "separators") (stop_byte s.last) s.behind begins text more (search rules)
    (omega arith) (may (flat_map spaced ns ++ (10 ∷ x)) shown) enough
    (shown ∙ ap (λ (l : List ℕ). codes "separators" ++ l) s.is) in
    none s.last within.left within.is)

-- the separator after those that were read
record NextNumber (tail x : List ℕ) : Type 0 where
  number : ℕ
  numbers : List ℕ
  fits : number < 2 ^ 64
  is : tail ≡ decimal number ++ (flat_map spaced numbers ++ (10 ∷ x))

ends_space : (ns tail : List ℕ) → EndsNumber (flat_map spaced ns ++ (32 ∷ tail))
ends_space [] tail = refl
ends_space (n ∷ ns) tail = refl

next_number : (ns ms tail x : List ℕ) → All (λ n. n < 2 ^ 64) ns → All (λ n. n < 2 ^ 64) ms
    → flat_map spaced ns ++ (32 ∷ tail) ≡ flat_map spaced ms ++ (10 ∷ x) → NextNumber tail x
next_number [] [] tail x each_n each_m is = absurd (differ 32 10 tail x refl is)
next_number [] (m ∷ ms) tail x each_n each_m is = record {
  number = m;
  numbers = ms;
  fits = each_m 0 0 (omega arith);
  is = (same_cons 32 32 tail ((decimal m ++ flat_map spaced ms) ++ (10 ∷ x)) is).1
      ∙ append_assoc (decimal m) (flat_map spaced ms) (10 ∷ x);
}
next_number (n ∷ ns) [] tail x each_n each_m is =
    absurd (differ 32 10 ((decimal n ++ flat_map spaced ns) ++ (32 ∷ tail)) x refl is)
next_number (n ∷ ns) (m ∷ ms) tail x each_n each_m is =
    let behind : List ℕ = flat_map spaced ns ++ (32 ∷ tail) in
    let other_behind : List ℕ = flat_map spaced ms ++ (10 ∷ x) in
    let split : spaced n ++ behind ≡ spaced m ++ other_behind =
    sym (append_assoc (spaced n) (flat_map spaced ns) (32 ∷ tail)) ∙ is
    ∙ append_assoc (spaced m) (flat_map spaced ms) (10 ∷ x) in
    let number = same_number n m behind other_behind (each_n 0 0 (omega arith)) (each_m 0 0 (omega arith))
    (ends_space ns tail) (ends_number ms x) (same_cons 32 32 (decimal n ++ behind)
    (decimal m ++ other_behind) split).1 in
    next_number ns ms tail x (λ k d within. each_n (suc k) d (omega arith))
    (λ k d within. each_m (suc k) d (omega arith)) number.1

-- more text after separators and the byte after them
pub numbers_more : (before numbers : List ℕ) (byte : ℕ) (more : List ℕ)
    → (before ++ (codes "separators" ++ (flat_map spaced numbers ++ (byte ∷ [])))) ++ more
    ≡ before ++ (codes "separators" ++ (flat_map spaced numbers ++ (byte ∷ more)))
numbers_more before numbers byte more =
    append_assoc before (codes "separators" ++ (flat_map spaced numbers ++ (byte ∷ []))) more
    ∙ ap (λ (l : List ℕ). before ++ (codes "separators" ++ l)) (append_assoc (flat_map spaced numbers) (byte ∷ []) more)

pub number_fault : (first : FirstLines) (segments : List SegmentLine) (line : FirstLine)
    (numbers : List ℕ) (begins : Bool) (past text more : List ℕ) → ReadNumbers first segments line numbers past
    → ((n : ℕ) (x : List ℕ) → n < 2 ^ 64 → text ++ more ≡ decimal n ++ x → begins ≡ true) → IsEnough begins text more
    → ((n : ℕ) (last : Bool) (rest : List ℕ) → n < 2 ^ 64 → text ≡ decimal n ++ (stop_byte last ∷ rest) → ⊥)
    → IsFaultLine (past ++ (text ++ more)) (2 + lines_before first.kinds + 2 * length segments)
number_fault first segments line numbers begins past text more read may enough none =
    let rest : List ℕ = codes "separators" ++ (flat_map spaced numbers ++ (32 ∷ (text ++ more))) in
    let shown : read.before ++ rest ≡ past ++ (text ++ more) =
    sym (ap (λ (t : List ℕ). t ++ (text ++ more)) read.is ∙ numbers_more read.before numbers 32 (text ++ more)) in
    subst (λ (t : List ℕ). IsFaultLine t (2 + lines_before first.kinds + 2 * length segments)) shown
    (second_fault first segments line read.before rest read.read (λ ns x each is.
    let next = next_number numbers ns (text ++ more) x read.each each
    (append_cancel_left (codes "separators") (flat_map spaced numbers ++ (32 ∷ (text ++ more)))
    (flat_map spaced ns ++ (10 ∷ x)) (is ∙ line_then ns x)) in
    let s = stops next.numbers x in
    let short = decimal_short next.number in
    let within = inside (decimal next.number) (stop_byte s.last) s.behind begins text more
    (decimal_is_one next.number next.fits) (omega (arith, short))
    (may next.number (flat_map spaced next.numbers ++ (10 ∷ x)) next.fits next.is) enough
    (next.is ∙ ap (λ (l : List ℕ). decimal next.number ++ l) s.is) in
    none next.number s.last within.left next.fits within.is))

pub end_fault : (first : FirstLines) (segments : List SegmentLine) (past text more : List ℕ)
    → ReadEnd first segments past → 0 < length text → IsFaultLine (past ++ (text ++ more))
    (2 + lines_before first.kinds + 2 * length segments)
end_fault first segments past text more read some =
    let rest : List ℕ = end_line (length segments) (records_in segments) ++ (text ++ more) in
    let whole : List ℕ = read.before ++ rest in
    let shown : whole ≡ past ++ (text ++ more) =
    sym (ap (λ (t : List ℕ). t ++ (text ++ more)) read.is
    ∙ append_assoc read.before (end_line (length segments) (records_in segments)) (text ++ more)) in
    let going = going_of first segments read.before rest read.read in
    let none : ReadsNone rest = λ key start samples n x is_key fits_samples fits_n opening.
    opening_not_end record {
      key = key;
      start = start;
      samples = samples;
      records = n;
      separators = [];
    } x rest (text ++ more) (length segments) (records_in segments) opening refl in
    let at = at_behind whole rest (text ++ more) (length segments) (records_in segments)
    (lines_before first.kinds + 2 * length segments) going.at none refl in
    let before = before_behind whole (bytes_of first.length) first.tolerance first.kinds first.counts segments rest
    (text ++ more) going read.fits refl in
    at_number (past ++ (text ++ more)) (suc (suc (lines_before first.kinds + 2 * length segments)))
    (2 + lines_before first.kinds + 2 * length segments) (omega arith)
    (subst (λ (t : List ℕ). IsFaultLine t (suc (suc (lines_before first.kinds + 2 * length segments)))) shown
    (fault_behind whole (text ++ more) (length segments) (records_in segments)
    (suc (lines_before first.kinds + 2 * length segments)) at (omega (arith, some, length-append text more)) before))
