-- What a step of reading does, from what stands at the start of the text.
use Rattle.std.proofs.Common.{◌≡◌, ◌∙◌, ap, sym, refl, inl, inr, subst, arith, ℕ, ◌-◌, ◌<◌, ◌≤◌, ◌^◌, ◌==◌, ◌||◌, Bool, true, false, List, [], ◌∷◌, ◌++◌, append_assoc, drop, take, take_all, length, length-append, length-drop, decimal, codes, All, map, Result, Ok, Err}
use Rattle.std.proofs.Math.Seq.{drop-append_seam}
use Rattle.std.proofs.lemmas.List.{append-nil}
use Rattle.std.proofs.lemmas.List.Elements.{All-push}
use Rattle.std.specs.List.{list_any}
use Rattle.msr_time.specs.Instant.{IsInstant}
use Rattle.msr_base.specs.Lengths.{bytes_of}
use Rattle.msr_report.specs.Proper.{records_in}
use Rattle.msr_report.specs.Text.{separators_line, end_line}
use Rattle.msr_report.specs.declared.report.SegmentLine.{SegmentLine}
use Rattle.msr_report.specs.declared.report.Report.{Report}
use Rattle.msr_report_reader.specs.Content.{IsReportKey, IsFirst, IsContentLine, IsOpening, first_then, content_line}
use Rattle.msr_report_reader.specs.Fault.{IsOneLine, IsFaultLine}
use Rattle.msr_report_reader.specs.LastLine.{IsLast}
use Rattle.msr_report_reader.specs.Reading.{IsReadFrom}
use Rattle.msr_report_reader.specs.TextFault.{IsTextFault}
use Rattle.msr_report_reader.specs.Draft.{AreMore, IsEnough, IsLineRefused, IsDraftStep, IsConsumed, IsCut, HasRead, ReadTo, ReadSegments, ReadOpening, ReadEnd, numbers_then, stop_byte}
use Rattle.msr_report_reader.specs.declared.fault.ReportFault.{ReportFault}
use Rattle.msr_report_reader.specs.declared.fault.ReportFault.TheVariants.{Line, Read, Memory}
use Rattle.msr_report_reader.specs.declared.first.FirstLines.{FirstLines}
use Rattle.msr_report_reader.specs.declared.lines.FirstLine.{FirstLine}
use Rattle.msr_report_reader.specs.declared.draft.Expected.{Expected}
use Rattle.msr_report_reader.specs.declared.draft.Expected.TheVariants.{Start, Segment, Separators, Number, End}
use Rattle.msr_report_reader.specs.declared.draft.Draft.{Draft}
use Rattle.msr_report_reader.specs.declared.draft.Progress.{Progress}
use Rattle.msr_report_reader.specs.declared.draft.Progress.TheVariants.{Consumed, Cut, Whole}
use Rattle.msr_report_reader.proofs.Segments.{opening_body, opening_then, line_text}
use Rattle.msr_report_reader.proofs.SegmentsRead.{Going, map_more, texts_more, all_more, first_long, found_report}
use Rattle.msr_report_reader.proofs.BegunReports.{first_append}
use Rattle.msr_report_reader.proofs.Separators.{one_more}
use Rattle.msr_report_reader.proofs.Faults.{opening_more, numbers_more}
use Rattle.msr_report_reader.proofs.ReadTexts.{going_of}

-- a line that no report has there
pub refused : (old new : Draft) (whole : List ℕ) (begins : Bool) (text : List ℕ) (line : ℕ) (result : Result Progress ReportFault) → new ≡ old
    → ((past more : List ℕ) → HasRead old past → IsEnough begins text more → IsFaultLine (past ++ (whole ++ more)) line)
    → IsLineRefused begins text line result → IsDraftStep old new whole result
refused old new whole begins text line (Ok (Consumed n)) same fault is = absurd is
refused old new whole begins text line (Ok (Cut n)) same fault is = record {
  same = same;
  fault = λ past follows. rw is.0 (subst (λ (t : List ℕ). IsFaultLine (past ++ t) line) (append-nil whole)
      (fault past [] follows record { enough = inr refl }));
}
refused old new whole begins text line (Ok (Whole first)) same fault is = absurd is
refused old new whole begins text line (Err (Line n)) same fault is = λ past more follows.
    rw is.0 (fault past more follows record { enough = inl is.1 })
refused old new whole begins text line (Err Read) same fault is = absurd is
refused old new whole begins text line (Err Memory) same fault is = absurd is

-- a line without a line feed has no byte of one
pub one_is_none : (text : List ℕ) → IsOneLine text → list_any (λ (byte : ℕ). byte == 10) text ≡ false
one_is_none [] one = refl
one_is_none (byte ∷ text) one = let rest = one_is_none text one.1 in rw (one.0, rest) refl

none_by : (test : Bool) (rest : Bool) → (test || rest) ≡ false → (test ≡ false) × (rest ≡ false)
none_by true rest none = absurd cc
none_by false rest none = (refl, none)

pub none_is_one : (text : List ℕ) → list_any (λ (byte : ℕ). byte == 10) text ≡ false → IsOneLine text
none_is_one [] none = tt
none_is_one (byte ∷ text) none =
    let both = none_by (byte == 10) (list_any (λ (b : ℕ). b == 10) text) none in
    (both.0, none_is_one text both.1)

-- what a draft follows, by what it expects
pub follows_at : (draft : Draft) (expected : Expected) (past : List ℕ) → draft.expected ≡ expected
    → ReadTo expected draft.segments.items draft.numbers.items past → HasRead draft past
follows_at draft expected past is to = record {
  to = subst (λ (p : Expected). ReadTo p draft.segments.items draft.numbers.items past) (sym is) to;
}

pub read_to : (draft : Draft) (expected : Expected) (past : List ℕ) → draft.expected ≡ expected → HasRead draft past
    → ReadTo expected draft.segments.items draft.numbers.items past
read_to draft expected past is follows =
    subst (λ (p : Expected). ReadTo p draft.segments.items draft.numbers.items past) is follows.to

pub first_fault : (draft : Draft) (past text : List ℕ) (line : ℕ) → draft.expected ≡ Start → HasRead draft past
    → IsFaultLine text line → IsFaultLine (past ++ text) line
first_fault draft past text line expected follows fault =
    let to : ReadTo Start draft.segments.items draft.numbers.items past = read_to draft Start past expected follows in
    subst (λ (p : List ℕ). IsFaultLine (p ++ text) line) (sym to.0) fault

-- the lists of a draft that did not change
same_lists : (old new : Draft) (expected : Expected) (past : List ℕ) → new.segments.items ≡ old.segments.items
    → new.numbers.items ≡ old.numbers.items → ReadTo expected old.segments.items old.numbers.items past
    → ReadTo expected new.segments.items new.numbers.items past
same_lists old new expected past segments numbers to =
    subst (λ (ns : List ℕ). ReadTo expected new.segments.items ns past) (sym numbers)
    (subst (λ (ss : List SegmentLine). ReadTo expected ss old.numbers.items past) (sym segments) to)

pub first_step : (old new : Draft) (first : FirstLines) (text rest : List ℕ) (n : ℕ) → old.expected ≡ Start
    → new.expected ≡ Segment first → new.segments.items ≡ old.segments.items
    → new.numbers.items ≡ old.numbers.items → IsFirst (bytes_of first.length) first.tolerance first.counts
    → text ≡ first_then (bytes_of first.length) first.tolerance first.kinds first.counts rest
    → n ≡ length text - length rest
    → IsConsumed old new text n
first_step old new first text rest n expected new_expected segments numbers is_first is count =
    let taken : List ℕ = first_then (bytes_of first.length) first.tolerance first.kinds first.counts [] in
    let split : text ≡ taken ++ rest = is
    ∙ sym (first_append (bytes_of first.length) first.tolerance first.kinds first.counts [] rest) in
    let long = first_long (bytes_of first.length) first.tolerance first.kinds first.counts [] in
    let size : n ≡ length taken = omega (arith, count, ap (λ (l : List ℕ). length l) split, length-append taken rest) in
    record {
      taken = taken;
      rest = rest;
      is = split;
      count = size;
      some = omega (arith, long, size);
      follows = λ past follows.
          let to : ReadTo Start old.segments.items old.numbers.items past = read_to old Start past expected follows in
          let read : ReadSegments first [] (past ++ taken) = record {
            is_first = is_first;
            each = λ k d within. absurd (omega arith);
            lines = [];
            are = refl;
            is = ap (λ (p : List ℕ). p ++ taken) to.0;
          } in
          let read_old : ReadSegments first old.segments.items (past ++ taken) =
          subst (λ (ss : List SegmentLine). ReadSegments first ss (past ++ taken)) (sym to.1.0) read in
          follows_at new (Segment first) (past ++ taken) new_expected
          (same_lists old new (Segment first) (past ++ taken) segments numbers (read_old, to.1.1));
    }

pub opening_step : (old new : Draft) (first : FirstLines) (line : FirstLine) (text rest : List ℕ) (n : ℕ)
    → old.expected ≡ Segment first → new.expected ≡ Separators first line → new.segments.items ≡ old.segments.items
    → new.numbers.items ≡ old.numbers.items → IsReportKey line.key → IsInstant line.start → line.samples < 2 ^ 64
    → line.records < 2 ^ 64 → IsOpening line.key line.start line.samples line.records rest text
    → n ≡ length text - length rest → IsConsumed old new text n
opening_step old new first line text rest n expected new_expected segments numbers is_key start samples records opens
    count =
    let body : List ℕ = opening_body line.key opens.word line.samples line.records in
    let taken : List ℕ = body ++ (10 ∷ []) in
    let split : text ≡ taken ++ rest = opens.is
    ∙ sym (opening_then line.key opens.word line.samples line.records rest)
    ∙ sym (append_assoc body (10 ∷ []) rest) in
    let size : n ≡ length taken = omega (arith, count, ap (λ (l : List ℕ). length l) split, length-append taken rest) in
    record {
      taken = taken;
      rest = rest;
      is = split;
      count = size;
      some = omega (arith, size, length-append body (10 ∷ []));
      follows = λ past follows.
          let to = read_to old (Segment first) past expected follows in
          let read : ReadOpening first old.segments.items line (past ++ taken) = record {
            before = past;
            read = to.0;
            opening = taken;
            is_key = is_key;
            start = start;
            samples = samples;
            records = records;
            opens = record {
              word = opens.word;
              time = opens.time;
              is = opening_then line.key opens.word line.samples line.records [];
            };
            is = refl;
          } in
          follows_at new (Separators first line) (past ++ taken) new_expected
          (same_lists old new (Separators first line) (past ++ taken) segments numbers (read, to.1));
    }

pub end_step : (old new : Draft) (first : FirstLines) (text rest : List ℕ) (n : ℕ) → old.expected ≡ Segment first
    → new.expected ≡ End first → new.segments.items ≡ old.segments.items → new.numbers.items ≡ old.numbers.items
    → IsLast old.segments.items text rest → n ≡ length text - length rest → IsConsumed old new text n
end_step old new first text rest n expected new_expected segments numbers last count =
    let taken : List ℕ = end_line (length old.segments.items) (records_in old.segments.items) in
    let long : 4 ≤ length taken = simp length-append (omega arith) in
    let size : n ≡ length taken =
    omega (arith, count, ap (λ (l : List ℕ). length l) last.is, length-append taken rest) in
    record {
      taken = taken;
      rest = rest;
      is = last.is;
      count = size;
      some = omega (arith, size, long);
      follows = λ past follows.
          let to = read_to old (Segment first) past expected follows in
          let read : ReadEnd first old.segments.items (past ++ taken) = record {
            before = past;
            read = to.0;
            fits = last.fits;
            is = refl;
          } in
          follows_at new (End first) (past ++ taken) new_expected
          (same_lists old new (End first) (past ++ taken) segments numbers read);
    }

pub word_step : (old new : Draft) (first : FirstLines) (line : FirstLine) (last : Bool) (text rest : List ℕ) (n : ℕ)
    → old.expected ≡ Separators first line
    → ((past : List ℕ) → ReadOpening first old.segments.items line past → All (λ n. n < 2 ^ 64) old.numbers.items
    → HasRead new (past ++ numbers_then old.numbers.items last))
    → text ≡ codes "separators" ++ (stop_byte last ∷ rest) → n ≡ length text - length rest
    → IsConsumed old new text n
word_step old new first line last text rest n expected goes is count =
    let taken : List ℕ = numbers_then [] last in
    let split : text ≡ taken ++ rest = is in
    let size : n ≡ length taken = omega (arith, count, ap (λ (l : List ℕ). length l) split, length-append taken rest) in
    record {
      taken = taken;
      rest = rest;
      is = split;
      count = size;
      some = omega (arith, size);
      follows = λ past follows.
          let to = read_to old (Separators first line) past expected follows in
          let none : All (λ n. n < 2 ^ 64) [] = λ k d within. absurd (omega arith) in
          subst (λ (ns : List ℕ). HasRead new (past ++ numbers_then ns last)) to.1
          (goes past to.0 (subst (λ (ns : List ℕ). All (λ n. n < 2 ^ 64) ns) (sym to.1) none));
    }

-- no more of the separators' line
pub no_more : (numbers : List ℕ) (last : Bool) (text : List ℕ) → AreMore numbers last text numbers last text
no_more numbers last text = record {
  taken = [];
  is = refl;
  line = append-nil (numbers_then numbers last);
  each = λ fits. fits;
}

-- one more separator
pub one_read : (old new : List ℕ) (number : ℕ) (last : Bool) (text rest : List ℕ) → new ≡ old ++ number ∷ []
    → number < 2 ^ 64 → text ≡ decimal number ++ (stop_byte last ∷ rest) → AreMore old false text new last rest
one_read old new number last text rest pushed small is =
    let taken : List ℕ = decimal number ++ (stop_byte last ∷ []) in
    record {
      taken = taken;
      is = is ∙ sym (append_assoc (decimal number) (stop_byte last ∷ []) rest);
      line = numbers_more [] old 32 taken
          ∙ ap (λ (l : List ℕ). codes "separators" ++ l) (one_more old number (stop_byte last ∷ []))
          ∙ ap (λ (ns : List ℕ). numbers_then ns last) (sym pushed);
      each = λ fits. subst (λ (ns : List ℕ). All (λ n. n < 2 ^ 64) ns) (sym pushed)
          (All-push (λ m. m < 2 ^ 64) old number fits small);
    }

-- more of the line, and then still more of it
pub more_then : (old mid new : List ℕ) (ended between last : Bool) (text next rest : List ℕ)
    → AreMore old ended text mid between next → AreMore mid between next new last rest
    → AreMore old ended text new last rest
more_then old mid new ended between last text next rest more further = record {
  taken = more.taken ++ further.taken;
  is = more.is ∙ ap (λ (l : List ℕ). more.taken ++ l) further.is ∙ sym (append_assoc more.taken further.taken rest);
  line = sym (append_assoc (numbers_then old ended) more.taken further.taken)
      ∙ ap (λ (l : List ℕ). l ++ further.taken) more.line ∙ further.line;
  each = λ fits. further.each (more.each fits);
}

-- the text after a separator is shorter
pub after_shorter : (number : ℕ) (last : Bool) (text rest : List ℕ) → text ≡ decimal number ++ (stop_byte last ∷ rest)
    → length rest < length text
after_shorter number last text rest is =
    omega (arith, ap (λ (l : List ℕ). length l) is, length-append (decimal number) (stop_byte last ∷ rest))

pub more_shorter : (old new : List ℕ) (ended last : Bool) (text rest : List ℕ) → AreMore old ended text new last rest
    → length rest ≤ length text
more_shorter old new ended last text rest more =
    omega (arith, ap (λ (l : List ℕ). length l) more.is, length-append more.taken rest)

pub number_step : (old mid new : Draft) (first : FirstLines) (line : FirstLine) (last : Bool) (text rest : List ℕ)
    (n : ℕ) → old.expected ≡ Number first line → mid.segments.items ≡ old.segments.items
    → AreMore old.numbers.items false text mid.numbers.items last rest → length rest < length text
    → ((past : List ℕ) → ReadOpening first mid.segments.items line past → All (λ n. n < 2 ^ 64) mid.numbers.items
    → HasRead new (past ++ numbers_then mid.numbers.items last))
    → n ≡ length text - length rest → IsConsumed old new text n
number_step old mid new first line last text rest n expected segments more shorter goes count =
    let size : n ≡ length more.taken =
    omega (arith, count, ap (λ (l : List ℕ). length l) more.is, length-append more.taken rest) in
    record {
      taken = more.taken;
      rest = rest;
      is = more.is;
      count = size;
      some = omega (arith, count, shorter);
      follows = λ past follows.
          let to = read_to old (Number first line) past expected follows in
          let read : ReadOpening first mid.segments.items line to.before =
          subst (λ (ss : List SegmentLine). ReadOpening first ss line to.before) (sym segments) to.read in
          let shown : past ++ more.taken ≡ to.before ++ numbers_then mid.numbers.items last =
          ap (λ (p : List ℕ). p ++ more.taken) to.is
          ∙ append_assoc to.before (numbers_then old.numbers.items false) more.taken
          ∙ ap (λ (l : List ℕ). to.before ++ l) more.line in
          subst (λ (p : List ℕ). HasRead new p) (sym shown) (goes to.before read (more.each to.each));
    }

-- one more segment was read
pub closes : (first : FirstLines) (segments more : List SegmentLine) (segment : SegmentLine) (line : FirstLine)
    (past : List ℕ) → ReadOpening first segments line past → more ≡ segments ++ segment ∷ []
    → segment.key ≡ line.key → segment.start ≡ line.start → segment.samples ≡ line.samples
    → segment.records ≡ line.records → All (λ n. n < 2 ^ 64) segment.separators.items
    → ReadSegments first more (past ++ numbers_then segment.separators.items true)
closes first segments more segment line past read pushed key start samples records fits =
    let is_line : IsContentLine (content_line segment) = record {
      key = rw key read.is_key;
      start = rw start read.start;
      samples = rw samples read.samples;
      records = rw records read.records;
      separators = fits;
    } in
    let opens : IsOpening segment.key segment.start segment.samples segment.records [] read.opening =
    rw (key, start, samples, records) read.opens in
    let behind : List ℕ = separators_line segment.separators.items in
    let word = line_text (content_line segment) (read.opening ++ behind) behind []
    (opening_more segment.key segment.start segment.samples segment.records read.opening behind opens)
    (sym (append-nil behind)) in
    let bytes : ℕ = bytes_of first.length in
    record {
      is_first = read.read.is_first;
      each = rw (pushed, map_more segments segment)
          (all_more (map content_line segments) (content_line segment) read.read.each is_line);
      lines = read.read.lines ++ word.0;
      are = rw (pushed, map_more segments segment)
          (texts_more (map content_line segments) read.read.lines (content_line segment) word.0 read.read.are word.1.0);
      is = ap (λ (p : List ℕ). p ++ behind) read.is ∙ append_assoc read.before read.opening behind
          ∙ ap (λ (p : List ℕ). p ++ (read.opening ++ behind)) read.read.is
          ∙ first_append bytes first.tolerance first.kinds first.counts read.read.lines (read.opening ++ behind)
          ∙ ap (λ (l : List ℕ). first_then bytes first.tolerance first.kinds first.counts (read.read.lines ++ l))
          (word.1.1 ∙ append-nil word.0);
    }

-- after the first bytes of a text the rest of it stands there
pub drop_taken : (old new : Draft) (text : List ℕ) (n : ℕ) → (taken : IsConsumed old new text n)
    → drop n text ≡ taken.rest
drop_taken old new text n taken =
    ap (λ (l : List ℕ). drop n l) taken.is ∙ ap (λ (m : ℕ). drop m (taken.taken ++ taken.rest)) taken.count
    ∙ drop-append_seam taken.taken taken.rest

-- what was read of a text, and what is left
pub record Left (draft : Draft) (whole rest : List ℕ) : Type 0 where
  pub read : List ℕ
  pub follows : HasRead draft read
  pub is : whole ≡ read ++ rest

pub left_fault : (draft : Draft) (whole rest : List ℕ) (why : ReportFault) → Left draft whole rest
    → ((past more : List ℕ) → HasRead draft past → IsTextFault (past ++ (rest ++ more)) why) → IsTextFault whole why
left_fault draft whole rest why left fault =
    subst (λ (t : List ℕ). IsTextFault t why)
    (ap (λ (l : List ℕ). left.read ++ l) (append-nil rest) ∙ sym left.is) (fault left.read [] left.follows)

pub left_whole : (draft : Draft) (whole rest : List ℕ) → (left : Left draft whole rest) → rest ≡ []
    → left.read ≡ whole
left_whole draft whole rest left none =
    sym (left.is ∙ ap (λ (l : List ℕ). left.read ++ l) none ∙ append-nil left.read)

pub taken_within : (old new : Draft) (text : List ℕ) (n : ℕ) → IsConsumed old new text n → n ≤ length text
taken_within old new text n taken =
    omega (arith, ap length taken.is, length-append taken.taken taken.rest, taken.count)

pub left_taken : (old new : Draft) (whole text : List ℕ) (n : ℕ) → Left old whole text → IsConsumed old new text n
    → Left new whole (take (length text - n) (drop n text))
left_taken old new whole text n left taken =
    let rest : take (length text - n) (drop n text) ≡ taken.rest =
    take_all (length text - n) (drop n text) (omega (arith, length-drop n text)) ∙ drop_taken old new text n taken in
    record {
      read = left.read ++ taken.taken;
      follows = taken.follows left.read left.follows;
      is = left.is ∙ ap (λ (l : List ℕ). left.read ++ l) taken.is ∙ sym (append_assoc left.read taken.taken taken.rest)
          ∙ ap (λ (l : List ℕ). (left.read ++ taken.taken) ++ l) (sym rest);
    }

pub left_cut : (old new : Draft) (whole text : List ℕ) (line : ℕ) → Left old whole text → IsCut old new text line
    → IsFaultLine whole line
left_cut old new whole text line left cut =
    subst (λ (t : List ℕ). IsFaultLine t line) (sym left.is) (cut.fault left.read left.follows)

-- a whole report was read
pub whole_report : (report : Report) (first : FirstLines) (past : List ℕ) → report.length ≡ first.length
    → report.kinds ≡ first.kinds → report.tolerance ≡ first.tolerance → report.counts ≡ first.counts
    → ReadEnd first report.segments.items past → IsReadFrom report past
whole_report report first past same_length same_kinds same_tolerance same_counts read =
    let last : List ℕ = end_line (length report.segments.items) (records_in report.segments.items) in
    let going : Going (read.before ++ last) (bytes_of report.length) report.tolerance report.kinds report.counts
    report.segments.items last = rw (same_length, same_kinds, same_tolerance, same_counts)
    (going_of first report.segments.items read.before last read.read) in
    subst (λ (p : List ℕ). IsReadFrom report p) (sym read.is)
    (found_report report (read.before ++ last) last going read.fits refl)
