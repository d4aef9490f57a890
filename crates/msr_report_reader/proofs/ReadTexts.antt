-- What may stand after the lines that were read.
use Rattle.std.proofs.Common.{◌≡◌, ◌∙◌, ap, sym, refl, subst, arith, ℕ, suc, ◌+◌, ◌*◌, ◌<◌, ◌≤◌, ◌^◌, List, [], ◌∷◌, ◌++◌, append_assoc, length, decimal, codes, All, map, ℤ}
use Rattle.std.proofs.lemmas.List.{append_cancel_left}
use Rattle.msr_base.specs.RecordLength.{IsRecordLength}
use Rattle.msr_base.specs.Lengths.{bytes_of}
use Rattle.msr_base.specs.declared.kinds.Kinds.{Kinds}
use Rattle.msr_base.specs.declared.kinds.Kinds.TheVariants.{All as AllKinds, WithoutInt24}
use Rattle.msr_rows.specs.declared.row.Key.{Key}
use Rattle.msr_report.specs.Proper.{records_in}
use Rattle.msr_report.specs.Text.{separators_line, kinds_line, counts_line}
use Rattle.msr_base.specs.declared.counts.Counts.{Counts}
use Rattle.msr_report.specs.declared.report.SegmentLine.{SegmentLine}
use Rattle.msr_report_reader.specs.Content.{ContentLine, IsReportKey, IsFirst, IsContentLine, AreContentLineTexts, IsOpening, content_records, content_line, first_then, lines_before}
use Rattle.msr_report_reader.proofs.Rest.{AtLine, InFirst, counts_body, body_5, tail_5, tail_6}
use Rattle.msr_report_reader.specs.Draft.{ReadSegments}
use Rattle.msr_report_reader.specs.declared.first.FirstLines.{FirstLines}
use Rattle.msr_report_reader.proofs.LineFeeds.{same_cons}
use Rattle.msr_report_reader.proofs.RestOfText.{record_length_small, counts_then, counts_split, step_5, words_not_counts}
use Rattle.msr_report_reader.proofs.FirstLines.{ReadsTitle, ReadsLength, ReadsTolerance, after_body, after_counts, fourth_line, fifth_line}
use Rattle.msr_report_reader.proofs.Segments.{Tail, at_map, tail_from_first}
use Rattle.msr_report_reader.proofs.SegmentsRead.{Going, length-lines, records_same, opening_not_end}
use Rattle.msr_report_reader.proofs.NextLines.{ReadsOnly, opens_with, at_second, at_segment}
use Rattle.msr_report_reader.proofs.BegunReports.{first_append}
use Rattle.msr_report_reader.proofs.SameFields.{same_number, same_time}
use Rattle.msr_report_reader.proofs.OneContent.{same_key, same_separators}

-- where a line was found, no other stands
pub title_only : (text t : List ℕ) → text ≡ codes "msrepack 1" ++ (10 ∷ t) → ReadsTitle text t
title_only text t is = λ x shown.
    (same_cons 10 10 t x (append_cancel_left (codes "msrepack 1") (10 ∷ t) (10 ∷ x) (sym is ∙ shown))).1

pub length_only : (text t : List ℕ) (bytes : ℕ) → IsRecordLength bytes
    → text ≡ codes "length " ++ (decimal bytes ++ (10 ∷ t)) → ReadsLength text t
length_only text t bytes is_length is = λ n x is_n shown.
    let small = record_length_small bytes is_length in
    let other_small = record_length_small n is_n in
    let number = same_number bytes n (10 ∷ t) (10 ∷ x) (omega (arith, small)) (omega (arith, other_small)) refl refl
    (append_cancel_left (codes "length ") (decimal bytes ++ (10 ∷ t)) (decimal n ++ (10 ∷ x)) (sym is ∙ shown)) in
    (same_cons 10 10 t x number.1).1

pub tolerance_only : (text t : List ℕ) (tolerance : ℕ) → tolerance ≤ 1_000_000
    → text ≡ codes "tolerance " ++ (decimal tolerance ++ (10 ∷ t)) → ReadsTolerance text t
tolerance_only text t tolerance most is = λ n x least small shown.
    let number = same_number tolerance n (10 ∷ t) (10 ∷ x) (omega (arith, most)) (omega (arith, small)) refl refl
    (append_cancel_left (codes "tolerance ") (decimal tolerance ++ (10 ∷ t)) (decimal n ++ (10 ∷ x))
    (sym is ∙ shown)) in
    (same_cons 10 10 t x number.1).1

counts_only : (bytes tolerance other_bytes other_tolerance : ℕ) (a b : Counts) (t x : List ℕ)
    → IsFirst bytes tolerance a → IsFirst other_bytes other_tolerance b
    → counts_line a ++ t ≡ counts_body b ++ (10 ∷ x) → t ≡ x
counts_only bytes tolerance other_bytes other_tolerance a b t x is_a is_b shown =
    let line = sym (counts_then a t ∙ counts_split a t) ∙ shown ∙ counts_split b x in
    let read = same_number a.read b.read _ _ is_a.read is_b.read refl refl
    (append_cancel_left (codes "read ") _ _ line) in
    let empty = same_number a.empty b.empty _ _ is_a.empty is_b.empty refl refl
    (append_cancel_left (codes " empty ") _ _ read.1) in
    let mismatched = same_number a.mismatched b.mismatched (10 ∷ t) (10 ∷ x) is_a.mismatched is_b.mismatched refl
    refl (append_cancel_left (codes " mismatched ") _ _ empty.1) in
    (same_cons 10 10 t x mismatched.1).1

-- after the lines before the segments
first_at : (bytes tolerance : ℕ) (kinds : Kinds) (counts : Counts) (text rest : List ℕ) → IsFirst bytes tolerance counts
    → text ≡ first_then bytes tolerance kinds counts rest → AtLine (InFirst tail_6) text rest (lines_before kinds)
first_at bytes tolerance AllKinds counts text rest is_first is =
    let t3 : List ℕ = counts_line counts ++ rest in
    let t2 : List ℕ = codes "tolerance " ++ (decimal tolerance ++ (10 ∷ t3)) in
    let t1 : List ℕ = codes "length " ++ (decimal bytes ++ (10 ∷ t2)) in
    after_counts text t3 rest (fourth_line text t1 t2 t3 (title_only text t1 is)
    (length_only t1 t2 bytes is_first.is_length refl) (tolerance_only t2 t3 tolerance is_first.most refl))
    (λ content x is_content shown. counts_only bytes tolerance content.bytes content.tolerance counts content.counts
    rest x is_first is_content.first shown) (λ kinds x shown. words_not_counts kinds (10 ∷ x) _ (sym shown))
first_at bytes tolerance WithoutInt24 counts text rest is_first is =
    let t4 : List ℕ = counts_line counts ++ rest in
    let t3 : List ℕ = kinds_line WithoutInt24 ++ t4 in
    let t2 : List ℕ = codes "tolerance " ++ (decimal tolerance ++ (10 ∷ t3)) in
    let t1 : List ℕ = codes "length " ++ (decimal bytes ++ (10 ∷ t2)) in
    after_body tail_5 tail_6 body_5 text t4 rest 4
    (fifth_line text t3 t4 WithoutInt24 (λ e. absurd cc) refl (fourth_line text t1 t2 t3 (title_only text t1 is)
    (length_only t1 t2 bytes is_first.is_length refl) (tolerance_only t2 t3 tolerance is_first.most refl))) step_5
    (λ content x is_content shown. counts_only bytes tolerance content.bytes content.tolerance counts content.counts
    rest x is_first is_content.first shown)

-- the same first line of a segment, and the same text after it
same_opening : (key other : Key) (start other_start : ℤ) (samples records other_samples other_records : ℕ)
    (xs ys text : List ℕ) → IsReportKey key → IsReportKey other → samples < 2 ^ 64 → records < 2 ^ 64 → other_samples < 2 ^ 64
    → other_records < 2 ^ 64 → IsOpening key start samples records xs text
    → IsOpening other other_start other_samples other_records ys text → (records ≡ other_records) × (xs ≡ ys)
same_opening key other start other_start samples records other_samples other_records xs ys text is_key is_other
    fits_samples fits_records fits_other_samples fits_other_records opens other_opens =
    let records_then : List ℕ = codes " records " ++ (decimal records ++ (10 ∷ xs)) in
    let other_records_then : List ℕ = codes " records " ++ (decimal other_records ++ (10 ∷ ys)) in
    let samples_then : List ℕ = codes " samples " ++ (decimal samples ++ records_then) in
    let other_samples_then : List ℕ = codes " samples " ++ (decimal other_samples ++ other_records_then) in
    let key_same = same_key key other (codes " start " ++ (opens.word ++ samples_then))
    (codes " start " ++ (other_opens.word ++ other_samples_then)) is_key is_other refl refl
    (sym opens.is ∙ other_opens.is) in
    let start_same = same_time start other_start opens.word other_opens.word samples_then other_samples_then
    opens.time other_opens.time (append_cancel_left (codes " start ") _ _ key_same.1) in
    let samples_same = same_number samples other_samples records_then other_records_then fits_samples
    fits_other_samples refl refl (append_cancel_left (codes " samples ") _ _ start_same.1) in
    let records_same = same_number records other_records (10 ∷ xs) (10 ∷ ys) fits_records fits_other_records
    refl refl (append_cancel_left (codes " records ") _ _ samples_same.1) in
    (records_same.0, (same_cons 10 10 xs ys records_same.1).1)

pub only_opening : (line : ContentLine) (more text : List ℕ) → IsContentLine line
    → IsOpening line.key line.start line.samples line.records more text → ReadsOnly text more line.records
only_opening line more text is_line opens = λ key start samples n x is_key fits_samples fits_n other.
    same_opening line.key key line.start start line.samples line.records samples n more x text is_line.key is_key
    is_line.samples is_line.records fits_samples fits_n opens other

at_numbers : (k l r s i j : ℕ) (text rest : List ℕ) → l ≡ k → s ≡ r → j ≡ i → AtLine (Tail k r) text rest i
    → AtLine (Tail l s) text rest j
at_numbers k l r s i j text rest same_k same_r same_i at = rw (same_k, same_r, same_i) at

-- after the lines of further segments
lines_at : (text : List ℕ) (k r i : ℕ) (lines : List ContentLine) (word rest : List ℕ) → All IsContentLine lines
    → AreContentLineTexts lines word → AtLine (Tail k r) text (word ++ rest) i
    → AtLine (Tail (k + length lines) (r + content_records lines)) text rest (i + 2 * length lines)
lines_at text k r i [] word rest each are at =
    let none : word ≡ [] = are in
    at_numbers k (k + 0) r (r + 0) i (i + 0) text rest (omega arith) (omega arith) (omega arith)
    (subst (λ (l : List ℕ). AtLine (Tail k r) text l i) (ap (λ (w : List ℕ). w ++ rest) none) at)
lines_at text k r i (line ∷ lines) word rest each are at =
    let first : List ℕ = are.0 in
    let behind : List ℕ = are.1.0 in
    let is_line : IsContentLine line = each 0 line (omega arith) in
    let more : List ℕ = separators_line line.separators ++ (behind ++ rest) in
    let opens = opens_with line first (behind ++ rest) (word ++ rest) are.1.1.0
    (ap (λ (w : List ℕ). w ++ rest) are.1.1.2 ∙ append_assoc first behind rest) in
    let second = at_second text (word ++ rest) more k r i line.records at
    (only_opening line more (word ++ rest) is_line opens)
    (λ x is. opening_not_end line more (word ++ rest) x k r opens is) in
    let third = at_segment text more (behind ++ rest) k r (suc i) line.records second
    (λ ns x each_n is. (same_separators line.separators ns (behind ++ rest) x is_line.separators each_n is).1) in
    at_numbers (suc k + length lines) (k + suc (length lines)) ((r + line.records) + content_records lines)
    (r + (line.records + content_records lines)) (suc (suc i) + 2 * length lines) (i + 2 * suc (length lines)) text rest
    (omega arith) (omega arith) (omega arith)
    (lines_at text (suc k) (r + line.records) (suc (suc i)) lines behind rest
    (λ j d within. each (suc j) d (omega arith)) are.1.1.1 third)

pub going_of : (first : FirstLines) (segments : List SegmentLine) (past rest : List ℕ)
    → ReadSegments first segments past
    → Going (past ++ rest) (bytes_of first.length) first.tolerance first.kinds first.counts segments rest
going_of first segments past rest read =
    let shown : past ++ rest ≡ first_then (bytes_of first.length) first.tolerance first.kinds first.counts
    (read.lines ++ rest) =
    ap (λ (t : List ℕ). t ++ rest) read.is
    ∙ first_append (bytes_of first.length) first.tolerance first.kinds first.counts read.lines rest in
    record {
      lines = read.lines;
      are = read.are;
      each = read.each;
      is_first = read.is_first;
      shown = shown;
      at = at_numbers (0 + length (map content_line segments)) (length segments)
          (0 + content_records (map content_line segments)) (records_in segments)
          (lines_before first.kinds + 2 * length (map content_line segments))
          (lines_before first.kinds + 2 * length segments) (past ++ rest) rest
          (omega (arith, length-lines segments)) (omega (arith, records_same segments))
          (omega (arith, length-lines segments))
          (lines_at (past ++ rest) 0 0 (lines_before first.kinds) (map content_line segments) read.lines rest
          read.each read.are
          (at_map (InFirst tail_6) (Tail 0 0) (past ++ rest) (read.lines ++ rest) (lines_before first.kinds)
          tail_from_first
          (first_at (bytes_of first.length) first.tolerance first.kinds first.counts (past ++ rest) (read.lines ++ rest)
          read.is_first shown)));
    }
