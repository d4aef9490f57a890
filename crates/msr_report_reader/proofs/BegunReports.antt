-- The lines that were read begin a report.
use Rattle.std.proofs.Common.{◌≡◌, ◌∙◌, ap, sym, refl, rules, arith, subst, ℕ, zero, suc, ◌+◌, ◌*◌, ◌<◌, ◌^◌, List, [], ◌∷◌, ◌++◌, append_assoc, length, decimal, codes, All, map}
use Rattle.std.proofs.lemmas.List.{append-nil}
use Rattle.msr_base.specs.declared.kinds.Kinds.{Kinds}
use Rattle.msr_base.specs.declared.kinds.Kinds.TheVariants.{All as AllKinds, WithoutInt24}
use Rattle.msr_report.specs.Proper.{records_in}
use Rattle.msr_report.specs.Text.{segment_words, separators_line, end_line, kinds_words, kinds_line, counts_line}
use Rattle.msr_base.specs.declared.counts.Counts.{Counts}
use Rattle.msr_report.specs.declared.report.SegmentLine.{SegmentLine}
use Rattle.msr_report_reader.specs.Content.{Content, ContentLine, IsContent, IsFirst, IsContentLine, IsContentLineText, AreContentLineTexts, IsOpening, content_records, content_line, first_then, lines_before, three_then}
use Rattle.msr_report_reader.specs.Fault.{IsOneLine, IsOfLines, BeginsReport}
use Rattle.msr_report_reader.proofs.Rest.{body_1, body_2, body_3, body_5}
use Rattle.msr_report_reader.proofs.RestOfText.{not_empty, content_with, one_2, one_3, one_5, counts_then, words_are_one}
use Rattle.msr_report_reader.proofs.Segments.{opening_body, end_body, opening_then, end_then, words_then}
use Rattle.msr_report_reader.proofs.OneLines.{opening_is_one, end_is_one}
use Rattle.msr_report_reader.proofs.NextLines.{opens_with, separators_body, separators_then, separators_body_is_one}
use Rattle.msr_report_reader.proofs.SegmentsRead.{Going, texts_more, all_more, length-lines, records_same}

same_count : (m n : ℕ) (text : List ℕ) → m ≡ n → IsOfLines m text → IsOfLines n text
same_count m n text is are = rw (sym is) are

lines_append : (a b : ℕ) (xs ys : List ℕ) → IsOfLines a xs → IsOfLines b ys → IsOfLines (a + b) (xs ++ ys)
lines_append zero b xs ys first second = let none : xs ≡ [] = first in
    same_count b (zero + b) (xs ++ ys) (omega arith) (rw none second)
lines_append (suc a) b xs ys first second =
    same_count (suc (a + b)) (suc a + b) (xs ++ ys) (omega arith) (
      first.0,
      (
        first.1.0 ++ ys,
        (
          first.1.1.0,
          lines_append a b first.1.0 ys first.1.1.1 second,
          ap (λ (l : List ℕ). l ++ ys) first.1.1.2 ∙ append_assoc first.0 (10 ∷ first.1.0) ys,
        ),
      ),
    )

one_line : (body : List ℕ) → IsOneLine body → IsOfLines 1 (body ++ (10 ∷ []))
one_line body one = (body, ([], (one, refl, refl)))

-- lines after the first three
three_lines : (n bytes tolerance : ℕ) (counts : Counts) (rest : List ℕ) → IsFirst bytes tolerance counts
    → IsOfLines n rest
    → IsOfLines (suc (suc (suc n))) (three_then bytes tolerance rest)
three_lines n bytes tolerance counts rest is_first are =
    let content : Content = content_with bytes tolerance AllKinds counts in
    let is_content : IsContent content = record { first = is_first; segments = λ k d within. absurd (omega arith) } in (
      body_1 content,
      (
        body_2 content ++ (10 ∷ (body_3 content ++ (10 ∷ rest))),
        (
          search rules,
          (
            body_2 content,
            (
              body_3 content ++ (10 ∷ rest),
              (
                one_2 content is_content,
                (body_3 content, (rest, (one_3 content is_content, are, refl))),
                refl,
              ),
            ),
          ),
          refl,
        ),
      ),
    )

counts_are : (bytes tolerance : ℕ) (kinds : Kinds) (counts : Counts) → IsFirst bytes tolerance counts
    → IsOfLines 1 (counts_line counts ++ [])
counts_are bytes tolerance kinds counts is_first =
    let content : Content = content_with bytes tolerance kinds counts in (
      body_5 content,
      (
        [],
        (
          one_5 content record { first = is_first; segments = λ k d within. absurd (omega arith) },
          refl,
          counts_then counts [],
        ),
      ),
    )

first_lines_are : (bytes tolerance : ℕ) (kinds : Kinds) (counts : Counts) → IsFirst bytes tolerance counts
    → IsOfLines (lines_before kinds) (first_then bytes tolerance kinds counts [])
first_lines_are bytes tolerance AllKinds counts is_first =
    three_lines 1 bytes tolerance counts (counts_line counts ++ []) is_first
    (counts_are bytes tolerance AllKinds counts is_first)
first_lines_are bytes tolerance WithoutInt24 counts is_first =
    three_lines 2 bytes tolerance counts (kinds_line WithoutInt24 ++ (counts_line counts ++ [])) is_first (
      kinds_words WithoutInt24,
      (
        counts_line counts ++ [],
        (words_are_one WithoutInt24, counts_are bytes tolerance WithoutInt24 counts is_first, refl),
      ),
    )

pub first_append : (bytes tolerance : ℕ) (kinds : Kinds) (counts : Counts) (xs ys : List ℕ)
    → first_then bytes tolerance kinds counts xs ++ ys ≡ first_then bytes tolerance kinds counts (xs ++ ys)
first_append bytes tolerance kinds counts xs ys = simp append_assoc

line_lines : (line : ContentLine) (word : List ℕ) → IsContentLine line → IsContentLineText line word → IsOfLines 2 word
line_lines line word is_line is =
    let opening = opens_with line word [] word is (sym (append-nil word)) in (
      opening_body line.key opening.word line.samples line.records,
      (
        separators_line line.separators ++ [],
        (
          opening_is_one line.key line.start opening.word line.samples line.records is_line.key opening.time,
          (
            separators_body line.separators,
            (
              [],
              (
                separators_body_is_one line.separators is_line.separators,
                refl,
                separators_then line.separators [],
              ),
            ),
          ),
          opening.is ∙ sym (opening_then line.key opening.word line.samples line.records
              (separators_line line.separators ++ [])),
        ),
      ),
    )

texts_lines : (lines : List ContentLine) (text : List ℕ) → All IsContentLine lines → AreContentLineTexts lines text
    → IsOfLines (2 * length lines) text
texts_lines [] text each are = are
texts_lines (line ∷ lines) text each are =
    let is : text ≡ are.0 ++ are.1.0 = are.1.1.2 in
    same_count (2 + 2 * length lines) (2 * suc (length lines)) text (omega arith)
    (rw is (lines_append 2 (2 * length lines) are.0 are.1.0
    (line_lines line are.0 (each 0 line (omega arith)) are.1.1.0)
    (texts_lines lines are.1.0 (λ k d within. each (suc k) d (omega arith)) are.1.1.1)))

going_lines : (text : List ℕ) (bytes tolerance : ℕ) (kinds : Kinds) (counts : Counts) (segments : List SegmentLine)
    (rest : List ℕ) (going : Going text bytes tolerance kinds counts segments rest)
    → IsOfLines (lines_before kinds + 2 * length segments) (first_then bytes tolerance kinds counts going.lines)
going_lines text bytes tolerance kinds counts segments rest going =
    let lines = lines_append (lines_before kinds) (2 * length (map content_line segments))
    (first_then bytes tolerance kinds counts []) going.lines
    (first_lines_are bytes tolerance kinds counts going.is_first)
    (texts_lines (map content_line segments) going.lines going.each going.are) in
    same_count (lines_before kinds + 2 * length (map content_line segments)) (lines_before kinds + 2 * length segments)
    (first_then bytes tolerance kinds counts going.lines) (omega (arith, length-lines segments))
    (subst (λ (l : List ℕ). IsOfLines (lines_before kinds + 2 * length (map content_line segments)) l)
    (first_append bytes tolerance kinds counts [] going.lines) lines)

abbrev content_from : ℕ → ℕ → Kinds → Counts → List ContentLine → Content
content_from bytes tolerance kinds counts lines = record
    { bytes = bytes; kinds = kinds; tolerance = tolerance; counts = counts; segments = lines }

pub before_segment : (text : List ℕ) (bytes tolerance : ℕ) (kinds : Kinds) (counts : Counts)
    (segments : List SegmentLine) (rest : List ℕ) → Going text bytes tolerance kinds counts segments rest
    → BeginsReport text (lines_before kinds + 2 * length segments)
before_segment text bytes tolerance kinds counts segments rest going =
    let end : List ℕ = end_line (length (map content_line segments)) (content_records (map content_line segments)) in
    record {
      content = content_from bytes tolerance kinds counts (map content_line segments);
      first = first_then bytes tolerance kinds counts going.lines;
      behind = rest;
      rest = end;
      is_content = record { first = going.is_first; segments = going.each };
      lines = going_lines text bytes tolerance kinds counts segments rest going;
      shown = going.shown ∙ sym (first_append bytes tolerance kinds counts going.lines rest);
      begins = record {
        segments = going.lines;
        are = going.are;
        is = first_append bytes tolerance kinds counts going.lines end;
      };
      records = λ none. absurd (not_empty _ _ none);
    }

one_more : (lines body more : List ℕ) → (lines ++ (body ++ (10 ∷ []))) ++ more ≡ lines ++ (body ++ (10 ∷ more))
one_more lines body more = append_assoc lines (body ++ (10 ∷ [])) more
    ∙ ap (λ (l : List ℕ). lines ++ l) (append_assoc body (10 ∷ []) more)

more_lines : (text : List ℕ) (bytes tolerance : ℕ) (kinds : Kinds) (counts : Counts) (segments : List SegmentLine)
    (rest body : List ℕ) (going : Going text bytes tolerance kinds counts segments rest)
    → IsOneLine body → IsOfLines (suc (lines_before kinds + 2 * length segments))
    (first_then bytes tolerance kinds counts (going.lines ++ (body ++ (10 ∷ []))))
more_lines text bytes tolerance kinds counts segments rest body going one =
    same_count ((lines_before kinds + 2 * length segments) + 1) (suc (lines_before kinds + 2 * length segments))
    (first_then bytes tolerance kinds counts (going.lines ++ (body ++ (10 ∷ [])))) (omega arith)
    (subst (λ (l : List ℕ). IsOfLines ((lines_before kinds + 2 * length segments) + 1) l)
    (first_append bytes tolerance kinds counts going.lines (body ++ (10 ∷ [])))
    (lines_append (lines_before kinds + 2 * length segments) 1 (first_then bytes tolerance kinds counts going.lines)
    (body ++ (10 ∷ [])) (going_lines text bytes tolerance kinds counts segments rest going) (one_line body one)))

more_shown : (text : List ℕ) (bytes tolerance : ℕ) (kinds : Kinds) (counts : Counts) (lines rest body more : List ℕ)
    → text ≡ first_then bytes tolerance kinds counts (lines ++ rest) → rest ≡ body ++ (10 ∷ more)
    → text ≡ first_then bytes tolerance kinds counts (lines ++ (body ++ (10 ∷ []))) ++ more
more_shown text bytes tolerance kinds counts lines rest body more shown is =
    shown ∙ ap (first_then bytes tolerance kinds counts) (ap (λ (l : List ℕ). lines ++ l) is
    ∙ sym (one_more lines body more))
    ∙ sym (first_append bytes tolerance kinds counts (lines ++ (body ++ (10 ∷ []))) more)

-- when the first line of a segment was read
pub before_second : (text : List ℕ) (bytes tolerance : ℕ) (kinds : Kinds) (counts : Counts)
    (segments : List SegmentLine)
    (rest more : List ℕ) (line : ContentLine) → Going text bytes tolerance kinds counts segments rest
    → IsContentLine line → IsOpening line.key line.start line.samples line.records more rest
    → BeginsReport text (suc (lines_before kinds + 2 * length segments))
before_second text bytes tolerance kinds counts segments rest more line going is_line opening =
    let body : List ℕ = opening_body line.key opening.word line.samples line.records in
    let word : List ℕ = segment_words line.key opening.word line.samples
    (codes " records " ++ (decimal line.records ++ (10 ∷ separators_line line.separators))) in
    let lines : List ContentLine = map content_line segments ++ line ∷ [] in
    let end : List ℕ = end_line (length lines) (content_records lines) in
    let behind : List ℕ = separators_line line.separators ++ end in
    let same = opening_then line.key opening.word line.samples line.records behind
    ∙ sym (words_then line.key opening.word line.samples line.records line.separators end) in
    let whole : (going.lines ++ (body ++ (10 ∷ []))) ++ behind ≡ (going.lines ++ word) ++ end =
    one_more going.lines body behind ∙ ap (λ (l : List ℕ). going.lines ++ l) same
    ∙ sym (append_assoc going.lines word end) in
    record {
      content = content_from bytes tolerance kinds counts lines;
      first = first_then bytes tolerance kinds counts (going.lines ++ (body ++ (10 ∷ [])));
      behind = more;
      rest = behind;
      is_content = record {
        first = going.is_first;
        segments = all_more (map content_line segments) line going.each is_line;
      };
      lines = more_lines text bytes tolerance kinds counts segments rest body going
          (opening_is_one line.key line.start opening.word line.samples line.records is_line.key opening.time);
      shown = more_shown text bytes tolerance kinds counts going.lines rest body more going.shown
          (opening.is ∙ sym (opening_then line.key opening.word line.samples line.records more));
      begins = record {
        segments = going.lines ++ word;
        are = texts_more (map content_line segments) going.lines line word going.are record
            { word = opening.word; time = opening.time; is = refl };
        is = first_append bytes tolerance kinds counts (going.lines ++ (body ++ (10 ∷ []))) behind
            ∙ ap (first_then bytes tolerance kinds counts) whole;
      };
      records = λ none. absurd (not_empty _ _ none);
    }

-- when the last line was read
pub before_behind : (text : List ℕ) (bytes tolerance : ℕ) (kinds : Kinds) (counts : Counts)
    (segments : List SegmentLine) (rest more : List ℕ) → Going text bytes tolerance kinds counts segments rest
    → records_in segments < 2 ^ 64 → rest ≡ end_line (length segments) (records_in segments) ++ more
    → BeginsReport text (suc (lines_before kinds + 2 * length segments))
before_behind text bytes tolerance kinds counts segments rest more going fits is =
    let body : List ℕ = end_body (length segments) (records_in segments) in
    let end : List ℕ = end_line (length (map content_line segments)) (content_records (map content_line segments)) in
    let last : body ++ (10 ∷ []) ≡ end = sym (end_then (length segments) (records_in segments) [])
    ∙ append-nil (end_line (length segments) (records_in segments))
    ∙ rw (length-lines segments, records_same segments) refl in
    record {
      content = content_from bytes tolerance kinds counts (map content_line segments);
      first = first_then bytes tolerance kinds counts (going.lines ++ (body ++ (10 ∷ [])));
      behind = more;
      rest = [];
      is_content = record { first = going.is_first; segments = going.each };
      lines = more_lines text bytes tolerance kinds counts segments rest body going
          (end_is_one (length segments) (records_in segments));
      shown = more_shown text bytes tolerance kinds counts going.lines rest body more going.shown
          (is ∙ end_then (length segments) (records_in segments) more);
      begins = record {
        segments = going.lines;
        are = going.are;
        is = append-nil (first_then bytes tolerance kinds counts (going.lines ++ (body ++ (10 ∷ []))))
            ∙ ap (λ (l : List ℕ). first_then bytes tolerance kinds counts (going.lines ++ l)) last;
      };
      records = λ _. rw (records_same segments) fits;
    }
