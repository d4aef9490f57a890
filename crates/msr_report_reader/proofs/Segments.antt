-- The lines of the segments: from the lines that were read to the rest of the text.
use Rattle.std.proofs.Common.{◌≡◌, ◌∙◌, ap, sym, refl, arith, ℕ, zero, suc, ◌+◌, ◌<◌, ◌^◌, List, [], ◌∷◌, ◌++◌, append_assoc, length, decimal, codes, All, ℤ}
use Rattle.msr_rows.specs.declared.row.Key.{Key}
use Rattle.msr_report.specs.Text.{segment_words, separators_line, end_line, IsTimeText}
use Rattle.msr_report_reader.specs.Content.{ContentLine, IsReportKey, IsContentLine, IsContentLineText, AreContentLineTexts, IsOpening, key_then, content_records}
use Rattle.msr_report_reader.proofs.Rest.{InFirst, AtLine, tail_6}

-- after `segments` segments with `records` records, `w` is the lines of further segments and the
-- last line
pub record Tail (segments records : ℕ) (w : List ℕ) (P : Type 0) : Type 0 where
  pub lines : List ContentLine
  pub each : All IsContentLine lines
  pub text : List ℕ
  pub are : AreContentLineTexts lines text
  pub count : ℕ
  pub total : ℕ
  pub count_is : count ≡ segments + length lines
  pub total_is : total ≡ records + content_records lines
  pub is : w ≡ text ++ end_line count total
  pub sum : P → total < 2 ^ 64

-- the second line of a segment, and then those of the further segments
pub record Second (segments records : ℕ) (w : List ℕ) (P : Type 0) : Type 0 where
  pub separators : List ℕ
  pub each : All (λ n. n < 2 ^ 64) separators
  pub more : List ℕ
  pub is : w ≡ separators_line separators ++ more
  pub tail : Tail (suc segments) records more P

-- after the last line, when the value is 0, or after the first line of a segment of n records, when it is n + 1
abbrev pub Next : ℕ → ℕ → ℕ → List ℕ → Type 0 → Type 0
Next segments records zero w P = w ≡ []
Next segments records (suc n) w P = Second segments (records + n) w P

abbrev pub opening_body : Key → List ℕ → ℕ → ℕ → List ℕ
opening_body key word samples records =
    key_then key (codes " start " ++ (word ++ (codes " samples "
    ++ (decimal samples ++ (codes " records " ++ decimal records)))))

pub record IsOpeningBody (records : ℕ) (body : List ℕ) : Type 0 where
  pub key : Key
  pub start : ℤ
  pub samples : ℕ
  pub word : List ℕ
  pub is_key : IsReportKey key
  pub time : IsTimeText start word
  pub fits_samples : samples < 2 ^ 64
  pub fits_records : records < 2 ^ 64
  pub is : body ≡ opening_body key word samples records

abbrev pub end_body : ℕ → ℕ → List ℕ
end_body segments records = codes "end " ++ (decimal segments
    ++ (codes " segments " ++ (decimal records ++ codes " records")))

pub record IsEndBody (segments records : ℕ) (body : List ℕ) : Type 0 where
  pub fits : records < 2 ^ 64
  pub is : body ≡ end_body segments records

abbrev pub LineBody : ℕ → ℕ → ℕ → List ℕ → Type 0
LineBody segments records zero body = IsEndBody segments records body
LineBody segments records (suc n) body = IsOpeningBody n body

pub at_map : (L L' : List ℕ → Type 0 → Type 0) (text rest : List ℕ) (i : ℕ)
    → ((w : List ℕ) (P : Type 0) → L w P → L' w P) → AtLine L text rest i → AtLine L' text rest i
at_map L L' text rest i f at = record {
  begins = λ m n e b. let x = at.begins m n e b in
      record {
        first = x.first;
        behind = x.behind;
        rest = x.rest;
        lines = x.lines;
        shown = x.shown;
        within = f (x.first ++ x.rest) (x.rest ≡ []) x.within;
      };
  whole = λ content is_content sum is_text. f rest (Unit {0}) (at.whole content is_content sum is_text);
}

pub tail_from_first : (w : List ℕ) (P : Type 0) → InFirst tail_6 w P → Tail 0 0 w P
tail_from_first w P i = record {
  lines = i.content.segments;
  each = i.is_content.segments;
  text = i.segments;
  are = i.are;
  count = length i.content.segments;
  total = content_records i.content.segments;
  count_is = omega arith;
  total_is = omega arith;
  is = i.is;
  sum = i.sum;
}

pub end_then : (segments records : ℕ) (more : List ℕ)
    → end_line segments records ++ more ≡ end_body segments records ++ (10 ∷ more)
end_then segments records more = simp append_assoc

pub opening_then : (key : Key) (word : List ℕ) (samples records : ℕ) (more : List ℕ)
    → opening_body key word samples records ++ (10 ∷ more)
    ≡ key_then key (codes " start " ++ (word ++ (codes " samples "
    ++ (decimal samples ++ (codes " records " ++ (decimal records ++ (10 ∷ more)))))))
opening_then key word samples records more = simp append_assoc

abbrev pub start_then : List ℕ → ℕ → List ℕ → List ℕ
start_then word samples more = codes " start " ++ (word ++ (codes " samples " ++ (decimal samples ++ more)))

words_key : (key : Key) (word : List ℕ) (samples : ℕ) (more : List ℕ)
    → segment_words key word samples more ≡ key_then key (start_then word samples more)
words_key key word samples more = simp append_assoc

key_append : (key : Key) (x more : List ℕ) → key_then key x ++ more ≡ key_then key (x ++ more)
key_append key x more = simp append_assoc

start_append : (word : List ℕ) (samples : ℕ) (x more : List ℕ)
    → start_then word samples x ++ more ≡ start_then word samples (x ++ more)
start_append word samples x more = simp append_assoc

records_append : (records : ℕ) (x more : List ℕ)
    → (codes " records " ++ (decimal records ++ (10 ∷ x))) ++ more ≡ codes " records "
    ++ (decimal records ++ (10 ∷ (x ++ more)))
records_append records x more = simp append_assoc

pub words_then : (key : Key) (word : List ℕ) (samples records : ℕ) (separators more : List ℕ)
    → segment_words key word samples (codes " records " ++ (decimal records ++ (10 ∷ separators_line separators)))
    ++ more
    ≡ key_then key (start_then word samples (codes " records "
    ++ (decimal records ++ (10 ∷ (separators_line separators ++ more)))))
words_then key word samples records separators more =
    ap (λ (l : List ℕ). l ++ more) (words_key key word samples
    (codes " records " ++ (decimal records ++ (10 ∷ separators_line separators))))
    ∙ key_append key (start_then word samples (codes " records "
    ++ (decimal records ++ (10 ∷ separators_line separators)))) more
    ∙ ap (key_then key) (start_append word samples
    (codes " records " ++ (decimal records ++ (10 ∷ separators_line separators))) more
    ∙ ap (start_then word samples) (records_append records (separators_line separators) more))

-- more text after the first line of a segment, in the words of its line
pub first_line_then : (key : Key) (word : List ℕ) (samples records : ℕ) (more : List ℕ)
    → segment_words key word samples (codes " records " ++ (decimal records ++ (10 ∷ []))) ++ more
    ≡ segment_words key word samples (codes " records " ++ (decimal records ++ (10 ∷ more)))
first_line_then key word samples records more =
    ap (λ (l : List ℕ). l ++ more) (words_key key word samples (codes " records " ++ (decimal records ++ (10 ∷ []))))
    ∙ key_append key (start_then word samples (codes " records " ++ (decimal records ++ (10 ∷ [])))) more
    ∙ ap (key_then key) (start_append word samples (codes " records " ++ (decimal records ++ (10 ∷ []))) more
    ∙ ap (start_then word samples) (records_append records [] more))
    ∙ sym (words_key key word samples (codes " records " ++ (decimal records ++ (10 ∷ more))))

-- the two lines of a segment at the start of a text
pub line_text : (line : ContentLine) (text more rest : List ℕ)
    → (opening : IsOpening line.key line.start line.samples line.records more text)
    → more ≡ separators_line line.separators ++ rest
    → (word : List ℕ) × (IsContentLineText line word × (text ≡ word ++ rest))
line_text line text more rest opening is = (
  segment_words line.key opening.word line.samples
      (codes " records " ++ (decimal line.records ++ (10 ∷ separators_line line.separators))),
  (
    record { word = opening.word; time = opening.time; is = refl },
    opening.is ∙ ap (λ (l : List ℕ). key_then line.key
        (start_then opening.word line.samples (codes " records " ++ (decimal line.records ++ (10 ∷ l))))) is
        ∙ sym (words_then line.key opening.word line.samples line.records line.separators rest),
  ),
)
