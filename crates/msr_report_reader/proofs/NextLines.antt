-- From a line of a segment, or the last line, to the next line.
use Rattle.std.proofs.Common.{◌≡◌, ◌∙◌, ap, sym, refl, rules, arith, ℕ, zero, suc, ◌+◌, ◌-◌, ◌<◌, ◌^◌, List, [], ◌∷◌, ◌++◌, append_assoc, length, decimal, codes, All, flat_map, ℤ}
use Rattle.std.proofs.lemmas.List.{append-nil, append_cancel_left}
use Rattle.msr_rows.specs.declared.row.Key.{Key}
use Rattle.msr_report.specs.Text.{separators_line, end_line}
use Rattle.msr_report_reader.specs.Content.{ContentLine, IsReportKey, IsContentLine, IsContentLineText, AreContentLineTexts, IsOpening, content_records}
use Rattle.msr_report_reader.specs.Fault.{IsOneLine, BeginsReport, IsFaultLine}
use Rattle.msr_report_reader.proofs.Rest.{AtLine}
use Rattle.msr_report_reader.proofs.LineFeeds.{one_append, separators_are_one}
use Rattle.msr_report_reader.proofs.RestOfText.{LineStep, not_empty, next_line, fault_at}
use Rattle.msr_report_reader.proofs.Segments.{Tail, Next, LineBody, IsEndBody, IsOpeningBody, opening_body, end_body, opening_then, end_then, words_then}
use Rattle.msr_report_reader.proofs.OneLines.{opening_is_one, end_is_one}

pub opens_with : (line : ContentLine) (word behind text : List ℕ) → IsContentLineText line word → text ≡ word ++ behind
    → IsOpening line.key line.start line.samples line.records (separators_line line.separators ++ behind) text
opens_with line word behind text is_word is = record {
  word = is_word.word;
  time = is_word.time;
  is = is ∙ ap (λ (l : List ℕ). l ++ behind) is_word.is
      ∙ words_then line.key is_word.word line.samples line.records line.separators behind;
}

step_from : (k r : ℕ) (w : List ℕ) (P : Type 0) (lines : List ContentLine) (text : List ℕ) (count total : ℕ)
    → All IsContentLine lines → AreContentLineTexts lines text → count ≡ k + length lines
    → total ≡ r + content_records lines → w ≡ text ++ end_line count total → (P → total < 2 ^ 64)
    → LineStep (LineBody k r) (Next k r) w P
step_from k r w P [] text count total each are count_is total_is is sum =
    let count_same : count ≡ k = omega arith in
    let total_same : total ≡ r = omega arith in
    let last : end_line count total ≡ end_body k r ++ (10 ∷ []) =
    rw (count_same, total_same) (sym (append-nil (end_line k r)) ∙ end_then k r []) in
    record {
      value = 0;
      body = end_body k r;
      more = [];
      valid = λ p. record { fits = omega (arith, sum (p refl)); is = refl };
      one = end_is_one k r;
      is = is ∙ ap (λ (l : List ℕ). l ++ end_line count total) are ∙ last;
      within = refl;
    }
step_from k r w P (line ∷ lines) text count total each are count_is total_is is sum =
    let is_line : IsContentLine line = each 0 line (omega arith) in
    let word : List ℕ = are.0 in
    let behind : List ℕ = are.1.0 in
    let split : w ≡ word ++ (behind ++ end_line count total) = is
    ∙ ap (λ (l : List ℕ). l ++ end_line count total) are.1.1.2 ∙ append_assoc word behind (end_line count total) in
    let opening = opens_with line word (behind ++ end_line count total) w are.1.1.0 split in
    record {
      value = suc line.records;
      body = opening_body line.key opening.word line.samples line.records;
      more = separators_line line.separators ++ (behind ++ end_line count total);
      valid = λ _. record {
        key = line.key;
        start = line.start;
        samples = line.samples;
        word = opening.word;
        is_key = is_line.key;
        time = opening.time;
        fits_samples = is_line.samples;
        fits_records = is_line.records;
        is = refl;
      };
      one = opening_is_one line.key line.start opening.word line.samples line.records is_line.key opening.time;
      is = opening.is ∙ sym (opening_then line.key opening.word line.samples line.records
          (separators_line line.separators ++ (behind ++ end_line count total)));
      within = record {
        separators = line.separators;
        each = is_line.separators;
        more = behind ++ end_line count total;
        is = refl;
        tail = record {
          lines = lines;
          each = λ j d within. each (suc j) d (omega arith);
          text = behind;
          are = are.1.1.1;
          count = count;
          total = total;
          count_is = omega arith;
          total_is = omega arith;
          is = refl;
          sum = sum;
        };
      };
    }

step_tail : (k r : ℕ) (w : List ℕ) (P : Type 0) → Tail k r w P → LineStep (LineBody k r) (Next k r) w P
step_tail k r w P t = step_from k r w P t.lines t.text t.count t.total t.each t.are t.count_is t.total_is t.is t.sum

abbrev pub separators_body : List ℕ → List ℕ
separators_body separators = codes "separators" ++ flat_map (λ n. 32 ∷ decimal n) separators

pub record IsSeparatorsBody (value : ℕ) (body : List ℕ) : Type 0 where
  pub separators : List ℕ
  pub each : All (λ n. n < 2 ^ 64) separators
  pub is : body ≡ separators_body separators
  pub value_is : value ≡ 0

pub separators_then : (ns more : List ℕ) → separators_line ns ++ more ≡ separators_body ns ++ (10 ∷ more)
separators_then ns more = simp append_assoc

pub separators_body_is_one : (ns : List ℕ) → All (λ n. n < 2 ^ 64) ns → IsOneLine (separators_body ns)
separators_body_is_one ns each = one_append (codes "separators") (flat_map (λ n. 32 ∷ decimal n) ns) (search rules)
    (separators_are_one ns each)

step_second : (k r n : ℕ) (w : List ℕ) (P : Type 0) → Next k r (suc n) w P
    → LineStep IsSeparatorsBody (λ _. Tail (suc k) (r + n)) w P
step_second k r n w P s = record {
  value = 0;
  body = separators_body s.separators;
  more = s.more;
  valid = λ _. record { separators = s.separators; each = s.each; is = refl; value_is = refl };
  one = separators_body_is_one s.separators s.each;
  is = s.is ∙ separators_then s.separators s.more;
  within = s.tail;
}

-- what the reader of a segment's first line says of the texts that go on so
abbrev pub ReadsOnly : List ℕ → List ℕ → ℕ → Type 0
ReadsOnly rest more records = (key : Key) (start : ℤ) (samples n : ℕ) (x : List ℕ) → IsReportKey key → samples < 2 ^ 64
    → n < 2 ^ 64 → IsOpening key start samples n x rest → (records ≡ n) × (more ≡ x)

abbrev pub ReadsNone : List ℕ → Type 0
ReadsNone rest = (key : Key) (start : ℤ) (samples n : ℕ) (x : List ℕ) → IsReportKey key → samples < 2 ^ 64 → n < 2 ^ 64
    → IsOpening key start samples n x rest → ⊥

opening_of : (n : ℕ) (rest body x : List ℕ) (valid : IsOpeningBody n body) → rest ≡ body ++ (10 ∷ x)
    → IsOpening valid.key valid.start valid.samples n x rest
opening_of n rest body x valid is = record {
  word = valid.word;
  time = valid.time;
  is = is ∙ ap (λ (l : List ℕ). l ++ (10 ∷ x)) valid.is ∙ opening_then valid.key valid.word valid.samples n x;
}

end_of : (k r : ℕ) (rest body x : List ℕ) → IsEndBody k r body → rest ≡ body ++ (10 ∷ x) → rest ≡ end_line k r ++ x
end_of k r rest body x valid is = is ∙ ap (λ (l : List ℕ). l ++ (10 ∷ x)) valid.is ∙ sym (end_then k r x)

opening_line : (k r : ℕ) (rest more : List ℕ) (records : ℕ) → ReadsOnly rest more records
    → ((x : List ℕ) → rest ≡ end_line k r ++ x → ⊥)
    → (value : ℕ) (body x : List ℕ) → LineBody k r value body → rest ≡ body ++ (10 ∷ x)
    → (value ≡ suc records) × (more ≡ x)
opening_line k r rest more records only not_end zero body x valid is =
    absurd (not_end x (end_of k r rest body x valid is))
opening_line k r rest more records only not_end (suc n) body x valid is =
    let read = only valid.key valid.start valid.samples n x valid.is_key valid.fits_samples valid.fits_records
    (opening_of n rest body x valid is) in
    (ap suc (sym read.0), read.1)

pub at_second : (text rest more : List ℕ) (k r i records : ℕ) → AtLine (Tail k r) text rest i
    → ReadsOnly rest more records → ((x : List ℕ) → rest ≡ end_line k r ++ x → ⊥)
    → AtLine (Next k r (suc records)) text more (suc i)
at_second text rest more k r i records at only not_end =
    next_line (LineBody k r) (Tail k r) (Next k r) text rest more (suc records) i at (step_tail k r)
    (opening_line k r rest more records only not_end)

pub at_segment : (text more rest : List ℕ) (k r i records : ℕ) → AtLine (Next k r (suc records)) text more i
    → ((ns x : List ℕ) → All (λ n. n < 2 ^ 64) ns → more ≡ separators_line ns ++ x → rest ≡ x)
    → AtLine (Tail (suc k) (r + records)) text rest (suc i)
at_segment text more rest k r i records at only =
    next_line IsSeparatorsBody (Next k r (suc records)) (λ _. Tail (suc k) (r + records)) text more rest 0 i at
    (step_second k r records) (λ value body x valid is. (
      valid.value_is,
      only valid.separators x valid.each
          (is ∙ ap (λ (l : List ℕ). l ++ (10 ∷ x)) valid.is ∙ sym (separators_then valid.separators x)),
    ))

pub fault_second : (text more : List ℕ) (k r i records : ℕ) → AtLine (Next k r (suc records)) text more i
    → ((ns x : List ℕ) → All (λ n. n < 2 ^ 64) ns → more ≡ separators_line ns ++ x → ⊥) → BeginsReport text i
    → IsFaultLine text (suc i)
fault_second text more k r i records at none before =
    fault_at IsSeparatorsBody (Next k r (suc records)) (λ _. Tail (suc k) (r + records)) text more i at
    (step_second k r records) (λ value body x valid is. none valid.separators x valid.each
    (is ∙ ap (λ (l : List ℕ). l ++ (10 ∷ x)) valid.is ∙ sym (separators_then valid.separators x))) before

no_line : (k r : ℕ) (rest : List ℕ) → ReadsNone rest → ((x : List ℕ) → r < 2 ^ 64 → rest ≡ end_line k r ++ x → ⊥)
    → (value : ℕ) (body x : List ℕ) → LineBody k r value body → rest ≡ body ++ (10 ∷ x) → ⊥
no_line k r rest none not_end zero body x valid is = not_end x valid.fits (end_of k r rest body x valid is)
no_line k r rest none not_end (suc n) body x valid is =
    none valid.key valid.start valid.samples n x valid.is_key valid.fits_samples valid.fits_records
    (opening_of n rest body x valid is)

pub fault_segment : (text rest : List ℕ) (k r i : ℕ) → AtLine (Tail k r) text rest i → ReadsNone rest
    → ((x : List ℕ) → r < 2 ^ 64 → rest ≡ end_line k r ++ x → ⊥)
    → BeginsReport text i → IsFaultLine text (suc i)
fault_segment text rest k r i at none not_end before =
    fault_at (LineBody k r) (Tail k r) (Next k r) text rest i at (step_tail k r) (no_line k r rest none not_end) before

last_line : (k r : ℕ) (rest more : List ℕ) → ReadsNone rest → rest ≡ end_line k r ++ more
    → (value : ℕ) (body x : List ℕ) → LineBody k r value body → rest ≡ body ++ (10 ∷ x) → (value ≡ 0) × (more ≡ x)
last_line k r rest more none last zero body x valid is =
    (refl, append_cancel_left (end_line k r) more x (sym last ∙ end_of k r rest body x valid is))
last_line k r rest more none last (suc n) body x valid is =
    absurd (none valid.key valid.start valid.samples n x valid.is_key valid.fits_samples valid.fits_records
    (opening_of n rest body x valid is))

pub at_behind : (text rest more : List ℕ) (k r i : ℕ) → AtLine (Tail k r) text rest i → ReadsNone rest
    → rest ≡ end_line k r ++ more → AtLine (Next k r 0) text more (suc i)
at_behind text rest more k r i at none last =
    next_line (LineBody k r) (Tail k r) (Next k r) text rest more 0 i at (step_tail k r)
    (last_line k r rest more none last)

some_is_not_none : (more : List ℕ) → 0 < length more → more ≡ [] → ⊥
some_is_not_none more some none = omega (arith, ap (λ (l : List ℕ). length l) none)

no_line_left : (line left rest : List ℕ) → (line ++ (10 ∷ left)) ++ rest ≡ [] → ⊥
no_line_left [] left rest none = not_empty 10 (left ++ rest) none
no_line_left (b ∷ line) left rest none = not_empty b ((line ++ (10 ∷ left)) ++ rest) none

pub fault_behind : (text more : List ℕ) (k r i : ℕ) → AtLine (Next k r 0) text more i → 0 < length more
    → BeginsReport text i → IsFaultLine text (suc i)
fault_behind text more k r i at some before = record {
  counted = omega arith;
  no_report = λ content is_content sum is_text. some_is_not_none more some (at.whole content is_content sum is_text);
  before = let same : suc i - 1 ≡ i = omega arith in rw same before;
  fault = λ b.
      let x = at.begins (suc i) 1 (omega arith) b in
      no_line_left x.lines.0 x.lines.1.0 x.rest (ap (λ (l : List ℕ). l ++ x.rest) (sym x.lines.1.1.2) ∙ x.within);
}
