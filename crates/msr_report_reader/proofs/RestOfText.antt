-- From the lines that were read to the rest of the text.
use Rattle.std.proofs.Common.{◌≡◌, ◌≢◌, ◌∙◌, ap, sym, refl, rules, arith, ℕ, zero, suc, ◌-◌, ◌<◌, ◌≤◌, ◌^◌, List, [], ◌∷◌, ◌++◌, append_assoc, length, decimal, codes}
use Rattle.std.proofs.Math.Nat.{pow-le-pow_right}
use Rattle.std.proofs.lemmas.List.{append-nil, append_cancel_left}
use Rattle.msr_base.specs.RecordLength.{IsRecordLength, most_exponent}
use Rattle.msr_base.specs.declared.kinds.Kinds.{Kinds}
use Rattle.msr_base.specs.declared.kinds.Kinds.TheVariants.{All as AllKinds, WithoutInt24}
use Rattle.msr_report.specs.Text.{kinds_words, kinds_line, counts_line, end_line}
use Rattle.msr_base.specs.declared.counts.Counts.{Counts}
use Rattle.msr_report_reader.specs.Content.{Content, IsContent, IsFirst, IsContentText, content_records, first_then}
use Rattle.msr_report_reader.specs.Fault.{IsOneLine, IsOfLines, BeginsReport, IsFaultLine}
use Rattle.msr_report_reader.proofs.Rest.{Begins, InFirst, AtLine, body_1, body_2, body_3, body_5, counts_body, tail_1, tail_2, tail_3, tail_4, tail_5, tail_6}
use Rattle.msr_report_reader.proofs.LineFeeds.{peel, one_append, decimal_is_one}
use Rattle.msr_report_reader.proofs.SameFields.{differ}

-- a text of a language begins with a line, and goes on in another language
pub record LineStep (V : ℕ → List ℕ → Type 0) (L : ℕ → List ℕ → Type 0 → Type 0) (w : List ℕ)
    (P : Type 0) : Type 0 where
  pub value : ℕ
  pub body : List ℕ
  pub more : List ℕ
  pub valid : (more ≡ [] → P) → V value body
  pub one : IsOneLine body
  pub is : w ≡ body ++ (10 ∷ more)
  pub within : L value more P

pub not_empty : (x : ℕ) (xs : List ℕ) → x ∷ xs ≡ [] → ⊥
not_empty x xs e = cc

shown_behind : (text first behind body left : List ℕ) → text ≡ first ++ behind → first ≡ body ++ (10 ∷ left)
    → text ≡ body ++ (10 ∷ (left ++ behind))
shown_behind text first behind body left shown is = shown ∙ ap (λ (l : List ℕ). l ++ behind) is
    ∙ append_assoc body (10 ∷ left) behind

last_line : (left rest more : List ℕ) → more ≡ left ++ rest → more ≡ [] → rest ≡ []
last_line [] rest more is none = sym is ∙ none
last_line (x ∷ left) rest more is none = absurd (not_empty x (left ++ rest) (sym is ∙ none))

pub down : (V : ℕ → List ℕ → Type 0) (L : ℕ → List ℕ → Type 0 → Type 0) (text text' first behind rest : List ℕ)
    (v n : ℕ)
    → ((value : ℕ) (body x : List ℕ) → V value body → text ≡ body ++ (10 ∷ x) → (value ≡ v) × (text' ≡ x))
    → IsOfLines (suc n) first → text ≡ first ++ behind → LineStep V L (first ++ rest) (rest ≡ []) → Begins (L v) text' n
down V L text text' first behind rest v n only lines shown step =
    let p = peel n first rest step.body step.more lines step.one step.is in
    let read = only step.value step.body (p.left ++ behind) (step.valid (last_line p.left rest step.more p.more_is))
    (shown_behind text first behind step.body p.left shown p.first_is) in
    let P : ℕ → List ℕ → Type 0 = λ value more. L value more (rest ≡ []) in
    let there : P step.value step.more = step.within in
    record {
      first = p.left;
      behind = behind;
      rest = rest;
      lines = p.lines;
      shown = read.1;
      within = rw (sym p.more_is, sym read.0) there;
    }

pub refused : (V : ℕ → List ℕ → Type 0) (L : ℕ → List ℕ → Type 0 → Type 0) (text first behind rest : List ℕ) (n : ℕ)
    → ((value : ℕ) (body x : List ℕ) → V value body → text ≡ body ++ (10 ∷ x) → ⊥)
    → IsOfLines (suc n) first → text ≡ first ++ behind → LineStep V L (first ++ rest) (rest ≡ []) → ⊥
refused V L text first behind rest n none lines shown step =
    let p = peel n first rest step.body step.more lines step.one step.is in
    none step.value step.body (p.left ++ behind) (step.valid (last_line p.left rest step.more p.more_is))
    (shown_behind text first behind step.body p.left shown p.first_is)

pub record IsBody (body_of : Content → List ℕ) (value : ℕ) (body : List ℕ) : Type 0 where
  pub content : Content
  pub is_content : IsContent content
  pub is : body ≡ body_of content
  pub value_is : value ≡ 0

pub step_first : (tail tail' : Content → List ℕ → List ℕ) (body_of : Content → List ℕ)
    → ((content : Content) (more : List ℕ) → tail content more ≡ body_of content ++ (10 ∷ tail' content more))
    → ((content : Content) → IsContent content → IsOneLine (body_of content))
    → (w : List ℕ) (P : Type 0) → InFirst tail w P → LineStep (IsBody body_of) (λ _. InFirst tail') w P
step_first tail tail' body_of splits one w P in_first =
    let more : List ℕ = in_first.segments ++ end_line (length in_first.content.segments)
    (content_records in_first.content.segments) in
    record {
      value = 0;
      body = body_of in_first.content;
      more = tail' in_first.content more;
      valid = λ _. record { content = in_first.content; is_content = in_first.is_content; is = refl; value_is = refl };
      one = one in_first.content in_first.is_content;
      is = in_first.is ∙ splits in_first.content more;
      within = record {
        content = in_first.content;
        is_content = in_first.is_content;
        segments = in_first.segments;
        are = in_first.are;
        is = refl;
        sum = in_first.sum;
      };
    }

pub counts_then : (counts : Counts) (more : List ℕ) → counts_line counts ++ more ≡ counts_body counts ++ (10 ∷ more)
counts_then counts more = simp append_assoc

pub record_length_small : (n : ℕ) → IsRecordLength n → n ≤ 2 ^ most_exponent
record_length_small n is = rw is.power (pow-le-pow_right {n = 2} (omega arith) {i = is.exponent}
    {j = most_exponent} is.most)

pub one_2 : (content : Content) → IsContent content → IsOneLine (body_2 content)
one_2 content is = one_append (codes "length ") (decimal content.bytes)
    (refl, (refl, (refl, (refl, (refl, (refl, (refl, tt)))))))
    (decimal_is_one content.bytes (omega (arith, record_length_small content.bytes is.first.is_length)))

pub one_3 : (content : Content) → IsContent content → IsOneLine (body_3 content)
one_3 content is = one_append (codes "tolerance ") (decimal content.tolerance) (search rules)
    (decimal_is_one content.tolerance (omega (arith, is.first.most)))

pub one_5 : (content : Content) → IsContent content → IsOneLine (body_5 content)
one_5 content is =
    one_append (codes "read ") (decimal content.counts.read ++ (codes " empty " ++ (decimal content.counts.empty
    ++ (codes " mismatched " ++ decimal content.counts.mismatched)))) (search rules)
    (one_append (decimal content.counts.read) (codes " empty "
    ++ (decimal content.counts.empty ++ (codes " mismatched "
    ++ decimal content.counts.mismatched))) (decimal_is_one content.counts.read is.first.read)
    (one_append (codes " empty ") (decimal content.counts.empty
    ++ (codes " mismatched " ++ decimal content.counts.mismatched)) (search rules)
    (one_append (decimal content.counts.empty) (codes " mismatched " ++ decimal content.counts.mismatched)
    (decimal_is_one content.counts.empty is.first.empty)
    (one_append (codes " mismatched ") (decimal content.counts.mismatched) (search rules)
    (decimal_is_one content.counts.mismatched is.first.mismatched)))))

pub step_1 : (w : List ℕ) (P : Type 0) → InFirst tail_1 w P → LineStep (IsBody body_1) (λ _. InFirst tail_2) w P
step_1 w P i = step_first tail_1 tail_2 body_1 (λ content more. refl) (λ content is. search rules) w P i

pub step_2 : (w : List ℕ) (P : Type 0) → InFirst tail_2 w P → LineStep (IsBody body_2) (λ _. InFirst tail_3) w P
step_2 w P i = step_first tail_2 tail_3 body_2 (λ content more. refl) one_2 w P i

pub step_3 : (w : List ℕ) (P : Type 0) → InFirst tail_3 w P → LineStep (IsBody body_3) (λ _. InFirst tail_4) w P
step_3 w P i = step_first tail_3 tail_4 body_3 (λ content more. refl) one_3 w P i

pub step_5 : (w : List ℕ) (P : Type 0) → InFirst tail_5 w P → LineStep (IsBody body_5) (λ _. InFirst tail_6) w P
step_5 w P i = step_first tail_5 tail_6 body_5 (λ content more. counts_then content.counts more) one_5 w P i

pub words_are_one : (kinds : Kinds) → IsOneLine (kinds_words kinds)
words_are_one AllKinds = search rules
words_are_one WithoutInt24 = search rules

-- the line after the tolerance is that of the counts, when the value is 0, or that of the kinds, when it is 1
pub record IsKindsBody (value : ℕ) (body : List ℕ) : Type 0 where
  pub kinds : Kinds
  pub fewer : kinds ≢ AllKinds
  pub is : body ≡ kinds_words kinds
  pub value_is : value ≡ 0

abbrev pub FourthBody : ℕ → List ℕ → Type 0
FourthBody zero body = IsBody body_5 0 body
FourthBody (suc n) body = IsKindsBody n body

abbrev pub AfterFourth : ℕ → List ℕ → Type 0 → Type 0
AfterFourth zero w P = InFirst tail_6 w P
AfterFourth (suc n) w P = InFirst tail_5 w P

step_by : (kinds : Kinds) (w : List ℕ) (P : Type 0) (i : InFirst tail_4 w P) → i.content.kinds ≡ kinds
    → LineStep FourthBody AfterFourth w P
step_by AllKinds w P i same =
    let more : List ℕ = i.segments ++ end_line (length i.content.segments) (content_records i.content.segments) in
    record {
      value = 0;
      body = body_5 i.content;
      more = more;
      valid = λ _. record { content = i.content; is_content = i.is_content; is = refl; value_is = refl };
      one = one_5 i.content i.is_content;
      is = i.is ∙ ap (λ (k : Kinds). kinds_line k ++ (counts_line i.content.counts ++ more)) same
          ∙ counts_then i.content.counts more;
      within = record {
        content = i.content;
        is_content = i.is_content;
        segments = i.segments;
        are = i.are;
        is = refl;
        sum = i.sum;
      };
    }
step_by WithoutInt24 w P i same =
    let more : List ℕ = counts_line i.content.counts
    ++ (i.segments ++ end_line (length i.content.segments) (content_records i.content.segments)) in
    record {
      value = 1;
      body = kinds_words WithoutInt24;
      more = more;
      valid = λ _. record { kinds = WithoutInt24; fewer = λ e. absurd cc; is = refl; value_is = refl };
      one = words_are_one WithoutInt24;
      is = i.is ∙ ap (λ (k : Kinds). kinds_line k ++ more) same;
      within = record {
        content = i.content;
        is_content = i.is_content;
        segments = i.segments;
        are = i.are;
        is = refl;
        sum = i.sum;
      };
    }

pub step_4 : (w : List ℕ) (P : Type 0) → InFirst tail_4 w P → LineStep FourthBody AfterFourth w P
step_4 w P i = step_by i.content.kinds w P i refl

-- the line of the kinds begins with `k`, and that of the counts with `r`
pub words_not_counts : (kinds : Kinds) (xs ys : List ℕ) → kinds_words kinds ++ xs ≡ 114 ∷ ys → ⊥
words_not_counts AllKinds xs ys is = differ 107 114 _ ys refl is
words_not_counts WithoutInt24 xs ys is = differ 107 114 _ ys refl is

-- the same kinds, and the same text from the line of the counts on
pub same_kinds : (kinds other : Kinds) (a b : Counts) (xs ys : List ℕ)
    → kinds_line kinds ++ (counts_line a ++ xs) ≡ kinds_line other ++ (counts_line b ++ ys)
    → (kinds ≡ other) × (counts_line a ++ xs ≡ counts_line b ++ ys)
same_kinds AllKinds AllKinds a b xs ys is = (refl, is)
same_kinds AllKinds WithoutInt24 a b xs ys is = absurd (differ 114 107 _ _ refl is)
same_kinds WithoutInt24 AllKinds a b xs ys is = absurd (differ 107 114 _ _ refl is)
same_kinds WithoutInt24 WithoutInt24 a b xs ys is =
    (refl, append_cancel_left (kinds_line WithoutInt24) (counts_line a ++ xs) (counts_line b ++ ys) is)

-- the line of fewer kinds is their words and a line feed
pub line_is_words : (kinds : Kinds) (more : List ℕ) → kinds ≢ AllKinds
    → kinds_line kinds ++ more ≡ kinds_words kinds ++ (10 ∷ more)
line_is_words AllKinds more fewer = absurd (fewer refl)
line_is_words WithoutInt24 more fewer = refl

-- a report's text is of the language from its first line on
pub whole_is_first : (content : Content) (text : List ℕ) (P : Type 0) → IsContent content
    → (P → content_records content.segments < 2 ^ 64) → IsContentText content text → InFirst tail_1 text P
whole_is_first content text P is_content sum is_text =
    record {
      content = content;
      is_content = is_content;
      segments = is_text.segments;
      are = is_text.are;
      is = is_text.is;
      sum = sum;
    }

pub begins_first : (text : List ℕ) (n : ℕ) → BeginsReport text n → Begins (InFirst tail_1) text n
begins_first text n b = record {
  first = b.first;
  behind = b.behind;
  rest = b.rest;
  lines = b.lines;
  shown = b.shown;
  within = whole_is_first b.content (b.first ++ b.rest) (b.rest ≡ []) b.is_content b.records b.begins;
}

pub at_first : (text : List ℕ) → AtLine (InFirst tail_1) text text 0
at_first text = record {
  begins = λ m n e b. let same : n ≡ m = omega arith in rw same (begins_first text m b);
  whole = λ content is_content sum is_text. whole_is_first content text (Unit {0}) is_content (λ _. sum) is_text;
}

pub next_line : (V : ℕ → List ℕ → Type 0) (L : List ℕ → Type 0 → Type 0) (L' : ℕ → List ℕ → Type 0 → Type 0)
    (text rest rest' : List ℕ) (v i : ℕ)
    → AtLine L text rest i → ((w : List ℕ) (P : Type 0) → L w P → LineStep V L' w P)
    → ((value : ℕ) (body x : List ℕ) → V value body → rest ≡ body ++ (10 ∷ x) → (value ≡ v) × (rest' ≡ x))
    → AtLine (L' v) text rest' (suc i)
next_line V L L' text rest rest' v i at step only = record {
  begins = λ m n e b.
      let x = at.begins m (suc n) (omega arith) b in
      down V L' rest rest' x.first x.behind x.rest v n only x.lines x.shown
      (step (x.first ++ x.rest) (x.rest ≡ []) x.within);
  whole = λ content is_content sum is_text.
      let s = step rest (Unit {0}) (at.whole content is_content sum is_text) in
      let read = only s.value s.body s.more (s.valid (λ _. tt)) s.is in
      let there : L' s.value s.more (Unit {0}) = s.within in
      rw (read.1, sym read.0) there;
}

pub fault_at : (V : ℕ → List ℕ → Type 0) (L : List ℕ → Type 0 → Type 0) (L' : ℕ → List ℕ → Type 0 → Type 0)
    (text rest : List ℕ) (i : ℕ)
    → AtLine L text rest i → ((w : List ℕ) (P : Type 0) → L w P → LineStep V L' w P)
    → ((value : ℕ) (body x : List ℕ) → V value body → rest ≡ body ++ (10 ∷ x) → ⊥)
    → BeginsReport text i → IsFaultLine text (suc i)
fault_at V L L' text rest i at step none before = record {
  counted = omega arith;
  no_report = λ content is_content sum is_text.
      let s = step rest (Unit {0}) (at.whole content is_content sum is_text) in
      none s.value s.body s.more (s.valid (λ _. tt)) s.is;
  before = let same : suc i - 1 ≡ i = omega arith in rw same before;
  fault = λ b.
      let x = at.begins (suc i) 1 (omega arith) b in
      refused V L' rest x.first x.behind x.rest 0 none x.lines x.shown
      (step (x.first ++ x.rest) (x.rest ≡ []) x.within);
}

-- the lines before a faulty one begin a report
abbrev pub content_with : ℕ → ℕ → Kinds → Counts → Content
content_with bytes tolerance kinds counts =
    record { bytes = bytes; kinds = kinds; tolerance = tolerance; counts = counts; segments = [] }

abbrev pub no_counts : Counts
no_counts = record { read = 0; empty = 0; mismatched = 0 }

pub length_256 : IsRecordLength 256
length_256 = record { exponent = 8; least = omega arith; most = omega arith; power = refl }

pub first_with : (bytes tolerance : ℕ) → IsRecordLength bytes → 1 ≤ tolerance → tolerance ≤ 1_000_000
    → IsFirst bytes tolerance no_counts
first_with bytes tolerance is least most = record
    { is_length = is; least = least; most = most; read = omega arith; empty = omega arith; mismatched = omega arith }

pub before : (bytes tolerance : ℕ) (kinds : Kinds) (counts : Counts) → IsFirst bytes tolerance counts
    → (text first behind rest : List ℕ) (i : ℕ)
    → IsOfLines i first → text ≡ first ++ behind → first ++ rest ≡ first_then bytes tolerance kinds counts (end_line 0 0)
    → BeginsReport text i
before bytes tolerance kinds counts is_first text first behind rest i lines shown begins = record {
  content = content_with bytes tolerance kinds counts;
  first = first;
  behind = behind;
  rest = rest;
  is_content = record { first = is_first; segments = λ k d within. absurd (omega arith) };
  lines = lines;
  shown = shown;
  begins = record { segments = []; are = refl; is = begins };
  records = λ _. omega arith;
}

pub before_1 : (text : List ℕ) → BeginsReport text 0
before_1 text = before 256 1 AllKinds no_counts (first_with 256 1 length_256 (omega arith) (omega arith)) text [] text
    (first_then 256 1 AllKinds no_counts (end_line 0 0)) 0 refl refl refl

pub before_2 : (text t1 : List ℕ) → text ≡ codes "msrepack 1" ++ (10 ∷ t1) → BeginsReport text 1
before_2 text t1 is_1 =
    before 256 1 AllKinds no_counts (first_with 256 1 length_256 (omega arith) (omega arith)) text
    (codes "msrepack 1" ++ (10 ∷ [])) t1 (tail_2 (content_with 256 1 AllKinds no_counts) (end_line 0 0)) 1
    (codes "msrepack 1", ([], (search rules, refl, refl))) is_1 refl

pub before_3 : (text t1 t2 : List ℕ) (bytes : ℕ) → IsRecordLength bytes → text ≡ codes "msrepack 1" ++ (10 ∷ t1)
    → t1 ≡ codes "length " ++ (decimal bytes ++ (10 ∷ t2)) → BeginsReport text 2
before_3 text t1 t2 bytes is is_1 is_2 =
    let content : Content = content_with bytes 1 AllKinds no_counts in
    let is_first = first_with bytes 1 is (omega arith) (omega arith) in
    before bytes 1 AllKinds no_counts is_first text (body_1 content ++ (10 ∷ (body_2 content ++ (10 ∷ [])))) t2
    (tail_3 content (end_line 0 0)) 2 (
      body_1 content,
      (
        body_2 content ++ (10 ∷ []),
        (
          search rules,
          (
            body_2 content,
            (
              [],
              (
                one_2 content record {
                  first = is_first;
                  segments = λ k d within. absurd (omega arith);
                },
                refl,
                refl,
              ),
            ),
          ),
          refl,
        ),
      ),
    ) (is_1 ∙ ap (λ (l : List ℕ). codes "msrepack 1" ++ (10 ∷ l))
    (is_2 ∙ ap (λ (l : List ℕ). codes "length " ++ l) (sym (append_assoc (decimal bytes) (10 ∷ []) t2))))
    (ap (λ (l : List ℕ). codes "msrepack 1" ++ (10 ∷ (codes "length " ++ l)))
    (append_assoc (decimal bytes) (10 ∷ []) (tail_3 content (end_line 0 0))))

three_ends : (a b c more : List ℕ) → (a ++ (10 ∷ (codes "tolerance " ++ (b ++ (10 ∷ c))))) ++ more ≡ a
    ++ (10 ∷ (codes "tolerance " ++ (b ++ (10 ∷ (c ++ more)))))
three_ends a b c more =
    append_assoc a (10 ∷ (codes "tolerance " ++ (b ++ (10 ∷ c)))) more
    ∙ ap (λ (l : List ℕ). a ++ (10 ∷ (codes "tolerance " ++ l))) (append_assoc b (10 ∷ c) more)

pub counts_split : (counts : Counts) (x : List ℕ) → counts_body counts ++ (10 ∷ x)
    ≡ codes "read " ++ (decimal counts.read ++ (codes " empty "
    ++ (decimal counts.empty ++ (codes " mismatched " ++ (decimal counts.mismatched ++ (10 ∷ x))))))
counts_split counts x = simp append_assoc

-- n lines after the first three begin a report
before_more : (text t1 t2 t3 behind first rest : List ℕ) (bytes tolerance n : ℕ) (kinds : Kinds)
    → IsRecordLength bytes → 1 ≤ tolerance → tolerance ≤ 1_000_000
    → text ≡ codes "msrepack 1" ++ (10 ∷ t1) → t1 ≡ codes "length " ++ (decimal bytes ++ (10 ∷ t2))
    → t2 ≡ codes "tolerance " ++ (decimal tolerance ++ (10 ∷ t3)) → IsOfLines n first → t3 ≡ first ++ behind
    → first ++ rest ≡ kinds_line kinds ++ (counts_line no_counts ++ end_line 0 0)
    → BeginsReport text (suc (suc (suc n)))
before_more text t1 t2 t3 behind first rest bytes tolerance n kinds is least most is_1 is_2 is_3 are is_4 begins =
    let content : Content = content_with bytes tolerance kinds no_counts in
    let is_first = first_with bytes tolerance is least most in
    let is_content : IsContent content = record { first = is_first; segments = λ k d within. absurd (omega arith) } in
    before bytes tolerance kinds no_counts is_first text
    (body_1 content ++ (10 ∷ (body_2 content ++ (10 ∷ (body_3 content ++ (10 ∷ first)))))) behind rest
    (suc (suc (suc n))) (
      body_1 content,
      (
        body_2 content ++ (10 ∷ (body_3 content ++ (10 ∷ first))),
        (
          search rules,
          (
            body_2 content,
            (
              body_3 content ++ (10 ∷ first),
              (one_2 content is_content, (body_3 content, (first, (one_3 content is_content, are, refl))), refl),
            ),
          ),
          refl,
        ),
      ),
    ) (is_1 ∙ ap (λ (l : List ℕ). codes "msrepack 1" ++ (10 ∷ l))
    (is_2 ∙ ap (λ (l : List ℕ). codes "length " ++ (decimal bytes ++ (10 ∷ l)))
    (is_3 ∙ ap (λ (l : List ℕ). codes "tolerance " ++ (decimal tolerance ++ (10 ∷ l))) is_4))
    ∙ ap (λ (l : List ℕ). codes "msrepack 1" ++ (10 ∷ (codes "length " ++ l)))
    (sym (three_ends (decimal bytes) (decimal tolerance) first behind)))
    (ap (λ (l : List ℕ). codes "msrepack 1" ++ (10 ∷ (codes "length " ++ l)))
    (three_ends (decimal bytes) (decimal tolerance) first rest)
    ∙ ap (λ (l : List ℕ). codes "msrepack 1" ++ (10 ∷ (codes "length " ++ (decimal bytes
    ++ (10 ∷ (codes "tolerance " ++ (decimal tolerance ++ (10 ∷ l)))))))) begins)

pub before_4 : (text t1 t2 t3 : List ℕ) (bytes tolerance : ℕ) → IsRecordLength bytes → 1 ≤ tolerance
    → tolerance ≤ 1_000_000
    → text ≡ codes "msrepack 1" ++ (10 ∷ t1) → t1 ≡ codes "length " ++ (decimal bytes ++ (10 ∷ t2))
    → t2 ≡ codes "tolerance " ++ (decimal tolerance ++ (10 ∷ t3)) → BeginsReport text 3
before_4 text t1 t2 t3 bytes tolerance is least most is_1 is_2 is_3 =
    before_more text t1 t2 t3 t3 [] (counts_line no_counts ++ end_line 0 0) bytes tolerance 0 AllKinds is least most
    is_1 is_2 is_3 refl refl refl

pub before_5 : (text t1 t2 t3 t4 : List ℕ) (bytes tolerance : ℕ) (kinds : Kinds) → kinds ≢ AllKinds
    → IsRecordLength bytes → 1 ≤ tolerance → tolerance ≤ 1_000_000
    → text ≡ codes "msrepack 1" ++ (10 ∷ t1) → t1 ≡ codes "length " ++ (decimal bytes ++ (10 ∷ t2))
    → t2 ≡ codes "tolerance " ++ (decimal tolerance ++ (10 ∷ t3)) → t3 ≡ kinds_line kinds ++ t4 → BeginsReport text 4
before_5 text t1 t2 t3 t4 bytes tolerance kinds fewer is least most is_1 is_2 is_3 is_4 =
    let line = sym (append-nil (kinds_line kinds)) ∙ line_is_words kinds [] fewer in
    before_more text t1 t2 t3 t4 (kinds_line kinds) (counts_line no_counts ++ end_line 0 0) bytes tolerance 1 kinds is
    least most is_1 is_2 is_3 (kinds_words kinds, ([], (words_are_one kinds, refl, line))) is_4 refl
