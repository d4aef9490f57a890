-- From each of the lines before the segments to the next, or to a fault there.
use Rattle.std.proofs.Common.{◌≡◌, ◌≢◌, ◌∙◌, ap, sym, ℕ, zero, suc, ◌≤◌, List, ◌∷◌, ◌++◌, codes, decimal}
use Rattle.msr_base.specs.RecordLength.{IsRecordLength}
use Rattle.msr_base.specs.declared.kinds.Kinds.{Kinds}
use Rattle.msr_base.specs.declared.kinds.Kinds.TheVariants.{All as AllKinds}
use Rattle.msr_report.specs.Text.{kinds_words, kinds_line}
use Rattle.msr_report_reader.specs.Content.{Content, IsContent}
use Rattle.msr_report_reader.specs.Fault.{BeginsReport, IsFaultLine}
use Rattle.msr_report_reader.proofs.Rest.{InFirst, AtLine, counts_body, tail_1, tail_2, tail_3, tail_4, tail_5, tail_6, body_1, body_2, body_3}
use Rattle.msr_report_reader.proofs.LineFeeds.{same_line}
use Rattle.msr_report_reader.proofs.RestOfText.{AfterFourth, FourthBody, LineStep, IsBody, at_first, fault_at, line_is_words, next_line, step_1, step_2, step_3, step_4, words_are_one, words_not_counts}

-- such a line was read, and the text goes on after it
pub after_body : (tail tail' : Content → List ℕ → List ℕ) (body_of : Content → List ℕ) (text rest rest' : List ℕ)
    (i : ℕ)
    → AtLine (InFirst tail) text rest i
    → ((w : List ℕ) (P : Type 0) → InFirst tail w P → LineStep (IsBody body_of) (λ _. InFirst tail') w P)
    → ((content : Content) (x : List ℕ) → IsContent content → rest ≡ body_of content ++ (10 ∷ x) → rest' ≡ x)
    → AtLine (InFirst tail') text rest' (suc i)
after_body tail tail' body_of text rest rest' i at step only =
    next_line (IsBody body_of) (InFirst tail) (λ _. InFirst tail') text rest rest' 0 i at step
    (λ value body x valid is. (
      valid.value_is,
      only valid.content x valid.is_content (is ∙ ap (λ (l : List ℕ). l ++ (10 ∷ x)) valid.is),
    ))

-- no such line stands there
pub fault_at_body : (tail tail' : Content → List ℕ → List ℕ) (body_of : Content → List ℕ) (text rest : List ℕ) (i : ℕ)
    → AtLine (InFirst tail) text rest i
    → ((w : List ℕ) (P : Type 0) → InFirst tail w P → LineStep (IsBody body_of) (λ _. InFirst tail') w P)
    → ((content : Content) (x : List ℕ) → IsContent content → rest ≡ body_of content ++ (10 ∷ x) → ⊥)
    → BeginsReport text i → IsFaultLine text (suc i)
fault_at_body tail tail' body_of text rest i at step none before =
    fault_at (IsBody body_of) (InFirst tail) (λ _. InFirst tail') text rest i at step
    (λ value body x valid is. none valid.content x valid.is_content (is ∙ ap (λ (l : List ℕ). l ++ (10 ∷ x)) valid.is))
    before

-- a reader of a line found t after it, and finds nothing else there
abbrev pub ReadsTitle : List ℕ → List ℕ → Type 0
ReadsTitle text t = (x : List ℕ) → text ≡ codes "msrepack 1" ++ (10 ∷ x) → t ≡ x

abbrev pub ReadsLength : List ℕ → List ℕ → Type 0
ReadsLength text t =
    (n : ℕ) (x : List ℕ) → IsRecordLength n → text ≡ codes "length " ++ (decimal n ++ (10 ∷ x)) → t ≡ x

abbrev pub ReadsTolerance : List ℕ → List ℕ → Type 0
ReadsTolerance text t =
    (n : ℕ) (x : List ℕ) → 1 ≤ n → n ≤ 1_000_000 → text ≡ codes "tolerance " ++ (decimal n ++ (10 ∷ x)) → t ≡ x

pub second_line : (text t1 : List ℕ) → ReadsTitle text t1 → AtLine (InFirst tail_2) text t1 1
second_line text t1 title =
    after_body tail_1 tail_2 body_1 text text t1 0 (at_first text) step_1 (λ content x is_content is. title x is)

pub third_line : (text t1 t2 : List ℕ) → ReadsTitle text t1 → ReadsLength t1 t2 → AtLine (InFirst tail_3) text t2 2
third_line text t1 t2 title length =
    after_body tail_2 tail_3 body_2 text t1 t2 1 (second_line text t1 title) step_2
    (λ content x is_content is. length content.bytes x is_content.first.is_length is)

pub fourth_line : (text t1 t2 t3 : List ℕ) → ReadsTitle text t1 → ReadsLength t1 t2 → ReadsTolerance t2 t3
    → AtLine (InFirst tail_4) text t3 3
fourth_line text t1 t2 t3 title length tolerance =
    after_body tail_3 tail_4 body_3 text t2 t3 2 (third_line text t1 t2 title length) step_3
    (λ content x is_content is. tolerance content.tolerance x is_content.first.least is_content.first.most is)

-- the line after the tolerance is that of the counts
counts_by : (rest rest' : List ℕ)
    → ((content : Content) (x : List ℕ) → IsContent content → rest ≡ counts_body content.counts ++ (10 ∷ x) → rest' ≡ x)
    → ((kinds : Kinds) (x : List ℕ) → rest ≡ kinds_words kinds ++ (10 ∷ x) → ⊥)
    → (value : ℕ) (body x : List ℕ) → FourthBody value body → rest ≡ body ++ (10 ∷ x) → (value ≡ 0) × (rest' ≡ x)
counts_by rest rest' only none zero body x valid is = (
  valid.value_is,
  only valid.content x valid.is_content (is ∙ ap (λ (l : List ℕ). l ++ (10 ∷ x)) valid.is),
)
counts_by rest rest' only none (suc n) body x valid is =
    absurd (none valid.kinds x (is ∙ ap (λ (l : List ℕ). l ++ (10 ∷ x)) valid.is))

pub after_counts : (text rest rest' : List ℕ) → AtLine (InFirst tail_4) text rest 3
    → ((content : Content) (x : List ℕ) → IsContent content → rest ≡ counts_body content.counts ++ (10 ∷ x) → rest' ≡ x)
    → ((kinds : Kinds) (x : List ℕ) → rest ≡ kinds_words kinds ++ (10 ∷ x) → ⊥)
    → AtLine (InFirst tail_6) text rest' 4
after_counts text rest rest' at only none =
    next_line FourthBody (InFirst tail_4) AfterFourth text rest rest' 0 3 at step_4 (counts_by rest rest' only none)

-- or that of these kinds
kinds_by : (rest rest' : List ℕ) (kinds : Kinds) → rest ≡ kinds_words kinds ++ (10 ∷ rest')
    → (value : ℕ) (body x : List ℕ) → FourthBody value body → rest ≡ body ++ (10 ∷ x) → (value ≡ 1) × (rest' ≡ x)
kinds_by rest rest' kinds stands zero body x valid is =
    absurd (words_not_counts kinds (10 ∷ rest') _ (sym stands ∙ is ∙ ap (λ (l : List ℕ). l ++ (10 ∷ x)) valid.is))
kinds_by rest rest' kinds stands (suc n) body x valid is = (
  ap suc valid.value_is,
  (same_line (kinds_words kinds) rest' (kinds_words valid.kinds) x (words_are_one kinds) (words_are_one valid.kinds)
      (sym stands ∙ is ∙ ap (λ (l : List ℕ). l ++ (10 ∷ x)) valid.is)).rest_is,
)

pub fifth_line : (text rest rest' : List ℕ) (kinds : Kinds) → kinds ≢ AllKinds → rest ≡ kinds_line kinds ++ rest'
    → AtLine (InFirst tail_4) text rest 3 → AtLine (InFirst tail_5) text rest' 4
fifth_line text rest rest' kinds fewer is at =
    next_line FourthBody (InFirst tail_4) AfterFourth text rest rest' 1 3 at step_4
    (kinds_by rest rest' kinds (is ∙ line_is_words kinds rest' fewer))
