-- Parts of the rows beside lines of a report.
use Rattle.std.proofs.Common.{◌≡◌, ◌↔◌, ℕ, suc, Bool, ℤ, sym, ◌∙◌, List, [], ◌∷◌, ◌++◌, length, refl, ap, subst, Some}
use Rattle.std.specs.Prelude.{IsTrue, slice_get}
use Rattle.msr_rows.proofs.OneAnswer.{some_same}
use Rattle.msr_rows.specs.declared.row.Key.{Key}
use Rattle.msr_base.specs.declared.forms.Form.{Form}
use Rattle.msr_words.specs.Fit.{records_of}
use Rattle.msr_words.specs.declared.kinds.Run.{Run}
use Rattle.msr_check.specs.Judged.{AreShown}
use Rattle.msr_segments.specs.Segments.{Part}
use Rattle.msr_segments.specs.declared.joiner.Segment.{Segment}
use Rattle.msr_report.specs.declared.report.SegmentLine.{SegmentLine}
use Rattle.msr_verdict.specs.Packed.{IsShownAs, IsShownBy, AreShownBy}
use Rattle.msr_verdict.specs.Compared.{IsLineAt, IsShownAt}

pub line_at : (form : Form) (place : ℕ) (lines : List SegmentLine) (segment : Segment) (runs : List Run)
    (line : SegmentLine) → slice_get lines place ≡ Some line → IsShownAt form lines place segment runs
    → IsShownAs form segment runs line
line_at form place lines segment runs line e at =
    subst (λ (l : SegmentLine). IsShownAs form segment runs l)
    (some_same (slice_get lines place) at.line line at.at_place e) at.shown

-- the line at a place is of a segment that begins so exactly when the test of its fields says so
pub tests_line : (lines : List SegmentLine) (place : ℕ) (name : Key) (instant : ℤ) (line : SegmentLine) (test : Bool)
    → slice_get lines place ≡ Some line → IsTrue test ↔ ((line.key ≡ name) × (line.start ≡ instant)
    × (line.records ≡ length line.separators.items))
    → IsTrue test ↔ IsLineAt lines place name instant
tests_line lines place name instant line test e exact = (
  λ t.
      let all = exact.0 t in
      record { line = line; at_place = e; key = all.0; start = all.1; records = all.2 },
  λ at. (let same = some_same (slice_get lines place) at.line line at.at_place e in
      exact.1 (
        sym (ap (λ (l : SegmentLine). l.key) same) ∙ at.key,
        sym (ap (λ (l : SegmentLine). l.start) same) ∙ at.start,
        subst (λ (l : SegmentLine). l.records ≡ length l.separators.items) same at.records,
      )),
)

-- the line that is of the segment shows it where its separators do
pub shown_at : (form : Form) (place : ℕ) (lines : List SegmentLine) (segment : Segment) (runs : List Run)
    (line : SegmentLine) (test : Bool) → slice_get lines place ≡ Some line
    → IsLineAt lines place segment.key segment.start
    → IsTrue test ↔ AreShown (records_of form) segment.samples runs line.separators.items line.samples
    → IsTrue test ↔ IsShownAt form lines place segment runs
shown_at form place lines segment runs line test e is exact =
    let same = some_same (slice_get lines place) is.line line is.at_place e in (
      λ t.
          let all = exact.0 t in
          record {
            line = line;
            at_place = e;
            shown = record {
              key = sym (ap (λ (l : SegmentLine). l.key) same) ∙ is.key;
              start = sym (ap (λ (l : SegmentLine). l.start) same) ∙ is.start;
              samples = sym all.number_is;
              records = subst (λ (l : SegmentLine). l.records ≡ length l.separators.items) same is.records
                  ∙ sym all.as_many;
              packing = all.packing;
              separating = all.separating;
              as_many = all.as_many;
            };
          },
      λ at. (let shown = line_at form place lines segment runs line e at in
          exact.1 (record {
            packing = shown.packing;
            separating = shown.separating;
            as_many = shown.as_many;
            number_is = sym shown.samples;
          })),
    )

-- one part more, with its line
pub shown_snoc : (form : Form) (parts : List Part) (lines : List SegmentLine) (part : Part) (line : SegmentLine)
    → AreShownBy form parts lines → IsShownBy form part line → AreShownBy form (parts ++ part ∷ []) (lines ++ line ∷ [])
shown_snoc form [] [] part line are is = (is, tt)
shown_snoc form [] (its ∷ lines) part line are is = absurd are
shown_snoc form (one ∷ parts) [] part line are is = absurd are
shown_snoc form (one ∷ parts) (its ∷ lines) part line are is = (are.0, shown_snoc form parts lines part line are.1 is)

pub shown_length : (form : Form) (parts : List Part) (lines : List SegmentLine) → AreShownBy form parts lines
    → length parts ≡ length lines
shown_length form [] [] are = refl
shown_length form [] (its ∷ lines) are = absurd are
shown_length form (one ∷ parts) [] are = absurd are
shown_length form (one ∷ parts) (its ∷ lines) are = ap (λ n. suc n) (shown_length form parts lines are.1)

-- after shown parts and their lines, the next part is shown by the next line
pub shown_next : (form : Form) (parts rest : List Part) (done left : List SegmentLine) (part : Part)
    → AreShownBy form parts done → AreShownBy form (parts ++ part ∷ rest) (done ++ left)
    → (line : SegmentLine) × (others : List SegmentLine) × (left ≡ line ∷ others) × IsShownBy form part line
shown_next form [] rest [] [] part are all = absurd all
shown_next form [] rest [] (line ∷ left) part are all = (line, left, refl, all.0)
shown_next form [] rest (its ∷ done) left part are all = absurd are
shown_next form (one ∷ parts) rest [] left part are all = absurd are
shown_next form (one ∷ parts) rest (its ∷ done) left part are all =
    shown_next form parts rest done left part are.1 all.1

-- what stands after a prefix
pub get_after : {X : Type 0} (prefix rest : List X) (x : X) → slice_get (prefix ++ x ∷ rest) (length prefix) ≡ Some x
get_after [] rest x = refl
get_after (y ∷ prefix) rest x = get_after prefix rest x

pub after_get : {X : Type 0} (prefix left : List X) (x : X) → slice_get (prefix ++ left) (length prefix) ≡ Some x
    → (rest : List X) × (left ≡ x ∷ rest)
after_get {X} [] [] x e = absurd cc
after_get {X} [] (y ∷ left) x e = let same : y ≡ x = cc in (left, ap (λ (z : X). z ∷ left) same)
after_get (y ∷ prefix) left x e = after_get prefix left x e
