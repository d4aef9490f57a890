-- The lines of a report, one after another.
use Rattle.std.proofs.Common.{◌≡◌, ℕ, ◌+◌, ◌<◌, ◌≤◌, List, ◌∷◌, ◌++◌, sym, ◌∙◌, ap, subst, take, drop, get_or, length, All}
use Rattle.std.proofs.lemmas.List.{drop_more, map-append, take-append-drop, take_all}
use Rattle.std.proofs.lemmas.List.Elements.{All-map}
use Rattle.msr_options.specs.declared.names.DayName.{DayName}
use Rattle.msr_report.specs.declared.json.ListedSegment.{ListedSegment}
use Rattle.msr_report.specs.declared.report.SegmentLine.{SegmentLine}
use Rattle.msr_folders.specs.Belonging.{HaveSampleOn, IsFirstOfAnother, IsNameOf, told_segments, told_segment}
use Rattle.msr_folders.specs.Names.{IsOfChannel}
use Rattle.msr_folders.specs.Times.{HasSampleOn}

-- a list about one of its elements
split_at : {A : Type 0} (xs : List A) (i : ℕ) (x : A) → i < length xs → x ≡ get_or xs i x → xs ≡ take i xs ++ x ∷ drop (i + 1) xs
split_at xs i x within is =
    sym (take-append-drop i xs) ∙ ap (λ rest. take i xs ++ rest) (drop_more xs i x within ∙ ap (λ y. y ∷ drop (i + 1) xs) (sym is))

listed_at : (lines : List SegmentLine) (i : ℕ) (line : SegmentLine) → i < length lines → line ≡ get_or lines i line
    → told_segments lines ≡ told_segments (take i lines) ++ told_segment line ∷ told_segments (drop (i + 1) lines)
listed_at lines i line within is = ap told_segments (split_at lines i line within is) ∙ map-append told_segment (take i lines) (line ∷ drop (i + 1) lines)

-- what is so of all lines is so of their segments
pub all_listed : (P : ListedSegment → Type 0) (n : ℕ) (lines : List SegmentLine) → length lines ≤ n → All (λ line. P (told_segment line)) (take n lines) → All P (told_segments lines)
all_listed P n lines whole all = All-map P told_segment lines (subst (λ ls. All (λ line. P (told_segment line)) ls) (take_all n lines whole) all)

-- the first line of another channel
pub another_at : (name found : DayName) (lines : List SegmentLine) (i : ℕ) (line : SegmentLine) → i < length lines → line ≡ get_or lines i line
    → All (λ line. IsOfChannel name (told_segment line)) (take i lines) → (IsOfChannel name (told_segment line) → ⊥) → IsNameOf (told_segment line) found
    → IsFirstOfAnother name (told_segments lines) found
another_at name found lines i line within is same other name_of = record {
  before = told_segments (take i lines);
  segment = told_segment line;
  after = told_segments (drop (i + 1) lines);
  are = listed_at lines i line within is;
  same = All-map (IsOfChannel name) told_segment (take i lines) same;
  other = other;
  name_of = name_of;
}

-- a line with a sample on the day
pub sample_at : (name : DayName) (lines : List SegmentLine) (i : ℕ) (line : SegmentLine) → i < length lines → line ≡ get_or lines i line
    → HasSampleOn name.year name.day (told_segment line) → HaveSampleOn name (told_segments lines)
sample_at name lines i line within is has = record {
  before = told_segments (take i lines);
  segment = told_segment line;
  after = told_segments (drop (i + 1) lines);
  are = listed_at lines i line within is;
  has = has;
}
