-- What may stand after the lines that were read of a report.
use Rattle.std.specs.Prelude.{◌≡◌, ℕ, ◌+◌, ◌<◌, ◌^◌, List, [], ◌∷◌, ◌++◌, length, codes}
use Rattle.std.specs.Fmt.{decimal}
use Rattle.msr_report.specs.Text.{kinds_line, counts_line, end_line}
use Rattle.msr_base.specs.declared.counts.Counts.{Counts}
use Rattle.msr_report_reader.specs.Content.{Content, IsContent, IsContentText, AreContentLineTexts, content_records}
use Rattle.msr_report_reader.specs.Fault.{BeginsReport, IsOfLines}

-- The first n lines begin a text of the language; if they are all of it, P holds.
pub record Begins (L : List ℕ → Type 0 → Type 0) (text : List ℕ) (n : ℕ) : Type 0 where
  pub first : List ℕ
  pub behind : List ℕ
  pub rest : List ℕ
  pub lines : IsOfLines n first
  pub shown : text ≡ first ++ behind
  pub within : L (first ++ rest) (rest ≡ [])

-- the lines of a report from one of those before the segments on
pub record InFirst (tail : Content → List ℕ → List ℕ) (w : List ℕ) (P : Type 0) : Type 0 where
  pub content : Content
  pub is_content : IsContent content
  pub segments : List ℕ
  pub are : AreContentLineTexts content.segments segments
  pub is : w ≡ tail content (segments ++ end_line (length content.segments) (content_records content.segments))
  pub sum : P → content_records content.segments < 2 ^ 64

-- each of these lines but that of the kinds without its line feed, and with all that stands after it
abbrev pub body_1 : Content → List ℕ
body_1 content = codes "msrepack 1"

abbrev pub body_2 : Content → List ℕ
body_2 content = codes "length " ++ decimal content.bytes

abbrev pub body_3 : Content → List ℕ
body_3 content = codes "tolerance " ++ decimal content.tolerance

abbrev pub counts_body : Counts → List ℕ
counts_body counts = codes "read " ++ (decimal counts.read
    ++ (codes " empty " ++ (decimal counts.empty ++ (codes " mismatched " ++ decimal counts.mismatched))))

abbrev pub body_5 : Content → List ℕ
body_5 content = counts_body content.counts

abbrev pub tail_6 : Content → List ℕ → List ℕ
tail_6 content more = more

abbrev pub tail_5 : Content → List ℕ → List ℕ
tail_5 content more = counts_line content.counts ++ more

abbrev pub tail_4 : Content → List ℕ → List ℕ
tail_4 content more = kinds_line content.kinds ++ tail_5 content more

abbrev pub tail_3 : Content → List ℕ → List ℕ
tail_3 content more = body_3 content ++ (10 ∷ tail_4 content more)

abbrev pub tail_2 : Content → List ℕ → List ℕ
tail_2 content more = body_2 content ++ (10 ∷ tail_3 content more)

abbrev pub tail_1 : Content → List ℕ → List ℕ
tail_1 content more = body_1 content ++ (10 ∷ tail_2 content more)

-- i lines were read, and the rest of the text goes on in the language
pub record AtLine (L : List ℕ → Type 0 → Type 0) (text rest : List ℕ) (i : ℕ) : Type 0 where
  pub begins : (m n : ℕ) → m ≡ i + n → BeginsReport text m → Begins L rest n
  pub whole : (content : Content) → IsContent content → content_records content.segments < 2 ^ 64
      → IsContentText content text
      → L rest (Unit {0})
