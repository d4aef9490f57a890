-- Which line of a text that is no report is at fault.
use Rattle.std.specs.Prelude.{◌≡◌, ℕ, zero, suc, ◌-◌, ◌<◌, ◌≤◌, ◌^◌, ◌==◌, false, List, [], ◌∷◌, ◌++◌}
use Rattle.msr_report_reader.specs.Content.{Content, IsContent, IsContentText, content_records}

-- no byte is a line feed
abbrev pub IsOneLine : List ℕ → Type 0
IsOneLine [] = Unit {0}
IsOneLine (byte ∷ bytes) = ((byte == 10) ≡ false) × IsOneLine bytes

-- the text is the given number of lines, each with its line feed
abbrev pub IsOfLines : ℕ → List ℕ → Type 0
IsOfLines zero text = text ≡ []
IsOfLines (suc n) text = (line : List ℕ) × ((more : List ℕ)
    × (IsOneLine line × IsOfLines n more × (text ≡ line ++ (10 ∷ more))))

-- The first n lines of the text, each with its line feed, begin the text of a report whose fields are in their
-- ranges. If they are all its lines, its records fit 64 bits: that is a matter of the last line, which tells their
-- number.
pub record BeginsReport (text : List ℕ) (n : ℕ) : Type 0 where
  pub content : Content
  pub first : List ℕ
  pub behind : List ℕ
  pub rest : List ℕ
  pub is_content : IsContent content
  pub lines : IsOfLines n first
  pub shown : text ≡ first ++ behind
  pub begins : IsContentText content (first ++ rest)
  pub records : rest ≡ [] → content_records content.segments < 2 ^ 64

-- No report has the text, and line n, from 1, is the first with which it leaves them all: the lines before it
-- begin some report, and with it they begin none. So a line that lacks, or that lacks its line feed, and a line
-- after the last one are each at fault at their own number.
pub record IsFaultLine (text : List ℕ) (n : ℕ) : Type 0 where
  pub counted : 1 ≤ n
  pub no_report : (content : Content) → IsContent content → content_records content.segments < 2 ^ 64
      → IsContentText content text → ⊥
  pub before : BeginsReport text (n - 1)
  pub fault : BeginsReport text n → ⊥
