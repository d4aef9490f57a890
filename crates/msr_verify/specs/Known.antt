-- What is known of the entries of a walk.
use Rattle.std.specs.Prelude.{if◌then◌else◌, ◌≡◌, List, ℕ, ◌++◌, codes, is_some}
use Rattle.msr_folders.specs.Paths.{shown_path}
use Rattle.msr_options.specs.Known.{knows, text_known}
use Rattle.msr_options.specs.declared.known.Known.{Known as Asked}
use Rattle.msr_options.specs.declared.task.Verifying.{Verifying}
use Rattle.msr_verify.specs.Entries.{IsJudgementOf, JudgedEntry}
use Rattle.msr_verify.specs.Lines.{refusal_text, refused_before}
use Rattle.msr_verify.specs.declared.judgement.Judgement.{Judgement}
use Rattle.msr_verify.specs.declared.judgement.Judgement.TheVariants.{Missing, Refused, Known, KnownMissing}
use Rattle.msr_verify.specs.declared.judgement.Refusal.{Refusal}

-- the line of a refusal in words, without the line feed
abbrev pub judged_refusal_line : (path : List ℕ) → Refusal → List ℕ
judged_refusal_line path refusal = codes "refused " ++ (shown_path path ++ (codes ": " ++ refusal_text refusal))

-- what is told of an entry: that it is known exactly if it would be told as refused by a line that is known, or as missing,
-- and a line that is known tells that it was refused
abbrev pub judged_known_as : Asked → (path : List ℕ) → Judgement → Judgement
judged_known_as asked path (Refused refusal) = if knows asked (judged_refusal_line path refusal) then Known refusal else Refused refusal
judged_known_as asked path Missing = if is_some (text_known asked (refused_before path)) then KnownMissing else Missing
judged_known_as asked path judgement = judgement

-- An entry is told as what was found of it, or as known.
pub record IsJudgedEntry (asked : Verifying) (entry : JudgedEntry) : Type 0 where
  pub found : Judgement
  pub of : IsJudgementOf entry.path found
  pub is : entry.judgement ≡ judged_known_as asked.known entry.path found
