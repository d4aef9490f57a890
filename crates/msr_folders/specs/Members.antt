-- Why an entry is no day, and why a call of the system failed, as lines tell it.
use Rattle.std.specs.Prelude.{◌≡◌, ℕ, List, [], ◌++◌, codes, Option, None, Some}
use Rattle.msr_folders.specs.Paths.{text_json}
use Rattle.msr_sds.specs.declared.SdsFault.{SdsFault}
use Rattle.msr_sds.specs.declared.SdsFault.TheVariants.{BadDay, NotSds, NotWaveform}

abbrev pub skip_text : SdsFault → List ℕ
skip_text NotSds = codes "not an SDS path"
skip_text NotWaveform = codes "not waveform data"
skip_text BadDay = codes "bad day"

-- The member of JSON that tells why, in words that may be any.
pub record IsReasonMember (text : List ℕ) : Type 0 where
  pub reason : List ℕ
  pub is : text ≡ codes ",\"reason\":\"" ++ (text_json reason ++ codes "\"")

-- it is there exactly if the system gave a reason
abbrev pub IsReasonOf : {R : Type 0} → Option R → List ℕ → Type 0
IsReasonOf None text = text ≡ []
IsReasonOf (Some reason) text = IsReasonMember text
