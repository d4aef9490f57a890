-- Which entries of a folder are days, and which are none.
use Rattle.std.specs.Prelude.{ℕ, List}
use Rattle.msr_sds.specs.SdsPath.{SdsPath, ReadsAs, ReadsAsDay, IsWaveform, HasDate}
use Rattle.msr_sds.specs.declared.SdsFault.{SdsFault}
use Rattle.msr_sds.specs.declared.SdsFault.TheVariants.{NotSds, NotWaveform, BadDay}

-- the path is that of no day of waveform data, with the first reason
abbrev pub IsNoDay : List ℕ → SdsFault → Type 0
IsNoDay path NotSds = (name : SdsPath) → ¬ (ReadsAs path name)
IsNoDay path NotWaveform = (name : SdsPath) × ReadsAs path name × ¬ (IsWaveform name)
IsNoDay path BadDay = (name : SdsPath) × ReadsAs path name × IsWaveform name × ¬ (HasDate name)

-- the path is that of a day of waveform data
abbrev pub IsDay : List ℕ → Type 0
IsDay path = (name : SdsPath) × ReadsAsDay path name
