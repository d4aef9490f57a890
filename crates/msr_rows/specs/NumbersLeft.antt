-- What is left of the samples of a record.
use Rattle.std.specs.Prelude.{[], true}
use Rattle.msr_steim.specs.InOrder.{SamplesLeft}
use Rattle.msr_rows.specs.declared.samples.Numbers.{Numbers}
use Rattle.msr_rows.specs.declared.samples.Numbers.TheVariants.{Plain, Steim, Empty}

-- integers have no reverse constant
abbrev pub left_of : Numbers → SamplesLeft
left_of (Plain samples) = record { samples = samples; agrees = true }
left_of (Steim left) = left
left_of Empty = record { samples = []; agrees = true }
