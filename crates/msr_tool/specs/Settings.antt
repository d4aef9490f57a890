-- How an input is read.
use Rattle.msr_options.specs.Choice.{Choice}
use Rattle.msr_input.specs.declared.settings.Settings.{Settings}

-- an input is read with the tolerance of the options, and strictly if they are strict
abbrev pub settings_of : Choice → Settings
settings_of choice = record { tolerance = choice.tolerance; strict = choice.strict }
