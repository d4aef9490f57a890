-- Why a text is read as no report.
use Rattle.std.specs.Prelude.{ℕ, List}
use Rattle.msr_report_reader.specs.Fault.{IsFaultLine}
use Rattle.msr_report_reader.specs.declared.fault.ReportFault.{ReportFault}
use Rattle.msr_report_reader.specs.declared.fault.ReportFault.TheVariants.{Line, Read, Memory}

-- The line is the one at fault. Or memory was refused, of which the text says nothing.
abbrev pub IsTextFault : List ℕ → ReportFault → Type 0
IsTextFault text (Line n) = IsFaultLine text n
IsTextFault text Read = ⊥
IsTextFault text Memory = Unit {0}
