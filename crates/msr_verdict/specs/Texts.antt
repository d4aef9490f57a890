-- The text of a verdict.
use Rattle.std.specs.Prelude.{ℕ, List, codes}
use Rattle.msr_verdict.specs.declared.verdict.Verdict.{Verdict}
use Rattle.msr_verdict.specs.declared.verdict.Verdict.TheVariants.{Least, NotShown}

abbrev pub verdict_text : Verdict → List ℕ
verdict_text Least = codes "least"
verdict_text NotShown = codes "not shown"
