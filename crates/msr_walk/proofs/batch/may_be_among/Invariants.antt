use Rattle.std.proofs.Common.{◌≡◌, false, nat_eq, take}
use Rattle.std.specs.List.{AllByRecursion, ends_with}
use Rattle.msr_walk.specs.Waiting.{files_waiting}
use Rattle.msr_walk.proofs.batch.may_be_among.Given as goal

-- none so far ends in the path
abbrev pub invariant-loop-day : goal.invariant-loop-day
invariant-loop-day g l = AllByRecursion (λ files. ends_with nat_eq files.records.path l.fn.path ≡ false) (files_waiting (take l.day-index l.fn.days))
