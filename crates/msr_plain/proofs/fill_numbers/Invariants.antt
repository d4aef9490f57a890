-- The samples so far, and the old bytes.
use Rattle.std.proofs.Common.{◌≡◌, ◌*◌, ◌++◌, take, drop}
use Rattle.msr_base.specs.Storage.{size_of}
use Rattle.msr_plain.specs.Plain.{bytes_of_all}
use Rattle.msr_plain.proofs.fill_numbers.Given as goal

abbrev pub invariant-loop-place : goal.invariant-loop-place
invariant-loop-place l = l.area ≡ bytes_of_all l.width (take l.place l.samples)
    ++ drop (size_of l.width * l.place) l.fn.area
