-- The samples so far stand by place.
use Rattle.std.proofs.Common.{◌≡◌, ◌<◌, ◌*◌, ℕ, pos, drop, get_or}
use Rattle.msr_base.specs.Storage.{size_of}
use Rattle.msr_plain.specs.Plain.{number_in}
use Rattle.msr_plain.proofs.read_numbers.Given as goal

abbrev pub invariant-loop-place : goal.invariant-loop-place
invariant-loop-place l = (k : ℕ) → k < l.place → get_or l.out k (pos 0)
    ≡ number_in l.width l.order (drop (size_of l.width * k) l.area)
