use Rattle.std.proofs.Common.{arith, inl, inr, ◌⊎◌, ◌≤◌, ◌<◌, IsTrue}
use Rattle.std.specs.Prelude.{nat_lt}
use Rattle.std.proofs.lemmas.Bool.Decides.{nat_tests}
use Rattle.std.proofs.lemmas.Int.{to_z-of_z}
use Rattle.msr_words.proofs.Dominance.{narrow_no, narrow_small, narrow_yes}
use Rattle.msr_words.proofs.counts.is_narrow.Goals as goal
use Rattle.msr_words.proofs.counts.is_narrow.Goals.{else-size-ge16384-via-then-size-ge16384+else-size-lt32768, else-size-ge16384-via-else-size-ge16384}

pub returns-then-size-lt32768 : goal.returns-then-size-lt32768
returns-then-size-lt32768 c =
    let fits = c.ranges.diff in
    let size_is = simp to_z-of_z at c.magnitude-size.ensures in (
      λ t. cc,
      λ narrow. absurd (narrow_no c.args.diff c.magnitude-size.result size_is (omega arith)
          (omega arith) narrow),
    )

pub returns : goal.returns
returns c =
    let fits = c.ranges.diff in
    let size_is = simp to_z-of_z at c.magnitude-size.ensures in
    let size = c.magnitude-size.result in
    let apart : (c.magnitude-size.result < 16384) ⊎ (32768 ≤ c.magnitude-size.result) =
    elim c.else-size-ge16384.branch [
      | else-size-ge16384-via-then-size-ge16384+else-size-lt32768 w ↦ inr (omega arith)
      | else-size-ge16384-via-else-size-ge16384 w ↦ inl (omega arith)
    ] in (
      λ t. narrow_yes c.args.diff c.magnitude-size.result size_is apart
          (let h : IsTrue (nat_lt c.magnitude-size.result 536870912) = t in grind (arith, nat_tests)),
      λ narrow. let small = narrow_small c.args.diff c.magnitude-size.result size_is narrow in grind (arith, nat_tests),
    )
