-- The samples in order are those that were looked at.
use Rattle.std.proofs.Common.{rules, refl, ◌≡◌, ◌++◌, ℤ, List, length, take, to_z, of_z, w32, SFits, sym, ap, subst, ◌∙◌, IsTrue, ◌↔◌}
use Rattle.std.proofs.lemmas.Int.{to_z-of_z}
use Rattle.msr_steim.specs.Area.{CarriesSteim, ReverseAgrees, constant, samples_of, sums_after}
use Rattle.msr_steim.specs.InOrder.{differences_from}
use Rattle.msr_steim.specs.Word.{numbers_in}
use Rattle.msr_steim.proofs.Checking.{in_order_is}
use Rattle.msr_steim.proofs.InOrderLemmas.{no_numbers}
use Rattle.msr_steim.proofs.borrowed.steim_samples.Goals as goal

-- none is given yet
all_left : (ds : List ℤ) → ds ≡ numbers_in 0 0 0 ++ ds
all_left ds = ap (λ numbers. numbers ++ ds) (sym (no_numbers 0 0 0 refl))

-- the samples in order are those that were looked at
abbrev Same : goal.After-before_first → Type 0
Same c = c.in_ok-agrees.ensures.samples.samples
    ≡ take c.args.count (sums_after (to_z w32 (of_z w32 c.before_first.result))
    (numbers_in 0 0 0 ++ differences_from c.args.version c.args.order c.args.area.now 0))

same : (c : goal.After-before_first) → Same c
same c =
    let version = c.args.version in
    let order = c.args.order in
    let area = c.args.area.now in
    let before = c.before_first.result in
    let found = c.in_ok-agrees.ensures.samples in
    let first = differences_from version order area 0 in
    let ds = numbers_in 0 0 0 ++ first in
    let fits : SFits w32 before = search rules in
    let begins : samples_of (constant order area 1) first ≡ sums_after (to_z w32 (of_z w32 before)) first =
    rw (to_z-of_z w32 before fits) c.before_first.ensures.sums in
    in_order_is version order area ds found.samples (to_z w32 (of_z w32 before)) found.carried (all_left first)
    (subst (λ xs. samples_of (constant order area 1) xs ≡ sums_after (to_z w32 (of_z w32 before)) xs)
    (all_left first) begins) ∙ ap (λ n. take n (sums_after (to_z w32 (of_z w32 before)) ds)) found.count_is

pub returns-clause-samples : goal.returns-clause-samples
returns-clause-samples c = subst (CarriesSteim c.args.version c.args.order c.args.area.now)
    (same c) c.in_ok-agrees.ensures.samples.carried

pub returns-clause-count : goal.returns-clause-count
returns-clause-count c = ap length (sym (same c)) ∙ c.in_ok-agrees.ensures.samples.count_is

pub returns-clause-reverse : goal.returns-clause-reverse
returns-clause-reverse c =
    subst (λ xs. IsTrue c.in_ok-agrees.agrees ↔ ReverseAgrees c.args.order c.args.area.now xs)
    (same c) c.in_ok-agrees.ensures.samples.reverse
