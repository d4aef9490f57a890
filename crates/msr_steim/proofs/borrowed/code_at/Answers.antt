-- Shifted up and down.
use Rattle.std.proofs.Common.{rules, ◌≡◌, ◌-◌, ◌*◌, ◌/◌, ◌%◌, ◌^◌, ◌∙◌, arith}
use Rattle.msr_steim.specs.Area.{word_code}
use Rattle.msr_steim.proofs.Shifts.{code_shifted}
use Rattle.msr_steim.proofs.borrowed.code_at.Goals as goal

pub returns-clause-value : goal.returns-clause-value
returns-clause-value c =
    let codes = c.whole_word_at-codes.result in
    let slot = c.args.number % 16 in
    let here : codes / 2 ^ (30 - 2 * slot) % 4 ≡ word_code c.args.order c.args.area.now c.args.number = search rules in
    code_shifted codes slot (omega arith) ∙ here
