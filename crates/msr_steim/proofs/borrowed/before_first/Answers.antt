-- By the first field of the area.
use Rattle.std.proofs.Common.{rules, ◌≡◌, ◌≤◌, ◌-◌, ◌∷◌, ◌++◌, length, get_or, pos, w32, SFits, sym, ap, ◌∙◌, arith}
use Rattle.msr_steim.specs.Area.{constant}
use Rattle.msr_steim.specs.InOrder.{differences_from}
use Rattle.msr_steim.specs.Word.{numbers_in}
use Rattle.msr_steim.proofs.InOrderLemmas.{begins_so, first_of_numbers}
use Rattle.msr_steim.proofs.borrowed.before_first.Goals as goal

pub returns-in-Some : goal.returns-in-Some
returns-in-Some c =
    let order = c.args.order in
    let area = c.args.area.now in
    let fields = c.in-Some.fields in
    let all = differences_from c.args.version order area 0 in
    let rest = differences_from c.args.version order area c.in-Some.field-0-1 in
    let first = c.constant_at-first.result in
    let difference = c.difference_at.result in
    let fits : SFits w32 first = search rules in
    let fits_too : SFits w32 difference = search rules in
    let apart : all ≡ (difference ∷ numbers_in fields.word fields.width (fields.count - 1)) ++ rest =
    c.in-Some.ensures.some ∙ ap (λ numbers. numbers ++ rest)
    (first_of_numbers fields.word fields.width fields.count c.in-Some.ensures.fields
    ∙ ap (λ x. x ∷ numbers_in fields.word fields.width (fields.count - 1)) (sym c.difference_at.ensures)) in
    let some : 1 ≤ length all = omega (arith, ap length apart) in
    record {
      sums = begins_so first difference all (constant order area 1) c.constant_at-first.ensures some
          (ap (λ xs. get_or xs 0 (pos 0)) apart) fits fits_too;
    }
