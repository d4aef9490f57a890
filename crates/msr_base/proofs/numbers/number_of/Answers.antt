use Rattle.std.proofs.Common.{◌≡◌, ◌∙◌, ap, sym, arith, true, false, List, ℕ, length, get_or}
use Rattle.std.proofs.lemmas.Fmt.{decimal_nonempty}
use Rattle.std.proofs.lemmas.Bool.Decides.{Decides-eqb}
use Rattle.std.proofs.lemmas.List.{nil_from_length}
use Rattle.msr_base.proofs.DigitValues.{fits_more, is_decimal, is_number, no_zero}
use Rattle.msr_base.proofs.numbers.number_of.Goals.{else-first-eq48-via-then-first-eq48+else-not-is_empty, else-first-eq48-via-else-first-eq48}
use Rattle.msr_base.proofs.numbers.number_of.Goals as goal

pub returns-in_err-first-clause-only : goal.returns-in_err-first-clause-only
returns-in_err-first-clause-only c n small is =
    absurd (omega (arith, decimal_nonempty n small, ap length is, c.in_err-first.ensures.cases))

pub returns-then-not-is_empty-clause-only : goal.returns-then-not-is_empty-clause-only
returns-then-not-is_empty-clause-only c n small is =
    let none = no_zero c.in_ok-first.first.now n small is c.in_ok-first.ensures.cases.0 c.if-first-eq48.true in
    let same : false ≡ true = rw none at c.if-not-is_empty.ensures in cc

pub returns-in_err-n-clause-only : goal.returns-in_err-n-clause-only
returns-in_err-n-clause-only c n small is =
    absurd (c.in_err-n.ensures (fits_more c.digits.n c.in-Some.digit.now n c.digits.invariant c.in-Some.ensures.cases.0
    small is))

pub returns-clause-found : goal.returns-clause-found
returns-clause-found c =
    let all = rw (nil_from_length c.digits.rest.now c.in_default.ensures.cases) at c.digits.invariant in
    let begins = c.in_ok-first.ensures.cases in
    let some = begins.1 in
    let one : get_or c.args.digits.now 0 0 ≡ 48 → length c.args.digits.now ≡ 1 = λ zero.
    (elim c.else-first-eq48.branch [
      | else-first-eq48-via-then-first-eq48+else-not-is_empty w ↦ (
          let none = (Decides-eqb (length c.in_ok-first.others.now) 0).0 (sym w.is_empty.ensures ∙ w.if-not-is_empty.false) in
          omega (arith, some, none))
      | else-first-eq48-via-else-first-eq48 w ↦
          absurd (w.if-first-eq48.false (sym (ap (λ (ds : List ℕ). get_or ds 0 0) begins.0) ∙ zero))
    ]) in
    is_decimal c.digits.n all (omega (arith, some)) one

pub returns-clause-only : goal.returns-clause-only
returns-clause-only c n small is =
    let all = rw (nil_from_length c.digits.rest.now c.in_default.ensures.cases) at c.digits.invariant in
    is_number c.digits.n n all small is
