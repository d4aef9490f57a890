-- The first sample is given, and the others are left.
use Rattle.std.proofs.Common.{rules, ◌≡◌, ◌<◌, ◌∷◌, ◌++◌, ◌-◌, ◌+◌, ◌%◌, [], ℕ, zero, suc, ℤ, List, Option, to_z, of_z, w32, SFits, ◌+ℤ◌, refl, sym, ap, subst, ◌∙◌, arith, take}
use Rattle.std.specs.Int.{int_wrap}
use Rattle.std.proofs.lemmas.Int.{to_z-of_z, wrapping_add_is}
use Rattle.msr_base.proofs.IteratorLemmas.{first_given}
use Rattle.msr_steim.specs.Area.{sums_after}
use Rattle.msr_steim.specs.InOrder.{GivesFirst, SamplesLeft, differences_from}
use Rattle.msr_steim.specs.SumsLeft.{samples_left}
use Rattle.msr_steim.specs.Word.{numbers_in}
use Rattle.msr_steim.proofs.InOrderLemmas.{first_of_numbers, first_sum, no_numbers}
use Rattle.msr_steim.proofs.borrowed.SteimSamplesIterator.next.Goals.{then-self-eq0-2+in_ok-fields, else-self-eq0-2}
use Rattle.msr_steim.proofs.borrowed.SteimSamplesIterator.next.Goals as goal

none_left : (left : ℕ) (last : ℤ) (ds : List ℤ) → ds ≡ [] → take left (sums_after last ds) ≡ []
none_left zero last ds none = refl
none_left (suc left) last ds none = rw none refl

pub returns-in_err-fields-clause-steps : goal.returns-in_err-fields-clause-steps
returns-in_err-fields-clause-steps c =
    let old = c.self.inside in
    let from = differences_from old.version old.order old.area.now old.number in
    let none : numbers_in old.fields.word old.fields.width old.fields.count ++ from ≡ [] =
    ap (λ ds. ds ++ from) (no_numbers old.fields.word old.fields.width old.fields.count c.if-self-eq0-2.true)
    ∙ c.in_err-fields.ensures.none refl in
    let ended : c.args.self.now.samples ≡ [] = ap (λ (s : SamplesLeft). s.samples) (sym c.self.view_is)
    ∙ none_left old.left old.last (numbers_in old.fields.word old.fields.width old.fields.count ++ from) none in
    subst (λ (given : Option ℤ). GivesFirst c.args.self.now given c.args.self.now)
    (sym c.from_residual.ensures) ((ended, ended), refl)

pub returns-clause-steps : goal.returns-clause-steps
returns-clause-steps c =
    let old = c.self.inside in
    let here = c.if-self-eq0-2.self-inside in
    let from = differences_from old.version old.order old.area.now old.number in
    let rest = differences_from here.version here.order here.area.now here.number in
    let given = c.difference_at-difference.result in
    let v = to_z w32 ((of_z w32 here.last + of_z w32 given) % 4294967296) in
    let whole : c.args.self.now ≡ samples_left here = elim c.if-self-eq0-2.branch [
      | then-self-eq0-2+in_ok-fields w ↦ sym c.self.view_is
          ∙ ap (λ (ds : List ℤ). record { samples = take old.left (sums_after old.last ds); agrees = old.agrees })
          (ap (λ ds. ds ++ from) (no_numbers old.fields.word old.fields.width old.fields.count w.if-self-eq0-2.true)
          ∙ w.in_ok-fields.ensures.some) ∙ ap samples_left (sym w.self-inside-is)
      | else-self-eq0-2 w ↦ sym c.self.view_is ∙ ap samples_left (sym w.self-inside-is)
    ] in
    let some : 0 < here.fields.count = elim c.if-self-eq0-2.branch [
      | then-self-eq0-2+in_ok-fields w ↦ rw w.self-inside-is w.in_ok-fields.ensures.fields
      | else-self-eq0-2 w ↦ rw w.self-inside-is (omega (arith, w.if-self-eq0-2.false))
    ] in
    let many : 0 < here.left = elim c.if-self-eq0-2.branch [
      | then-self-eq0-2+in_ok-fields w ↦ rw w.self-inside-is (omega (arith, c.if-self-eq0.false))
      | else-self-eq0-2 w ↦ rw w.self-inside-is (omega (arith, c.if-self-eq0.false))
    ] in
    let fits : SFits w32 v = search rules in
    let sum : v ≡ int_wrap w32 (here.last +ℤ given) = wrapping_add_is w32 here.last given (search rules) (search rules) in
    let next = numbers_in here.fields.word here.fields.width (here.fields.count - 1) ++ rest in
    let first : numbers_in here.fields.word here.fields.width here.fields.count ++ rest ≡ given ∷ next =
    ap (λ ds. ds ++ rest) (first_of_numbers here.fields.word here.fields.width here.fields.count some)
    ∙ ap (λ x. x ∷ next) (sym c.difference_at-difference.ensures) in (
      ap (λ (s : SamplesLeft). s.samples) whole
          ∙ first_sum here.last (numbers_in here.fields.word here.fields.width here.fields.count ++ rest) next given
          here.left many first ∙ ap (λ x. x ∷ take (here.left - 1) (sums_after x next)) (sym sum)
          ∙ ap (λ x. x ∷ take (here.left - 1) (sums_after v next)) (sym (to_z-of_z w32 v fits)),
      ap (λ (s : SamplesLeft). s.agrees) (sym whole),
    )

pub returns-clause-goes : goal.returns-clause-goes
returns-clause-goes c = first_given (λ (left : SamplesLeft). left.samples) _ _ _ (returns-clause-steps c).0
