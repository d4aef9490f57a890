use Rattle.std.proofs.Common.{ap, sym, ◌∙◌, length}
use Rattle.std.proofs.lemmas.List.{nil_from_length}
use Rattle.std.proofs.lemmas.Bool.{both_ways}
use Rattle.std.proofs.lemmas.Bool.Decides.{Decides-eqb}
use Rattle.msr_compare.proofs.Aheads.{held_next, none_next}
use Rattle.msr_compare.proofs.ahead.Ahead.next.Goals as goal

pub returns-then-is_empty : goal.returns-then-is_empty
returns-then-is_empty c =
    let view = rw (c.in-Some.is, c.if-self.false) at c.self.view_is in
    none_next _ view (sym c.samples.ensures ∙ nil_from_length c.samples.result.now
    ((Decides-eqb _ _).0 (sym c.is_empty.ensures ∙ c.if-is_empty.true)))

pub returns-else-is_empty : goal.returns-else-is_empty
returns-else-is_empty c =
    let view = rw (c.in-Some.is, c.if-self.false) at c.self.view_is in
    held_next _ view (λ none. both_ways c.is_empty.result c.if-is_empty.false
    (c.is_empty.ensures ∙ (Decides-eqb (length c.samples.result.now) 0).1 (ap length (c.samples.ensures ∙ none))))
