use Rattle.std.proofs.Common.{List, ℤ, ◌++◌, inl, inr, refl, sym, ap, ◌∙◌, rules, FitsSigned, w64, to_z-of_z}
use Rattle.std.proofs.lemmas.Bool.{false≢true}
use Rattle.std.specs.Prelude.{None}
use Rattle.msr_segments.specs.Joining.{following_of, joining_of}
use Rattle.msr_segments.proofs.SpanLemmas.{moved_joins, moved_begins, counted_joins, following_same}
use Rattle.msr_segments.proofs.StepLaws.{pushes_grow}
use Rattle.msr_segments.proofs.joiner.Joiner.push.Goals as goal

pub returns-in_default-extend_from_slice-clause-memory_only_for_more
    : goal.returns-in_default-extend_from_slice-clause-memory_only_for_more
returns-in_default-extend_from_slice-clause-memory_only_for_more c =
    let fits : FitsSigned w64 c.args.row.start = search rules in
    let joins = rw (c.in-Joins.is, c.len.ensures, to_z-of_z fits) at c.in-Ok.ensures.step in
    let moved = moved_joins c.self.inside.follow c.step.new.self c.self.inside.samples _ c.args.row
    c.self.invariant joins refl in
    λ memory. rw (← c.self.view_is, moved.current) moved.continues

pub invariant_of-self-in-Joins-1 : goal.invariant_of-self-in-Joins-1
invariant_of-self-in-Joins-1 c =
    let fits : FitsSigned w64 c.args.row.start = search rules in
    let joins = rw (c.in-Joins.is, c.len.ensures, to_z-of_z fits) at c.in-Ok.ensures.step in
    let more = c.in-Ok-extend_from_slice.ensures.ok
    ∙ ap (λ (xs : List ℤ). c.self.inside.samples ++ xs) c.as_slice.ensures in
    counted_joins c.self.inside.follow c.step.new.self c.self.inside.samples c.extend_from_slice.new.self
    c.args.row c.self.invariant joins more

pub returns-in-Ok-extend_from_slice-clause-step : goal.returns-in-Ok-extend_from_slice-clause-step
returns-in-Ok-extend_from_slice-clause-step c =
    let fits : FitsSigned w64 c.args.row.start = search rules in
    let joins = rw (c.in-Joins.is, c.len.ensures, to_z-of_z fits) at c.in-Ok.ensures.step in
    let more = c.in-Ok-extend_from_slice.ensures.ok
    ∙ ap (λ (xs : List ℤ). c.self.inside.samples ++ xs) c.as_slice.ensures in
    rw (← c.self.view_is) (inl
    (moved_joins c.self.inside.follow c.step.new.self c.self.inside.samples c.extend_from_slice.new.self
    c.args.row c.self.invariant joins more))

pub returns-in-Ok-extend_from_slice-clause-segments : goal.returns-in-Ok-extend_from_slice-clause-segments
returns-in-Ok-extend_from_slice-clause-segments c =
    λ rows given h. pushes_grow c.args.self.now
    (joining_of c.step.new.self c.extend_from_slice.new.self) rows given c.args.row None h
    (returns-in-Ok-extend_from_slice-clause-step c)

pub returns-in-Ok-extend_from_slice-clause-time_range : goal.returns-in-Ok-extend_from_slice-clause-time_range
returns-in-Ok-extend_from_slice-clause-time_range c =
    let fits : FitsSigned w64 c.args.row.start = search rules in
    let same = ap following_of (sym c.self.view_is)
    ∙ following_same c.self.inside.follow c.self.inside.samples c.self.invariant in
    let refused = rw (c.len.ensures, to_z-of_z fits) at c.in-Ok.ensures.out_of_range in
    (λ e. absurd e, λ o. absurd (false≢true (refused.1 (rw same at o))))

pub returns-in-Begins-clause-step : goal.returns-in-Begins-clause-step
returns-in-Begins-clause-step c =
    let fits : FitsSigned w64 c.args.row.start = search rules in
    let begins = rw (c.in-Begins.is, c.len.ensures, to_z-of_z fits) at c.in-Ok.ensures.step in
    rw (c.finish.ensures.value, c.replace.ensures.after, c.replace.ensures.value, ← c.self.view_is)
    (inr (moved_begins c.self.inside.follow c.step.new.self c.self.inside.samples c.args.row c.self.invariant begins))

pub returns-in-Begins-clause-segments : goal.returns-in-Begins-clause-segments
returns-in-Begins-clause-segments c =
    λ rows given h. pushes_grow c.args.self.now c.replace.new.dest rows given c.args.row c.finish.result h
    (returns-in-Begins-clause-step c)

pub returns-in-Begins-clause-time_range : goal.returns-in-Begins-clause-time_range
returns-in-Begins-clause-time_range c =
    let fits : FitsSigned w64 c.args.row.start = search rules in
    let same = ap following_of (sym c.self.view_is)
    ∙ following_same c.self.inside.follow c.self.inside.samples c.self.invariant in
    let refused = rw (c.len.ensures, to_z-of_z fits) at c.in-Ok.ensures.out_of_range in
    (λ e. absurd e, λ o. absurd (false≢true (refused.1 (rw same at o))))

pub invariant_of-self : goal.invariant_of-self
invariant_of-self c = λ span is. rw c.in_default-extend_from_slice.ensures.err (c.self.invariant span is)

pub returns-in_default-extend_from_slice-clause-time_range
    : goal.returns-in_default-extend_from_slice-clause-time_range
returns-in_default-extend_from_slice-clause-time_range c =
    let fits : FitsSigned w64 c.args.row.start = search rules in
    let same = ap following_of (sym c.self.view_is)
    ∙ following_same c.self.inside.follow c.self.inside.samples c.self.invariant in
    let refused = rw (c.len.ensures, to_z-of_z fits) at c.in-Ok.ensures.out_of_range in
    (λ e. absurd cc, λ o. absurd (false≢true (refused.1 (rw same at o))))
