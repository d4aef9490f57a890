use Rattle.std.proofs.Common.{Some, refl, sym, subst, ap, ◌∙◌, to_z-of_z}
use Rattle.std.proofs.lemmas.Bool.{both_ways}
use Rattle.msr_segments.specs.declared.span.Span.{Span}
use Rattle.msr_segments.specs.declared.follow.Follow.TheInside.{Inside}
use Rattle.msr_segments.specs.declared.follow.Step.TheVariants.{Begins, Joins}
use Rattle.msr_segments.specs.Spans.{BeginsSegment, JoinsSegment, span_of}
use Rattle.msr_segments.proofs.Histories.{followed_step}
use Rattle.msr_segments.proofs.SpanLemmas.{breaks_some, breaks_none, joins_longer, begins_after}
use Rattle.msr_segments.proofs.follow.Follow.step.Goals as goal
use Rattle.msr_segments.proofs.follow.Follow.step.Goals.{in_default-via-in-Some+else-is_continued_by, in_default-via-in_default}

pub count_with-requires-clause-count : goal.count_with-requires-clause-count
count_with-requires-clause-count c = (c.self.invariant c.in-Some.segment c.in-Some.is).1

pub invariant_of-self : goal.invariant_of-self
invariant_of-self c = λ segment e. c.self.invariant segment (c.in-Some.is ∙ e)

pub returns-in_default-count_with-clause-out_of_range : goal.returns-in_default-count_with-clause-out_of_range
returns-in_default-count_with-clause-out_of_range c = (
  λ _. rw (← c.self.view_is) (record {
    segment = c.in-Some.segment;
    current = c.in-Some.is;
    continues = ((rw (to_z-of_z c.ranges.start) at c.is_continued_by.ensures) c.args.count).0
        c.if-is_continued_by.true;
    out_of_range = c.in_default-count_with.ensures.none.0 refl;
  }),
  λ _. refl,
)

pub returns-in-Some-count_with-clause-step : goal.returns-in-Some-count_with-clause-step
returns-in-Some-count_with-clause-step c = rw (← c.self.view_is)
    (joins_longer (record { tolerance = c.self.inside.tolerance; current = c.self.inside.current }) c.in-Some.segment
    (span_of c.args.key.now c.args.start c.args.count) c.in-Some-count_with.longer c.in-Some.is
    (((rw (to_z-of_z c.ranges.start) at c.is_continued_by.ensures) c.args.count).0 c.if-is_continued_by.true)
    c.in-Some-count_with.ensures.some c.in-Some-count_with.ensures.in_time)

pub returns-in-Some-count_with-clause-history : goal.returns-in-Some-count_with-clause-history
returns-in-Some-count_with-clause-history c =
    λ rows answers row e h. followed_step c.args.self.now _ rows answers row Joins h
    (subst (λ (s : Span). JoinsSegment c.args.self.now s (record {
      tolerance = c.self.inside.tolerance;
      current = Some (record {
        key = c.in-Some.segment.key;
        start = c.in-Some.segment.start;
        count = c.in-Some-count_with.longer;
      });
    })) (sym e) (returns-in-Some-count_with-clause-step c))

pub returns-in_default-clause-step : goal.returns-in_default-clause-step
returns-in_default-clause-step c =
    rw (to_z-of_z c.ranges.start, ← c.self.view_is) (elim c.in_default.branch [
      | in_default-via-in-Some+else-is_continued_by w ↦
          begins_after (record { tolerance = c.self.inside.tolerance; current = c.self.inside.current })
          (span_of c.args.key.now c.args.start c.args.count) c.in_default.self-inside.tolerance
          (ap (λ (i : Inside). i.tolerance) w.self-inside-is)
          (breaks_some c.self.inside.tolerance (span_of c.args.key.now c.args.start c.args.count)
          c.self.inside.current w.in-Some.segment w.in-Some.is (λ k. absurd (both_ways _ w.if-is_continued_by.false
          (((rw (to_z-of_z c.ranges.start) at w.is_continued_by.ensures) c.args.count).1 k))))
      | in_default-via-in_default w ↦
          begins_after (record { tolerance = c.self.inside.tolerance; current = c.self.inside.current })
          (span_of c.args.key.now c.args.start c.args.count) c.in_default.self-inside.tolerance
          (ap (λ (i : Inside). i.tolerance) w.self-inside-is)
          (breaks_none c.self.inside.tolerance (span_of c.args.key.now c.args.start c.args.count)
          c.self.inside.current w.in_default.is)
    ])

pub returns-in_default-clause-out_of_range : goal.returns-in_default-clause-out_of_range
returns-in_default-clause-out_of_range c = (
  λ e. absurd cc,
  λ o. absurd ((returns-in_default-clause-step c).breaks o.segment o.current o.continues),
)

pub returns-in_default-clause-history : goal.returns-in_default-clause-history
returns-in_default-clause-history c = rw (to_z-of_z c.ranges.start)
    (λ rows answers row e h. followed_step c.args.self.now
    (record {
      tolerance = c.in_default.self-inside.tolerance;
      current = Some (span_of c.args.key.now c.args.start c.args.count);
    }) rows answers row Begins h
    (subst (λ (s : Span). BeginsSegment c.args.self.now s
    (record {
      tolerance = c.in_default.self-inside.tolerance;
      current = Some (span_of c.args.key.now c.args.start c.args.count);
    })) (sym e) (rw (to_z-of_z c.ranges.start) at (returns-in_default-clause-step c))))
