use Rattle.std.proofs.Common.{◌≡◌, Option, Some, None, ap, sym, ◌∙◌, rules}
use Rattle.std.specs.Prelude.{option_map}
use Rattle.msr_segments.specs.declared.joiner.Segment.{Segment}
use Rattle.msr_segments.specs.Joining.{Joining, segment_at}
use Rattle.msr_segments.proofs.Histories.{ends_empty}
use Rattle.msr_segments.proofs.joiner.Joiner.finish.Goals as goal

pub returns-clause-none : goal.returns-clause-none
returns-clause-none c =
    let span : c.self.inside.follow.current ≡ Some c.in_ok-span.span = search rules in
    let last = ap (λ (j : Joining). j.current) (sym c.self.view_is)
    ∙ ap (option_map (segment_at c.self.inside.samples)) span in
    λ rows given h. (
      λ e. absurd cc,
      λ none. let ended = ends_empty c.args.self.tolerance rows given c.args.self.current none h.segments in
          let both : ◌≡◌ {A = Option Segment} None (Some (segment_at c.self.inside.samples c.in_ok-span.span)) =
          sym ended ∙ last in absurd cc,
    )

pub returns-in_err-span-clause-value : goal.returns-in_err-span-clause-value
returns-in_err-span-clause-value c = search rules
