use Rattle.std.proofs.Common.{◌≡◌, ◌≢◌, ◌∙◌, ap, arith, refl, sym, Bool, true, false, ℕ, ◌∷◌}
use Rattle.msr_report_reader.specs.Draft.{stop_byte}
use Rattle.msr_report_reader.proofs.LineFeeds.{same_cons}
use Rattle.msr_report_reader.proofs.draft.stop.Goals as goal

space_goes_on : (last : Bool) → 32 ≡ stop_byte last → false ≡ last
space_goes_on true is = absurd (omega (arith, is))
space_goes_on false is = refl

feed_ends : (last : Bool) → 10 ≡ stop_byte last → true ≡ last
feed_ends true is = refl
feed_ends false is = absurd (omega (arith, is))

no_stop : (last : Bool) (first : ℕ) → first ≢ 32 → first ≢ 10 → first ≡ stop_byte last → ⊥
no_stop true first no_space no_feed is = no_feed is
no_stop false first no_space no_feed is = no_space is

pub returns-then-first-eq32-clause-found : goal.returns-then-first-eq32-clause-found
returns-then-first-eq32-clause-found c =
    c.in-Some.ensures.cases.0 ∙ ap (λ (b : ℕ). b ∷ c.in-Some.rest.now) c.if-first-eq32.true

pub returns-then-first-eq32-clause-only : goal.returns-then-first-eq32-clause-only
returns-then-first-eq32-clause-only c last rest is =
    let both = same_cons c.in-Some.first.now (stop_byte last) c.in-Some.rest.now rest
    (sym c.in-Some.ensures.cases.0 ∙ is) in
    (space_goes_on last (sym c.if-first-eq32.true ∙ both.0), both.1)

pub returns-then-first-eq10-clause-found : goal.returns-then-first-eq10-clause-found
returns-then-first-eq10-clause-found c =
    c.in-Some.ensures.cases.0 ∙ ap (λ (b : ℕ). b ∷ c.in-Some.rest.now) c.if-first-eq10.true

pub returns-then-first-eq10-clause-only : goal.returns-then-first-eq10-clause-only
returns-then-first-eq10-clause-only c last rest is =
    let both = same_cons c.in-Some.first.now (stop_byte last) c.in-Some.rest.now rest
    (sym c.in-Some.ensures.cases.0 ∙ is) in
    (feed_ends last (sym c.if-first-eq10.true ∙ both.0), both.1)

pub returns-clause-only : goal.returns-clause-only
returns-clause-only c last rest is =
    let both = same_cons c.in-Some.first.now (stop_byte last) c.in-Some.rest.now rest
    (sym c.in-Some.ensures.cases.0 ∙ is) in
    no_stop last c.in-Some.first.now c.if-first-eq32.false c.if-first-eq10.false both.0
