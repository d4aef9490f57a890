-- The first day that could not be opened.
use Rattle.std.proofs.Common.{◌≡◌, List, [], ◌∷◌, ◌++◌, ◌∙◌, refl, ap, sym, Option, None, Some}
use Rattle.std.specs.Option.{option_or}
use Rattle.msr_options.specs.declared.hint.Unopened.{Unopened}
use Rattle.msr_outcomes.specs.Entries.{Entry, IsTally, first_unopened, unopened_of}
use Rattle.msr_outcomes.specs.declared.tally.Tally.{Tally}

or_none : (first : Option Unopened) → option_or first None ≡ first
or_none None = refl
or_none (Some it) = refl

or_more : (first second third : Option Unopened) →
    option_or first (option_or second third) ≡ option_or (option_or first second) third
or_more None second third = refl
or_more (Some it) second third = refl

pub first_more : (before : List Entry) (entry : Entry) →
    first_unopened (before ++ entry ∷ []) ≡ option_or (first_unopened before) (unopened_of entry.outcome)
first_more [] entry = or_none (unopened_of entry.outcome)
first_more (one ∷ before) entry =
    ap (option_or (unopened_of one.outcome)) (first_more before entry)
    ∙ or_more (unopened_of one.outcome) (first_unopened before) (unopened_of entry.outcome)

-- one that is not refused so
pub kept_first : (tally : Tally) (before : List Entry) (entry : Entry) → IsTally before tally
    → unopened_of entry.outcome ≡ None → tally.unopened ≡ first_unopened (before ++ entry ∷ [])
kept_first tally before entry h none =
    h.unopened ∙ sym (first_more before entry ∙ ap (option_or (first_unopened before)) none
    ∙ or_none (first_unopened before))
