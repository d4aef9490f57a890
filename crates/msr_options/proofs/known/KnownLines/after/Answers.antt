use Rattle.std.proofs.Common.{arith, rules, ◌≡◌, ◌∙◌, ◌≤◌, ◌++◌, drop, ap, sym, Some, length}
use Rattle.std.specs.List.{slice_get}
use Rattle.msr_options.specs.Known.{rest_after}
use Rattle.msr_options.proofs.LinesKnown.{from_none, from_some, none_begun, none_left, stripped, texts_at, length_texts}
use Rattle.msr_options.proofs.known.KnownLines.after.Goals as goal

pub returns-in-Some-strip_prefix : goal.returns-in-Some-strip_prefix
returns-in-Some-strip_prefix c =
    let place = c.loop-place.place in
    let found : slice_get c.self.inside.lines.keys place ≡ Some c.in-Some.line.now = search rules in
    let there = ap (λ lines. slice_get lines place) (sym c.self.view_is) ∙ texts_at c.self.inside.lines.keys place c.in-Some.line.now found in
    let p = c.in-Some-strip_prefix.ensures.cases in
    let stripped_line = c.deref.result.now in
    let begun : stripped_line ≡ c.args.beginning.now ++ drop p.0 stripped_line = search rules in
    let text : c.in-Some-strip_prefix.text.now ≡ drop p.0 stripped_line = search rules in
    let begins = ap (rest_after c.args.beginning.now) (sym c.deref.ensures) ∙ stripped c.args.beginning.now stripped_line _ p.0 begun text in
    sym (c.loop-place.invariant ∙ from_some c.args.beginning.now _ _ c.args.self.now place there begins)

pub loop-place-preserved : goal.loop-place-preserved
loop-place-preserved c =
    let place = c.loop-place.place in
    let found : slice_get c.self.inside.lines.keys place ≡ Some c.in-Some.line.now = search rules in
    let there = ap (λ lines. slice_get lines place) (sym c.self.view_is) ∙ texts_at c.self.inside.lines.keys place c.in-Some.line.now found in
    let never = c.in_default-strip_prefix.ensures.cases in
    let begins = ap (rest_after c.args.beginning.now) (sym c.deref.ensures) ∙ none_begun c.args.beginning.now c.deref.result.now never in
    c.loop-place.invariant ∙ from_none c.args.beginning.now _ c.args.self.now place there begins

pub returns : goal.returns
returns c =
    let all : c.loop-place.place ≡ c.len-place-end.result = omega (arith, c.loop-place-test.false, c.loop-place.auto.place-end) in
    let size = ap (λ lines. length lines) (sym c.self.view_is) ∙ length_texts c.self.inside.lines.keys in
    let len = c.len-place-end.ensures.len in
    let past : length c.args.self.now ≤ c.loop-place.place = omega (arith, all, size, len) in
    sym (c.loop-place.invariant ∙ none_left c.args.beginning.now c.args.self.now c.loop-place.place past)
