use Rattle.std.proofs.Common.{arith, lit<, refl, ◌≡◌, ◌+◌, ℕ, ℤ, pos, List, None, drop, get_or, sym, ap, ◌∙◌}
use Rattle.std.proofs.lemmas.List.{get_or-drop, length-drop}
use Rattle.msr_words.specs.FirstGroup.{IsSizeAt}
use Rattle.msr_words.specs.Segment.{differences}
use Rattle.msr_words.proofs.Windows.{size_seen}
use Rattle.msr_words.proofs.window.Window.four_sizes.Goals as goal

pub returns-in-Some-clause-first : goal.returns-in-Some-clause-first
returns-in-Some-clause-first c =
    size_seen (drop c.args.at (differences None c.args.samples.now)) c.self.inside.sizes c.self.inside.kept
    c.in-Some.place 0 c.in-Some.place (omega arith) (rw (← c.self.view_is) at c.in-Some.ensures.shown None) (lit< tt)

pub returns-in-Some-clause-second : goal.returns-in-Some-clause-second
returns-in-Some-clause-second c =
    size_seen (drop c.args.at (differences None c.args.samples.now)) c.self.inside.sizes c.self.inside.kept
    c.in-Some.place 1 (c.in-Some.place + 1) refl (rw (← c.self.view_is) at c.in-Some.ensures.shown None) (lit< tt)

pub returns-in-Some-clause-third : goal.returns-in-Some-clause-third
returns-in-Some-clause-third c =
    size_seen (drop c.args.at (differences None c.args.samples.now)) c.self.inside.sizes c.self.inside.kept
    c.in-Some.place 2 (c.in-Some.place + 2) refl (rw (← c.self.view_is) at c.in-Some.ensures.shown None) (lit< tt)

pub returns-in-Some-clause-fourth : goal.returns-in-Some-clause-fourth
returns-in-Some-clause-fourth c =
    size_seen (drop c.args.at (differences None c.args.samples.now)) c.self.inside.sizes c.self.inside.kept
    c.in-Some.place 3 (c.in-Some.place + 3) refl (rw (← c.self.view_is) at c.in-Some.ensures.shown None) (lit< tt)

-- a size at the front, from some places before it on
from_before : (ds : List ℤ) (at k size : ℕ) → IsSizeAt (drop (at + k) ds) 0 size → IsSizeAt (drop at ds) k size
from_before ds at k size is width small =
    let left = length-drop at ds in
    let rest = length-drop (at + k) ds in
    let place : at + k + 0 ≡ at + k = omega arith in
    let same : get_or (drop (at + k) ds) 0 (pos 0) ≡ get_or (drop at ds) k (pos 0) =
    get_or-drop (at + k) ds 0 (pos 0) ∙ ap (λ n. get_or ds n (pos 0)) place ∙ sym (get_or-drop at ds k (pos 0)) in
    let here = rw same at is width small in
    (λ less. (omega (arith, (here.0 less).0), (here.0 less).1), λ fits. here.1 (omega (arith, fits.0), fits.1))

pub returns-clause-second : goal.returns-clause-second
returns-clause-second c = from_before (differences None c.args.samples.now) c.args.at 1 _ c.size_at-2.ensures

pub returns-clause-third : goal.returns-clause-third
returns-clause-third c = from_before (differences None c.args.samples.now) c.args.at 2 _ c.size_at-3.ensures

pub returns-clause-fourth : goal.returns-clause-fourth
returns-clause-fourth c = from_before (differences None c.args.samples.now) c.args.at 3 _ c.size_at-4.ensures
