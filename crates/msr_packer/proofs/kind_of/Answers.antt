use Rattle.std.proofs.Common.{rules, ◌≡◌, ◌<◌, ◌≤◌, ◌↔◌, Bool, false, IsTrue, ℕ, arith, inl, inr, subst, sym}
use Rattle.std.proofs.lemmas.Bool.{cases_lt}
use Rattle.msr_base.specs.Kinds.{IsChosen}
use Rattle.msr_base.specs.declared.kinds.Kind.{Kind}
use Rattle.msr_base.specs.declared.kinds.Kind.TheVariants.{Int16, Int24, Int32, Steim1, Steim2}
use Rattle.msr_words.specs.Fit.{FitsIn, IsFirstKind, rank, records_of}
use Rattle.msr_words.specs.Segment.{run_points}
use Rattle.msr_packer.specs.Steps.{end_of}
use Rattle.msr_packer.proofs.EndsByKind.{first_by_ends, last_by_ends, not_before}
use Rattle.msr_packer.proofs.kind_of.Goals as goal

-- a kind that the form has, and that does not reach the cut, ends before it
ends_before : (answer : Bool) (chosen : Type 0) (cut end : ℕ) → (IsTrue answer ↔ chosen × (cut ≤ end))
    → answer ≡ false → chosen → end < cut
ends_before answer chosen cut end says not has = elim (cases_lt end cut) [
  | inl less ↦ less
  | inr reaches ↦ absurd (let yes = says.1 (has, reaches) in cc)
]

pub returns-then-found-end : goal.returns-then-found-end
returns-then-found-end c =
    let one : c.args.found.step.kind ≡ Steim1 = search rules in
    let fits = subst (λ kind. FitsIn kind (records_of c.args.form)
    (run_points c.args.samples.now c.args.found.step.start c.args.end)) one c.requires.fits.2 in
    not_before (records_of c.args.form) c.args.samples.now c.args.frontier c.args.found.step.end
    c.args.found.ends c.requires.ends c.args.found.step.start c.args.end c.requires.before c.requires.near
    c.requires.fits.1 (omega arith) fits

pub returns-then-reaches : goal.returns-then-reaches
returns-then-reaches c =
    let here : c.args.frontier ≡ c.args.found.step.start = omega arith in
    let order = c.requires.fits.0 in
    let reaches = c.reaches.ensures.0 c.if-reaches.true in
    subst (λ a. IsFirstKind (records_of c.args.form) (run_points c.args.samples.now a c.args.end) Steim2) here
    (first_by_ends (records_of c.args.form) c.args.samples.now c.args.frontier c.args.found.step.end
    c.args.found.ends c.requires.ends c.args.end c.requires.near (omega arith) c.requires.fits.1 Steim2 reaches.0 before
    reaches.1)
  where
    before : (other : Kind) → rank other < rank Steim2 → IsChosen c.args.form.kinds other
        → end_of c.args.found.ends other < c.args.end
    before Steim2 lower has = omega arith
    before Steim1 lower has = omega arith
    before Int16 lower has = omega arith
    before Int24 lower has = omega arith
    before Int32 lower has = omega arith

pub returns-then-reaches-2 : goal.returns-then-reaches-2
returns-then-reaches-2 c =
    let here : c.args.frontier ≡ c.args.found.step.start = omega arith in
    let order = c.requires.fits.0 in
    let reaches = c.reaches-else-reaches.ensures.0 c.if-reaches-2.true in
    subst (λ a. IsFirstKind (records_of c.args.form) (run_points c.args.samples.now a c.args.end) Steim1) here
    (first_by_ends (records_of c.args.form) c.args.samples.now c.args.frontier c.args.found.step.end
    c.args.found.ends c.requires.ends c.args.end c.requires.near (omega arith) c.requires.fits.1 Steim1 reaches.0 before
    reaches.1)
  where
    before : (other : Kind) → rank other < rank Steim1 → IsChosen c.args.form.kinds other
        → end_of c.args.found.ends other < c.args.end
    before Steim2 lower has = ends_before c.reaches.result (IsChosen c.args.form.kinds Steim2) c.args.end
        c.args.found.ends.steim2 c.reaches.ensures c.if-reaches.false has
    before Steim1 lower has = omega arith
    before Int16 lower has = omega arith
    before Int24 lower has = omega arith
    before Int32 lower has = omega arith

pub returns-then-reaches-3 : goal.returns-then-reaches-3
returns-then-reaches-3 c =
    let here : c.args.frontier ≡ c.args.found.step.start = omega arith in
    let order = c.requires.fits.0 in
    let reaches = c.reaches-else-reaches-2.ensures.0 c.if-reaches-3.true in
    subst (λ a. IsFirstKind (records_of c.args.form) (run_points c.args.samples.now a c.args.end) Int16) here
    (first_by_ends (records_of c.args.form) c.args.samples.now c.args.frontier c.args.found.step.end
    c.args.found.ends c.requires.ends c.args.end c.requires.near (omega arith) c.requires.fits.1 Int16 reaches.0 before
    reaches.1)
  where
    before : (other : Kind) → rank other < rank Int16 → IsChosen c.args.form.kinds other
        → end_of c.args.found.ends other < c.args.end
    before Steim2 lower has = ends_before c.reaches.result (IsChosen c.args.form.kinds Steim2) c.args.end
        c.args.found.ends.steim2 c.reaches.ensures c.if-reaches.false has
    before Steim1 lower has = ends_before c.reaches-else-reaches.result (IsChosen c.args.form.kinds Steim1) c.args.end
        c.args.found.ends.steim1 c.reaches-else-reaches.ensures c.if-reaches-2.false has
    before Int16 lower has = omega arith
    before Int24 lower has = omega arith
    before Int32 lower has = omega arith

pub returns-then-reaches-4 : goal.returns-then-reaches-4
returns-then-reaches-4 c =
    let here : c.args.frontier ≡ c.args.found.step.start = omega arith in
    let order = c.requires.fits.0 in
    let reaches = c.reaches-else-reaches-3.ensures.0 c.if-reaches-4.true in
    subst (λ a. IsFirstKind (records_of c.args.form) (run_points c.args.samples.now a c.args.end) Int24) here
    (first_by_ends (records_of c.args.form) c.args.samples.now c.args.frontier c.args.found.step.end
    c.args.found.ends c.requires.ends c.args.end c.requires.near (omega arith) c.requires.fits.1 Int24 reaches.0 before
    reaches.1)
  where
    before : (other : Kind) → rank other < rank Int24 → IsChosen c.args.form.kinds other
        → end_of c.args.found.ends other < c.args.end
    before Steim2 lower has = ends_before c.reaches.result (IsChosen c.args.form.kinds Steim2) c.args.end
        c.args.found.ends.steim2 c.reaches.ensures c.if-reaches.false has
    before Steim1 lower has = ends_before c.reaches-else-reaches.result (IsChosen c.args.form.kinds Steim1) c.args.end
        c.args.found.ends.steim1 c.reaches-else-reaches.ensures c.if-reaches-2.false has
    before Int16 lower has = ends_before c.reaches-else-reaches-2.result (IsChosen c.args.form.kinds Int16) c.args.end
        c.args.found.ends.int16 c.reaches-else-reaches-2.ensures c.if-reaches-3.false has
    before Int24 lower has = omega arith
    before Int32 lower has = omega arith

pub returns-else-reaches-4 : goal.returns-else-reaches-4
returns-else-reaches-4 c =
    let here : c.args.frontier ≡ c.args.found.step.start = omega arith in
    let order = c.requires.fits.0 in
    let fits = subst (λ a. FitsIn c.args.found.step.kind (records_of c.args.form)
    (run_points c.args.samples.now a c.args.end)) (sym here) c.requires.fits.2 in
    subst (λ a. IsFirstKind (records_of c.args.form) (run_points c.args.samples.now a c.args.end) Int32) here
    (last_by_ends (records_of c.args.form) c.args.samples.now c.args.frontier c.args.found.step.end
    c.args.found.ends c.requires.ends c.args.end c.requires.near
    (omega arith) c.requires.fits.1 c.args.found.step.kind fits before)
  where
    before : (other : Kind) → rank other < rank Int32 → IsChosen c.args.form.kinds other
        → end_of c.args.found.ends other < c.args.end
    before Steim2 lower has = ends_before c.reaches.result (IsChosen c.args.form.kinds Steim2) c.args.end
        c.args.found.ends.steim2 c.reaches.ensures c.if-reaches.false has
    before Steim1 lower has = ends_before c.reaches-else-reaches.result (IsChosen c.args.form.kinds Steim1) c.args.end
        c.args.found.ends.steim1 c.reaches-else-reaches.ensures c.if-reaches-2.false has
    before Int16 lower has = ends_before c.reaches-else-reaches-2.result (IsChosen c.args.form.kinds Int16) c.args.end
        c.args.found.ends.int16 c.reaches-else-reaches-2.ensures c.if-reaches-3.false has
    before Int24 lower has = ends_before c.reaches-else-reaches-3.result (IsChosen c.args.form.kinds Int24) c.args.end
        c.args.found.ends.int24 c.reaches-else-reaches-3.ensures c.if-reaches-4.false has
    before Int32 lower has = omega arith
