use Rattle.std.proofs.Common.{◌≡◌, ℤ, sym, ap, ◌∙◌, rules, FitsSigned, length, w64, to_z, of_z, to_z-of_z, Some}
use Rattle.std.specs.Prelude.{slice_get}
use Rattle.std.proofs.lemmas.Bool.{both_ways}
use Rattle.std.proofs.lemmas.Bool.Decides.{Decides-eqb}
use Rattle.std.proofs.lemmas.Option.{slice_get-get_or}
use Rattle.msr_report.specs.declared.report.SegmentLine.{SegmentLine}
use Rattle.msr_segments.proofs.KeyLemmas.{key_decides}
use Rattle.msr_verdict.proofs.Lines.{tests_line}
use Rattle.msr_verdict.proofs.agreement.is_line_of.Goals as goal
use Rattle.msr_verdict.proofs.agreement.is_line_of.Goals.{then-eq, else-eq}

same_signed : (a b : ℤ) → FitsSigned w64 a → FitsSigned w64 b → of_z w64 a ≡ of_z w64 b → a ≡ b
same_signed a b f g e = sym (to_z-of_z f) ∙ ap (λ n. to_z w64 n) e ∙ to_z-of_z g

pub returns-then-line-row : goal.returns-then-line-row
returns-then-line-row c =
    let look = c.in-Some.ensures.lookup in
    let at : slice_get c.args.report.now.segments.items c.args.place ≡ Some c.in-Some.line.now =
    rw c.deref.ensures.value at (slice_get-get_or c.deref.result.now c.args.place c.in-Some.line.now look.3.0
    ∙ ap (λ (l : SegmentLine). Some l) (sym (look.3.1 c.in-Some.line.now))) in
    let many : c.len.result ≡ length c.in-Some.line.now.separators.items = search rules in
    let fits : FitsSigned w64 c.in-Some.line.now.start = search rules in
    let row_fits : FitsSigned w64 c.args.row.now.start = search rules in
    tests_line c.args.report.now.segments.items c.args.place c.args.row.now.key c.args.row.now.start c.in-Some.line.now _ at
    (elim c.if-eq.branch [
      | then-eq u ↦ (
          let key = (key_decides c.in-Some.line.now.key c.args.row.now.key).0 (sym c.eq.ensures ∙ u.if-eq.true) in
          let start = same_signed c.in-Some.line.now.start c.args.row.now.start fits row_fits
          ((Decides-eqb _ _).0 (sym u.value-is ∙ c.if-line-row.true)) in
          (λ t. (key, start, (Decides-eqb _ _).0 t ∙ many), λ w. (Decides-eqb _ _).1 (w.2 ∙ sym many)))
      | else-eq u ↦ absurd (let e = u.value-is in let f = c.if-line-row.true in let h = u.if-eq.false in cc)
    ])

pub returns-else-line-row : goal.returns-else-line-row
returns-else-line-row c =
    let look = c.in-Some.ensures.lookup in
    let at : slice_get c.args.report.now.segments.items c.args.place ≡ Some c.in-Some.line.now =
    rw c.deref.ensures.value at (slice_get-get_or c.deref.result.now c.args.place c.in-Some.line.now look.3.0
    ∙ ap (λ (l : SegmentLine). Some l) (sym (look.3.1 c.in-Some.line.now))) in
    tests_line c.args.report.now.segments.items c.args.place c.args.row.now.key c.args.row.now.start c.in-Some.line.now _ at (
      λ t. absurd (both_ways c.if-eq.value c.if-line-row.false t),
      λ w. absurd (elim c.if-eq.branch [
        | then-eq u ↦ both_ways c.if-eq.value c.if-line-row.false
            (u.value-is ∙ (Decides-eqb _ _).1 (ap (λ z. of_z w64 z) w.1))
        | else-eq u ↦ both_ways c.eq.result u.if-eq.false
            (c.eq.ensures ∙ (key_decides c.in-Some.line.now.key c.args.row.now.key).1 w.0)
      ]),
    )
