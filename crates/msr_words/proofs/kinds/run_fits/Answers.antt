use Rattle.std.proofs.Common.{arith, ◌<◌, SFits, w32, slice_index_or, pos, ◌-◌, rules}
use Rattle.std.proofs.lemmas.Int.{to_z-of_z}
use Rattle.msr_base.specs.Kinds.{IsChosen}
use Rattle.msr_words.proofs.Runs.{run_from_start, run_from}
use Rattle.msr_words.proofs.kinds.run_fits.Goals as goal

pub returns-then-start-eq0 : goal.returns-then-start-eq0
returns-then-start-eq0 c =
    let chosen : IsChosen c.args.form.kinds c.args.kind = cc (c.contains.ensures, c.if-not-contains.false) in
    let fits = c.fits.ensures in
    rw (c.if-start-eq0.true, ← run_from_start c.args.samples.now c.args.end)
    (λ t. (chosen, fits.0 t), λ h. fits.1 h.1)

pub returns-else-start-eq0 : goal.returns-else-start-eq0
returns-else-start-eq0 c =
    let chosen : IsChosen c.args.form.kinds c.args.kind = cc (c.contains.ensures, c.if-not-contains.false) in
    let later : 0 < c.args.start = omega arith in
    let sample : SFits w32 (slice_index_or c.args.samples.now (c.args.start - 1) (pos 0)) = search rules in
    let fits = simp to_z-of_z at c.fits-else-start-eq0.ensures in
    rw (← run_from c.args.samples.now c.args.start c.args.end later) (λ t. (chosen, fits.0 t), λ h. fits.1 h.1)
