-- All sizes are given, so that the area is filled.
use Rattle.std.proofs.Common.{rules, arith, ◌≡◌, ◌-◌, ◌*◌, ◌/◌, length, pos, subst, sym, ◌∙◌}
use Rattle.msr_base.specs.declared.storage.Version.TheVariants.{One}
use Rattle.msr_steim.specs.Word.{FitsBits}
use Rattle.msr_words.specs.Segment.{difference_from, differences}
use Rattle.msr_words.proofs.FirstGroups.{all_at, divided_fit}
use Rattle.msr_filling.proofs.FilledAreas.{area_filled}
use Rattle.msr_words.proofs.Plain.{difference_of, length-differences}
use Rattle.msr_filling.proofs.steim1_filling.fill_by_sizes.Goals as goal

pub sizes_of-requires-clause-fits : goal.sizes_of-requires-clause-fits
sizes_of-requires-clause-fits c = λ at d less here.
    let ds = differences c.args.before c.args.run.now in
    let long = length-differences c.args.before c.args.run.now in
    let fit = divided_fit (15 * (length c.args.area.now / 64) - 2) ds c.requires.fits in
    let is : d ≡ difference_from c.args.before c.args.run.now at = search (rules, here) in
    subst (FitsBits 32) (difference_of c.args.before c.args.run.now at less ∙ sym is)
    (all_at (FitsBits 32) ds at (pos 0) (omega arith) fit)

pub fill_frames-requires-clause-sizes : goal.fill_frames-requires-clause-sizes
fill_frames-requires-clause-sizes c = λ _.
    let ds = differences c.args.before c.args.run.now in
    rw c.deref.ensures.value (c.in_ok-sizes.ensures ds (record {
      long = length-differences c.args.before c.args.run.now;
      each = λ at d less here.
          let is : d ≡ difference_from c.args.before c.args.run.now at = search (rules, here) in
          is ∙ sym (difference_of c.args.before c.args.run.now at less);
    }))

pub returns : goal.returns
returns c =
    area_filled One c.args.before c.args.run.now
    (length c.args.area.now / 64) c.fill_frames.new.area c.unwrap.result c.requires.some c.requires.fits
    (rw c.unwrap.ensures at c.fill_frames.ensures.filled)
