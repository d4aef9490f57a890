-- The differences are those of a division, and the area has room for it.
use Rattle.std.proofs.Common.{◌-◌, ◌*◌, ◌/◌, length}
use Rattle.msr_base.specs.declared.storage.Version.TheVariants.{One}
use Rattle.msr_words.specs.Segment.{differences}
use Rattle.msr_words.proofs.FirstGroups.{divided_fit}
use Rattle.msr_filling.proofs.FilledAreas.{area_filled}
use Rattle.msr_filling.proofs.steim1_filling.fill_steim1.Goals as goal

pub fill_frames-requires-clause-fits : goal.fill_frames-requires-clause-fits
fill_frames-requires-clause-fits c is = divided_fit (15 * (length c.args.area.now / 64) - 2)
    (differences c.args.before c.args.run.now) c.requires.fits

pub returns-in-Some : goal.returns-in-Some
returns-in-Some c = area_filled One c.args.before c.args.run.now
    (length c.args.area.now / 64) c.fill_frames.new.area c.in-Some.used c.requires.some c.requires.fits
    c.in-Some.ensures.filled
