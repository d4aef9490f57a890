-- Each size is told.
use Rattle.std.proofs.Common.{◌/◌, length}
use Rattle.msr_base.specs.declared.storage.Version.TheVariants.{Two}
use Rattle.msr_filling.proofs.FilledAreas.{area_filled}
use Rattle.msr_filling.proofs.filling.fill_steim2.Goals as goal

pub returns : goal.returns
returns c = record {
  filled = λ can.
      area_filled Two c.args.before c.args.run.now
      (length c.args.area.now / 64) c.fill_frames.new.area c.unwrap.result c.requires.some can
      (rw c.unwrap.ensures at c.fill_frames.ensures.filled);
}
