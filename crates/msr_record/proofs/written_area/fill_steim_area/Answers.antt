-- By what the area tells that is filled.
use Rattle.std.proofs.Common.{◌-◌, length, sym, subst}
use Rattle.msr_base.specs.Lengths.{bytes_of}
use Rattle.msr_record.specs.Written.{AreFrames}
use Rattle.msr_record.proofs.FilledFrames.{can_fill, few_groups, frames_agree, frames_carried, frames_written, whole_area}
use Rattle.msr_record.proofs.written_area.fill_steim_area.Goals as goal

pub fill_words-requires-clause-frames : goal.fill_words-requires-clause-frames
fill_words-requires-clause-frames c = whole_area c.args.record_length (length c.args.area.now) c.requires.size

pub fill_words-requires-clause-fits : goal.fill_words-requires-clause-fits
fill_words-requires-clause-fits c = can_fill c.args.record_length
    (length c.args.area.now) c.requires.size c.args.version c.args.run.now.before c.args.run.now.samples.now c.requires.fits

pub frame_count-requires : goal.frame_count-requires
frame_count-requires c =
    few_groups c.args.record_length
    (length c.args.area.now) c.requires.size c.args.version c.args.run.now.before c.args.run.now.samples.now c.requires.fits
    c.fill_words.new.area c.in_ok-groups.groups c.in_ok-groups.ensures

pub returns-clause-written : goal.returns-clause-written
returns-clause-written c =
    subst (λ frames. AreFrames c.args.version c.args.run.now.before c.args.run.now.samples.now
    (bytes_of c.args.record_length - 64) frames c.fill_words.new.area) (sym c.frame_count.ensures)
    (frames_written c.args.record_length
    (length c.args.area.now) c.requires.size c.args.version c.args.run.now.before c.args.run.now.samples.now c.requires.fits
    c.fill_words.new.area c.in_ok-groups.groups c.in_ok-groups.ensures)

pub returns-clause-carried : goal.returns-clause-carried
returns-clause-carried c =
    frames_carried c.args.record_length
    (length c.args.area.now) c.requires.size c.args.version c.args.run.now.before c.args.run.now.samples.now c.requires.fits
    c.fill_words.new.area c.in_ok-groups.groups c.in_ok-groups.ensures c.requires.some c.requires.range

pub returns-clause-reverse : goal.returns-clause-reverse
returns-clause-reverse c =
    frames_agree c.args.record_length
    (length c.args.area.now) c.requires.size c.args.version c.args.run.now.before c.args.run.now.samples.now c.requires.fits
    c.fill_words.new.area c.in_ok-groups.groups c.in_ok-groups.ensures c.requires.some c.requires.range
