use Rattle.msr_base.specs.Lengths.{bytes_of}
use Rattle.msr_record.proofs.AreaLemmas.{room_left, samples_fit}
use Rattle.msr_record.proofs.written_area.fill_area.Goals as goal

pub fill_plain-requires-clause-fit : goal.fill_plain-requires-clause-fit
fill_plain-requires-clause-fit c =
    let fits = rw c.in-Integers.is at c.requires.fits in
    samples_fit c.in-Integers.width c.args.run.now.before c.args.run.now.samples.now c.samples_have_32_bits.ensures fits.0

pub fill_plain-requires-clause-room : goal.fill_plain-requires-clause-room
fill_plain-requires-clause-room c =
    let fits = rw c.in-Integers.is at c.requires.fits in
    rw c.requires.size
    (room_left c.in-Integers.width (bytes_of c.args.record_length) c.args.run.now.before c.args.run.now.samples.now fits.1)
