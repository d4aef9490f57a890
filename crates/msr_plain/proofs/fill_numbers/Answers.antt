-- The bytes carry the samples.
use Rattle.std.proofs.Common.{rules, ◌-◌, ◌*◌, length, replicate, slice_index_or, pos, w32, SFits, refl, arith}
use Rattle.std.proofs.lemmas.Grind.{common_steps}
use Rattle.std.proofs.lemmas.Int.{to_z-of_z}
use Rattle.msr_base.specs.Storage.{size_of}
use Rattle.msr_plain.proofs.CarriedLemmas.{carried, one_more}
use Rattle.msr_plain.proofs.fill_numbers.Goals as goal

pub returns-clause-carried : goal.returns-clause-carried
returns-clause-carried c =
    carried c.args.width _ c.args.samples.now (replicate
    (length c.args.area.now - size_of c.args.width * length c.args.samples.now) 0) c.requires.fit (grind
    (arith, common_steps))

pub loop-place-preserved : goal.loop-place-preserved
loop-place-preserved c =
    let sample : SFits w32 (slice_index_or c.args.samples.now c.loop-place.place (pos 0)) = search rules in
    let written = simp to_z-of_z at c.write_number.ensures in
    let a = c.bytes-size.ensures in
    rw written (one_more c.args.width c.args.samples.now c.args.area.now c.loop-place.area c.loop-place.place
    (c.bytes-size.result * c.loop-place.place) (slice_index_or c.args.samples.now c.loop-place.place (pos 0))
    (rw a refl) (omega arith) c.requires.room refl c.loop-place.invariant)
