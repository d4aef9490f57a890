use Rattle.std.proofs.lemmas.Int.{to_z-of_z}
use Rattle.msr_words.specs.Trackers.{integers, width_of}
use Rattle.msr_words.proofs.Pushes.{push_no, push_yes, takes_integers}
use Rattle.msr_words.proofs.codecs.IntegersCodec.push.Goals as goal

pub returns-then-not-is_taken : goal.returns-then-not-is_taken
returns-then-not-is_taken g c records run h =
    let fits = c.ranges.sample in
    let taken = simp to_z-of_z at c.is_taken.ensures in
    push_no (integers (width_of g.row.BITS)) (width_of g.row.BITS) records.bytes
    (takes_integers (width_of g.row.BITS) records.bytes) run c.args.sample c.args._diff c.self.inside.left
    c.self.inside.fits (rw (← c.self.view_is) at h)
    (λ t. let e = taken.1 t in cc)

pub returns : goal.returns
returns g c records run h =
    let fits = c.ranges.sample in
    let taken = simp to_z-of_z at c.is_taken.ensures in
    push_yes (integers (width_of g.row.BITS)) (width_of g.row.BITS) records.bytes
    (takes_integers (width_of g.row.BITS) records.bytes) run c.args.sample c.args._diff c.self.inside.left
    c.self.inside.fits (rw (← c.self.view_is) at h)
    (taken.0 c.if-not-is_taken.false)
