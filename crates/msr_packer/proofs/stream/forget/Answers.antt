use Rattle.std.proofs.Common.{◌∙◌, ◌-◌, ap, arith, length, length-drop, refl}
use Rattle.msr_packer.specs.HeldSamples.{first_ungiven, frontier_of}
use Rattle.msr_packer.proofs.Streaming.{growing_few, growing_forgets, may_forget}
use Rattle.msr_words.specs.Fit.{records_of}
use Rattle.msr_packer.proofs.stream.forget.Goals as goal

pub returns-clause-streaming : goal.returns-clause-streaming
returns-clause-streaming c =
    let held = c.args.held.now in
    let s = c.requires in
    let count = first_ungiven held.current - 1 in
    let value = c.unneeded.ensures in
    let f = c.forget.ensures in
    let may = may_forget (records_of held.form)
    (length held.samples.items) held.current c.args.growing.now.start s.sound.inside s.is_growing.near in
    let long = ap length f.samples ∙ length-drop count held.samples.items in
    let few = s.few in
    record {
      sound = f.needed.sound;
      stays = f.needed.stays s.stays;
      is_growing = rw (f.needed.form, f.samples)
          (growing_forgets (records_of held.form) held.samples.items (frontier_of held.current)
          (frontier_of c.forget.new.self.current) count c.args.growing.now _ s.is_growing may f.frontier
          (omega arith) refl);
      few = rw f.needed.form (omega arith);
    }

pub returns-clause-behind : goal.returns-clause-behind
returns-clause-behind c =
    let held = c.args.held.now in
    let count = first_ungiven held.current - 1 in
    let f = c.forget.ensures in
    let long = ap length f.samples ∙ length-drop count held.samples.items in
    let few = growing_few (records_of held.form) held.samples.items
    (frontier_of held.current) c.args.growing.now c.requires.is_growing in
    let frontier = f.frontier in
    rw f.needed.form (omega arith)
