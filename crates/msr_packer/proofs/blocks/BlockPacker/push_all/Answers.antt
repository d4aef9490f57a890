use Rattle.std.proofs.lemmas.Result.{err_from_is_err_and}
use Rattle.std.proofs.Common.{refl, arith, ap, ◌∙◌, ◌≤◌, length, length-append, subst}
use Rattle.msr_words.specs.Fit.{records_of}
use Rattle.msr_packer.specs.HeldSamples.{first_ungiven, frontier_of}
use Rattle.msr_packer.specs.declared.held.HeldSamples.{HeldSamples}
use Rattle.msr_packer.proofs.Holding.{sound_more}
use Rattle.msr_packer.proofs.InBlocks.{packs_held, packs_more, packs_same}
use Rattle.msr_packer.proofs.ToldSizes.{frontier_within, sized_more, start_within}
use Rattle.msr_packer.proofs.blocks.BlockPacker.push_all.Goals as goal

pub returns-in_err-take_places-clause-taken : goal.returns-in_err-take_places-clause-taken
returns-in_err-take_places-clause-taken c = λ records before runs separators p.
    let e = err_from_is_err_and c.from_residual.result
    c.from_residual.ensures.1 in
    let t = c.take_places.ensures in
    let q = packs_held records before runs separators c.self.inside.held c.make_room.new.self c.self.inside.ended
    c.make_room.ensures.needed (rw (← c.self.view_is) at p) in
    rw e.1 (packs_same records before runs separators c.make_room.new.self c.take_places.new.self
    c.self.inside.ended t.same q)

pub returns-in_err-extend_from_slice-clause-taken : goal.returns-in_err-extend_from_slice-clause-taken
returns-in_err-extend_from_slice-clause-taken c = λ records before runs separators p.
    let e = err_from_is_err_and c.from_residual-in_err-extend_from_slice.result
    c.from_residual-in_err-extend_from_slice.ensures.1 in
    let t = c.take_places.ensures in
    let q = packs_held records before runs separators c.self.inside.held c.make_room.new.self c.self.inside.ended
    c.make_room.ensures.needed (rw (← c.self.view_is) at p) in
    let r = packs_same records before runs separators c.make_room.new.self c.take_places.new.self
    c.self.inside.ended t.same q in
    rw e.1 (record {
      of_form = r.of_form;
      holds = rw c.in_err-extend_from_slice.ensures.items r.holds;
      stays = rw c.in_err-extend_from_slice.ensures.items r.stays;
      goes_on = r.goes_on;
    })

pub returns-clause-taken : goal.returns-clause-taken
returns-clause-taken c = λ records before runs separators p.
    let t = c.take_places.ensures in
    let q = packs_held records before runs separators c.self.inside.held c.make_room.new.self c.self.inside.ended
    c.make_room.ensures.needed (rw (← c.self.view_is) at p) in
    let room = c.take_places.new.self in
    let r = packs_same records before runs separators c.make_room.new.self room
    c.self.inside.ended t.same q in
    let new : HeldSamples = record room { samples = c.extend_from_slice.new.self } in
    packs_more records before runs separators room new c.args.samples.now c.self.inside.ended
    (subst (λ r. 256 ≤ r.bytes) r.of_form room.form.length.least) refl refl refl
    c.in_ok-extend_from_slice.ensures.items r

pub invariant_of-self-2 : goal.invariant_of-self-2
invariant_of-self-2 c =
    let room = c.take_places.new.self in
    let t = c.take_places.ensures in
    let s = t.same.sound in
    let knows = t.sizes (c.make_room.ensures.needed.sizes c.self.invariant.1) in
    let items = c.in_ok-extend_from_slice.ensures.items in
    let new : HeldSamples = record room { samples = c.extend_from_slice.new.self } in
    let few = rw (← c.self.view_is) at c.requires in
    let number = c.make_room.ensures.needed.number in
    let offset = t.same.offset in
    let held = ap length t.same.held in
    let long = ap length items ∙ length-append room.samples.items c.args.samples.now in
    let more = sized_more room.samples.items c.args.samples.now in (
      sound_more room new c.args.samples.now s refl refl refl refl items (omega arith),
      record {
        next = record {
          next = rw items (more (first_ungiven room.current) (frontier_of room.current) _ _ _
              (start_within (records_of room.form) room.current (length room.samples.items) s.inside)
              (frontier_within (records_of room.form) room.current (length room.samples.items) s.inside)
              knows.next.next);
        };
        shown = rw items (more room.from room.to _ _ _ s.order s.within knows.shown);
      },
    )

pub invariant_of-self-in_err-extend_from_slice : goal.invariant_of-self-in_err-extend_from_slice
invariant_of-self-in_err-extend_from_slice c =
    let s = c.take_places.ensures.same.sound in
    let knows = c.take_places.ensures.sizes (c.make_room.ensures.needed.sizes c.self.invariant.1) in
    let items = c.in_err-extend_from_slice.ensures.items in (
      record {
        number = rw items s.number;
        inside = rw items s.inside;
        order = s.order;
        within = rw items s.within;
      },
      record {
        next = record { next = rw items knows.next.next };
        shown = rw items knows.shown;
      },
    )

pub invariant_of-self : goal.invariant_of-self
invariant_of-self c = (
  c.take_places.ensures.same.sound,
  c.take_places.ensures.sizes (c.make_room.ensures.needed.sizes c.self.invariant.1),
)

pub returns-clause-few : goal.returns-clause-few
returns-clause-few c = λ few.
    let least = c.make_room.ensures.few (rw (← c.self.view_is) at few) in
    let held = ap length c.take_places.ensures.same.held in
    let long = ap length c.in_ok-extend_from_slice.ensures.items
    ∙ length-append c.take_places.new.self.samples.items c.args.samples.now in
    rw (← c.self.view_is) (omega arith)
