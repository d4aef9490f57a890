use Rattle.std.proofs.Common.{arith, refl}
use Rattle.msr_packer.proofs.InBlocks.{holds_in, packs_next}
use Rattle.msr_packer.proofs.ToldSizes.{shows_sizes}
use Rattle.msr_packer.proofs.blocks.BlockPacker.next_piece.Goals as goal

pub returns-clause-gives : goal.returns-clause-gives
returns-clause-gives c = λ records. record {
  given = λ samples runs separators p.
      let most = c.longest_run-most.ensures in
      packs_next records samples runs separators c.self.inside.held c.next_piece.new.self c.self.inside.ended
      c.next_piece.result c.next_piece.ensures.given (c.next_piece.ensures.stays (omega arith))
      (rw (← c.self.view_is) at p);
  shows = λ samples runs separators p.
      let q = rw (← c.self.view_is) at p in
      shows_sizes c.next_piece.new.self samples c.next_piece.result c.next_piece.ensures.given.sound
      (c.next_piece.ensures.sizes c.self.invariant.1)
      (c.next_piece.ensures.given.shows samples runs separators
      (holds_in records samples runs separators c.self.inside.held q.of_form q.holds));
}

pub invariant_of-self : goal.invariant_of-self
invariant_of-self c = (c.next_piece.ensures.given.sound, c.next_piece.ensures.sizes c.self.invariant.1)

pub returns-clause-few : goal.returns-clause-few
returns-clause-few c = λ none.
    let most = c.longest_run-most.ensures in
    let few = c.next_piece.ensures.few none in
    rw (c.next_piece.ensures.given.form, c.next_piece.ensures.given.held) (omega arith)

pub returns-clause-count : goal.returns-clause-count
returns-clause-count c = rw (← c.self.view_is, c.next_piece.ensures.given.offset, c.next_piece.ensures.given.held) refl
