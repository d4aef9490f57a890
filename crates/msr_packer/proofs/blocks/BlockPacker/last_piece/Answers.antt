use Rattle.std.proofs.Common.{◌≡◌, ap, arith, false, length, refl, Some, rules, subst}
use Rattle.msr_packer.specs.Blocks.{PacksLast, holding_of}
use Rattle.msr_packer.proofs.Holding.{holds_still}
use Rattle.msr_packer.proofs.InBlocks.{all_given, holds_in, packs_all, packs_last_next}
use Rattle.msr_packer.proofs.ToldSizes.{shows_sizes}
use Rattle.msr_packer.proofs.blocks.BlockPacker.last_piece.Goals as goal

pub returns-in-Some-clause-gives : goal.returns-in-Some-clause-gives
returns-in-Some-clause-gives c = λ records.
    let open' : c.self.inside.ended ≡ false = search rules in
    record {
      given = λ samples runs separators p.
          let q = subst (λ e. PacksLast records samples runs separators (holding_of c.self.inside.held e)) open'
          (rw (← c.self.view_is) at p) in
          rw open' (packs_last_next records samples runs separators c.self.inside.held c.next_piece.new.self
          (Some c.in-Some.piece) c.in-Some.ensures.given q);
      shows = λ samples runs separators p.
          let q = subst (λ e. PacksLast records samples runs separators (holding_of c.self.inside.held e)) open'
          (rw (← c.self.view_is) at p) in
          shows_sizes c.next_piece.new.self samples (Some c.in-Some.piece) c.in-Some.ensures.given.sound
          (c.in-Some.ensures.sizes c.self.invariant.1) (c.in-Some.ensures.given.shows samples runs separators
          (holds_in records samples runs separators c.self.inside.held q.of_form q.left));
    }

pub returns-clause-gives : goal.returns-clause-gives
returns-clause-gives c = λ records.
    let open' : c.self.inside.ended ≡ false = search rules in
    record {
      given = λ samples runs separators p.
          let q = subst (λ e. PacksLast records samples runs separators (holding_of c.self.inside.held e)) open'
          (rw (← c.self.view_is) at p) in
          packs_all records samples runs separators c.self.inside.held c.last_piece.new.self c.next_piece.new.self
          c.last_piece.result c.in_default.ensures.given c.last_piece.ensures.same.form c.last_piece.ensures.canonical q;
      shows = λ samples runs separators p.
          let q = subst (λ e. PacksLast records samples runs separators (holding_of c.self.inside.held e)) open'
          (rw (← c.self.view_is) at p) in
          shows_sizes c.last_piece.new.self samples c.last_piece.result c.last_piece.ensures.same.sound
          (c.last_piece.ensures.sizes (c.in_default.ensures.sizes c.self.invariant.1))
          (c.last_piece.ensures.shows samples runs separators
          (holds_still c.self.inside.held c.next_piece.new.self samples runs separators c.in_default.ensures.given
          (holds_in records samples runs separators c.self.inside.held q.of_form q.left)));
    }

pub returns-clause-all : goal.returns-clause-all
returns-clause-all c = λ records samples runs separators p none.
    let open' : c.self.inside.ended ≡ false = search rules in
    let q = subst (λ e. PacksLast records samples runs separators (holding_of c.self.inside.held e)) open'
    (rw (← c.self.view_is) at p) in
    let a = packs_all records samples runs separators c.self.inside.held c.last_piece.new.self c.next_piece.new.self
    c.last_piece.result c.in_default.ensures.given c.last_piece.ensures.same.form c.last_piece.ensures.canonical q in
    all_given records samples runs separators c.last_piece.result none a.left

pub last_piece-requires-clause-end : goal.last_piece-requires-clause-end
last_piece-requires-clause-end c =
    let few = c.in_default.ensures.few refl in
    let held = ap length c.in_default.ensures.given.held in
    omega arith

pub invariant_of-self : goal.invariant_of-self
invariant_of-self c = (c.next_piece.ensures.given.sound, c.next_piece.ensures.sizes c.self.invariant.1)

pub invariant_of-self-2 : goal.invariant_of-self-2
invariant_of-self-2 c = (
  c.last_piece.ensures.same.sound,
  c.last_piece.ensures.sizes (c.in_default.ensures.sizes c.self.invariant.1),
)

pub returns-clause-fewer : goal.returns-clause-fewer
returns-clause-fewer c = search rules
