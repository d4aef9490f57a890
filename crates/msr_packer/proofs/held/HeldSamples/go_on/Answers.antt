use Rattle.std.proofs.Common.{◌≡◌, ◌≤◌, ℕ, ℤ, List, [], Option, Some, None, IsNone, arith, length, refl}
use Rattle.std.specs.Prelude.{slice_range}
use Rattle.msr_packer.specs.HeldSamples.{first_ungiven, frontier_of, piece_of}
use Rattle.msr_packer.specs.declared.held.RunToCut.{RunToCut}
use Rattle.msr_packer.proofs.Holding.{next_stepped, shows_next, start_before, window_next}
use Rattle.msr_packer.proofs.ToldSizes.{sized_cut}
use Rattle.msr_words.specs.Fit.{records_of}
use Rattle.msr_packer.proofs.held.HeldSamples.go_on.Goals as goal

pub piece_of-piece-requires : goal.piece_of-piece-requires
piece_of-piece-requires c =
    let sound = c.requires.sound in
    let s = next_stepped (records_of c.args.self.now.form) c.args.self.now.form.length.least
    c.args.self.now.samples.items c.args.self.now.current c.args.step c.requires.next in
    let within = c.requires.next.step.reached.1 in
    let order = c.requires.next.step.reached.0 in
    record {
      records = records_of c.args.self.now.form;
      number = length c.args.self.now.samples.items;
      inside = sound.inside;
      within = omega arith;
      counted = sound.number;
    }

pub returns-clause-given : goal.returns-clause-given
returns-clause-given c =
    let form = records_of c.args.self.now.form in
    let held = c.args.self.now.samples.items in
    let next = c.requires.next in
    let step = c.args.step in
    let s = next_stepped form c.args.self.now.form.length.least held c.args.self.now.current step next in
    let on = s.on in
    let few = s.few in
    let frontier = next.frontier in
    let before = next.step.before in
    let within = next.step.reached.1 in
    let reached = next.step.reached.0 in
    let from = c.start_of-self.ensures in
    let later : first_ungiven c.args.self.now.current ≤ step.start =
    start_before form (length held) c.args.self.now.current step.start c.requires.sound.inside s.near in
    record {
      sound = record {
        number = c.requires.sound.number;
        inside = record { before = omega arith; on = omega arith; within = omega arith; short = omega arith };
        order = omega arith;
        within = omega arith;
      };
      form = refl;
      held = refl;
      offset = refl;
      holds = λ samples runs separators w.
          rw c.piece_of-piece.ensures
          (window_next form c.args.self.now.form.length.least samples runs separators held c.args.self.now.offset
          c.args.self.now.current
          step w next);
      shows = λ samples runs separators w.
          rw (c.piece_of-piece.ensures, from)
          (shows_next form samples runs separators held c.args.self.now.offset c.args.self.now.current
          step.start w);
    }

pub returns-clause-sizes : goal.returns-clause-sizes
returns-clause-sizes c = λ next step.
    let held = c.args.self.now in
    let g = c.go_on.ensures in
    record {
      next = record { next = rw (g.next_places, g.next_words, g.next_count) step };
      shown = rw (g.shown_places, g.shown_words, c.start_of-self.ensures)
          (sized_cut held.samples.items (first_ungiven held.current) (frontier_of held.current) c.args.step.start
          held.sizes.next.count _ held.sizes.next.places.items held.sizes.next.words.items _
          (rw c.frontier_of.ensures refl) g.whole g.cut next.next);
    }

none_shown : (items : List ℤ) (offset next : ℕ) (current : Option RunToCut) → next ≤ frontier_of current
    → IsNone (piece_of offset current next) → slice_range items (first_ungiven current) next ≡ []
none_shown items offset next None within none = let zero : next ≡ 0 = omega arith in rw zero refl
none_shown items offset next (Some run) within none = cc

pub returns-clause-none : goal.returns-clause-none
returns-clause-none c = λ none.
    let before = c.requires.next.step.before in
    let frontier = c.requires.next.frontier in
    rw c.start_of-self.ensures (none_shown c.args.self.now.samples.items c.args.self.now.offset c.args.step.start
    c.args.self.now.current (omega arith) (rw c.piece_of-piece.ensures at none))
