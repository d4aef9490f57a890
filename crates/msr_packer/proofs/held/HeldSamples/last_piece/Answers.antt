use Rattle.std.proofs.Common.{◌≡◌, ◌∙◌, arith, length, refl, subst}
use Rattle.msr_packer.specs.HeldSamples.{first_ungiven, frontier_of}
use Rattle.msr_packer.specs.Steps.{HaveSizes}
use Rattle.msr_packer.proofs.ToldSizes.{frontier_within, none_sized}
use Rattle.msr_packer.proofs.Holding.{ends_with, shows_next}
use Rattle.msr_words.specs.Fit.{records_of}
use Rattle.msr_packer.proofs.held.HeldSamples.last_piece.Goals as goal

pub piece_of-requires : goal.piece_of-requires
piece_of-requires c =
    let end : c.len-end.result ≡ length c.args.self.now.samples.items = c.len-end.ensures ∙ c.args.self.now.samples.ok.0 in
    record {
      records = records_of c.args.self.now.form;
      number = length c.args.self.now.samples.items;
      inside = c.requires.sound.inside;
      within = omega arith;
      counted = c.requires.sound.number;
    }

pub returns-clause-canonical : goal.returns-clause-canonical
returns-clause-canonical c = λ samples runs separators w.
    let end : c.len-end.result ≡ length c.args.self.now.samples.items = c.len-end.ensures ∙ c.args.self.now.samples.ok.0 in
    rw (c.piece_of.ensures, end)
    (ends_with (records_of c.args.self.now.form) samples runs separators c.args.self.now.samples.items
    c.args.self.now.offset c.args.self.now.current w c.requires.end)

pub returns-clause-shows : goal.returns-clause-shows
returns-clause-shows c = λ samples runs separators w.
    rw (c.piece_of.ensures, c.start_of-self.ensures)
    (shows_next (records_of c.args.self.now.form) samples runs separators c.args.self.now.samples.items
    c.args.self.now.offset c.args.self.now.current c.len-end.result w)

pub returns-clause-sizes : goal.returns-clause-sizes
returns-clause-sizes c = λ knows.
    let held = c.args.self.now in
    let g = c.go_on.ensures in
    let end : c.len-end.result ≡ length c.args.self.now.samples.items = c.len-end.ensures ∙ c.args.self.now.samples.ok.0 in
    let last : frontier_of c.args.self.now.current ≡ c.len-end.result =
    (let most = frontier_within (records_of held.form) held.current (length held.samples.items) c.requires.sound.inside in
    let least = c.requires.end in omega arith) in
    record {
      next = record {
        next = none_sized held.samples.items (first_ungiven held.current) (frontier_of held.current) _ _ _ g.next_count;
      };
      shown = rw (g.shown_places, g.shown_words, g.whole refl, c.start_of-self.ensures)
          (subst (λ n. HaveSizes held.samples.items (first_ungiven held.current) n held.sizes.next.count
          held.sizes.next.places.items held.sizes.next.words.items) last knows.next.next);
    }
