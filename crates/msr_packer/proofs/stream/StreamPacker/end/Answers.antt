use Rattle.std.proofs.Common.{◌+◌, ◌++◌, ◌≤◌, ap, append_assoc, arith, inl, inr, length}
use Rattle.std.proofs.lemmas.Bool.{cases_lt}
use Rattle.std.proofs.lemmas.List.{map-append}
use Rattle.msr_packer.specs.HeldSamples.{first_ungiven, frontier_of, pieces_of, runs_of, separators_of}
use Rattle.msr_packer.specs.declared.held.Piece.{Piece}
use Rattle.msr_packer.proofs.Holding.{leaves}
use Rattle.msr_packer.proofs.InBlocks.{holds_in}
use Rattle.msr_packer.proofs.Streaming.{growing_run}
use Rattle.msr_words.specs.Fit.{records_of}
use Rattle.msr_packer.proofs.stream.StreamPacker.end.Goals as goal

pub last_piece-last-requires-clause-end : goal.last_piece-last-requires-clause-end
last_piece-last-requires-clause-end c =
    let held = c.self.inside.held in
    let t = c.self.invariant in
    let e = c.step_past-first.ensures in
    let same = ap length e.given.held in
    let order = e.order in
    elim (cases_lt (frontier_of held.current) (length held.samples.items)) as
    (λ _. length c.step_past-first.new.self.samples.items ≤ frontier_of c.step_past-first.new.self.current) [
      | inl more ↦
          let run = growing_run (records_of held.form) held.samples.items (frontier_of held.current)
          (length held.samples.items) c.self.inside.growing (omega arith) t.is_growing in
          let far = e.furthest c.self.inside.growing.start (length held.samples.items) t.is_growing.before
          (omega arith) run in
          omega arith
      | inr done ↦ omega arith
    ]

pub returns : goal.returns
returns c = λ records samples runs separators s.
    let held = c.self.inside.held in
    let q = (rw (← c.self.view_is) at s).packs in
    let l = leaves records samples runs separators held.samples.items held.offset held.current q.holds in
    let g = c.step_past-first.ensures.given in
    let first = pieces_of c.step_past-first.result in
    let last = pieces_of c.last_piece-last.result in
    let canonical = c.last_piece-last.ensures.canonical samples (runs ++ runs_of first)
    (separators ++ separators_of first) (g.holds samples runs separators
    (holds_in records samples runs separators held q.of_form q.holds)) in
    record {
      canonical = rw (
        c.both.ensures,
        map-append (λ (p : Piece). p.run) first last,
        map-append (λ (p : Piece). p.separator) first last,
        ← append_assoc runs (runs_of first) (runs_of last),
        ← append_assoc separators (separators_of first) (separators_of last),
      )
          (rw (g.form, q.of_form) at canonical);
      given = held.offset + first_ungiven held.current;
      joined = l.joined;
      from_there = rw (c.remove_front.ensures, c.last_piece-last.ensures.same.held, g.held, c.start_of-start.ensures)
          l.from_there;
    }
