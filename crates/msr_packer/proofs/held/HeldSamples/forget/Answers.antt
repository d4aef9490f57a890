use Rattle.std.proofs.Common.{◌≡◌, ◌<◌, ◌-◌, ap, arith, length, length-drop, refl}
use Rattle.msr_packer.specs.HeldSamples.{HoldsNeeded, IsSound, first_ungiven, frontier_of}
use Rattle.msr_packer.specs.declared.held.HeldSamples.{HeldSamples}
use Rattle.msr_packer.proofs.Holding.{window_less}
use Rattle.msr_packer.proofs.ToldSizes.{none_sized, sized_less}
use Rattle.msr_words.specs.Fit.{records_of}
use Rattle.msr_packer.proofs.held.HeldSamples.forget.Goals as goal

-- if no samples are shown any more, and none are removed
shows_none : (held : HeldSamples) → IsSound held → HoldsNeeded held (record held {
  from = 0;
  to = 0;
  sizes = record held.sizes { shown = record held.sizes.shown { count = 0 } };
})
shows_none held sound = record {
  sound = record { number = sound.number; inside = sound.inside; order = omega arith; within = omega arith };
  holds = λ samples runs separators h. h;
  stays = λ stays. stays;
  form = refl;
  number = refl;
  sizes = λ knows. record {
    next = record { next = knows.next.next };
    shown = none_sized _ 0 0 0 held.sizes.shown.places.items held.sizes.shown.words.items refl;
  };
}

pub returns-clause-needed : goal.returns-clause-needed
returns-clause-needed c =
    let held = c.args.self.now in
    let inside = rw c.in-Some.is at c.requires.inside in
    let first = inside.before in
    let second = inside.on in
    let third = inside.within in
    let fourth = inside.short in
    let counted = c.requires.number in
    let value = c.unneeded-count.ensures in
    let start : first_ungiven c.args.self.now.current ≡ c.in-Some.current.start = ap first_ungiven c.in-Some.is in
    let end : frontier_of c.args.self.now.current ≡ c.in-Some.current.end = ap frontier_of c.in-Some.is in
    let some : 0 < c.unneeded-count.result = let never = c.if-count-eq0.false in grind arith in
    let items = ap length c.remove_front.ensures in
    let long = length-drop c.unneeded-count.result held.samples.items in
    record {
      sound = record {
        number = omega arith;
        inside = record { before = omega arith; on = omega arith; within = omega arith; short = omega arith };
        order = omega arith;
        within = omega arith;
      };
      holds = λ samples runs separators h.
          let w = rw c.in-Some.is at h in
          rw c.remove_front.ensures
          (window_less (records_of held.form) samples runs separators held.samples.items held.offset
          c.unneeded-count.result c.in-Some.current _ w (omega arith) (omega arith) (omega arith) (omega arith) refl refl);
      stays = λ stays.
          let before = rw c.in-Some.is at stays in
          let less : c.in-Some.current.end - c.unneeded-count.result < length c.remove_front.new.held.items = omega arith in
          less;
      form = refl;
      number = omega arith;
      sizes = λ knows. record {
        next = record {
          next = rw c.remove_front.ensures (sized_less held.samples.items c.unneeded-count.result
              (first_ungiven held.current) (frontier_of held.current) _ _ held.sizes.next.count held.sizes.next.places.items
              held.sizes.next.words.items (omega arith) (omega arith) (omega arith) knows.next.next);
        };
        shown = none_sized _ 0 0 0 held.sizes.shown.places.items held.sizes.shown.words.items refl;
      };
    }

pub returns-then-count-eq0-clause-needed : goal.returns-then-count-eq0-clause-needed
returns-then-count-eq0-clause-needed c = shows_none c.args.self.now c.requires

pub returns-in_default-clause-needed : goal.returns-in_default-clause-needed
returns-in_default-clause-needed c = shows_none c.args.self.now c.requires
