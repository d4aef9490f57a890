use Rattle.std.proofs.Common.{◌∙◌, ap, sym}
use Rattle.std.proofs.lemmas.Bool.{false≢true}
use Rattle.std.proofs.lemmas.Result.{err_from_is_err_and}
use Rattle.msr_devices.specs.ReadBuffer.{Window}
use Rattle.msr_devices.proofs.Filling.{fills, filled_already, filled_size, not_ready, room_within, window_size, window_within}
use Rattle.msr_devices.proofs.read_buffer.ReadBuffer.fill.Goals.{then-self-via-then-self, then-self-via-else-self+then-want-self}
use Rattle.msr_devices.proofs.read_buffer.ReadBuffer.fill.Goals as goal

pub returns-then-self-clause-filled : goal.returns-then-self-clause-filled
returns-then-self-clause-filled g c =
    let same = ap (λ (w : Window). w.ended) c.self.view_is in
    filled_already _ _ _ (λ going. elim c.then-self.branch [
      | then-self-via-then-self w ↦ absurd (false≢true (sym going ∙ sym same ∙ w.if-self.true))
      | then-self-via-else-self+then-want-self w ↦
          rw (window_size _ _ _ _ _ c.self.view_is c.self.invariant) w.if-want-self.true
    ])

pub returns-in_err-grow-clause-ready : goal.returns-in_err-grow-clause-ready
returns-in_err-grow-clause-ready g c = λ h.
    absurd (not_ready _ _ _ _ _ _ c.self.view_is c.self.invariant c.if-self.false c.if-want-self.false h)

pub invariant_of-self-in_err-self-inside : goal.invariant_of-self-in_err-self-inside
invariant_of-self-in_err-self-inside g c =
    window_within _ _ _ _ (c.read_until.auto.room ∙ c.as_mut_slice.ensures.len) c.read_until.ensures.within

pub returns-in_err-self-inside-clause-filled : goal.returns-in_err-self-inside-clause-filled
returns-in_err-self-inside-clause-filled g c =
    let p = err_from_is_err_and c.from_residual-in_err-self-inside.result
    c.from_residual-in_err-self-inside.ensures.1 in
    rw (p.1, p.2) (
      c.in_err-self-inside.ensures.failed,
      fills _ _ _ _ _ _ _ _ _ _ _ _ _ _ c.self.view_is c.self.invariant c.grow.ensures.least c.grow.ensures.keeps
          c.move_to_front.ensures.front c.move_to_front.ensures.size c.as_mut_slice.ensures.value
          c.as_mut_slice.ensures.len c.read_until.auto.room c.read_until.ensures.within c.read_until.ensures.onto
          c.read_until.ensures.short,
      ap (λ (w : Window). w.ended) (sym c.self.view_is) ∙ c.if-self.false,
      c.if-self.false,
      rw (filled_size _ _ _ _ (c.read_until.auto.room ∙ c.as_mut_slice.ensures.len) c.read_until.ensures.within)
          c.in_err-self-inside.ensures.fewer,
    )

pub returns-in_err-self-inside-clause-ready : goal.returns-in_err-self-inside-clause-ready
returns-in_err-self-inside-clause-ready g c = λ h.
    absurd (not_ready _ _ _ _ _ _ c.self.view_is c.self.invariant c.if-self.false c.if-want-self.false h)

pub returns-in_err-self-inside-clause-room : goal.returns-in_err-self-inside-clause-room
returns-in_err-self-inside-clause-room g c = rw (← ap (λ (w : Window). w.room) c.self.view_is) (room_within _ _ _ _ _ _
    c.grow.ensures.most c.move_to_front.ensures.size c.as_mut_slice.ensures.value c.as_mut_slice.ensures.len
    c.read_until.auto.room)

pub invariant_of-self-2 : goal.invariant_of-self-2
invariant_of-self-2 g c =
    window_within _ _ _ _ (c.read_until.auto.room ∙ c.as_mut_slice.ensures.len) c.read_until.ensures.within

pub returns-clause-filled : goal.returns-clause-filled
returns-clause-filled g c = record {
  fills = fills _ _ _ _ _ _ _ _ _ _ _ _ _ _ c.self.view_is c.self.invariant c.grow.ensures.least
      c.grow.ensures.keeps c.move_to_front.ensures.front c.move_to_front.ensures.size c.as_mut_slice.ensures.value
      c.as_mut_slice.ensures.len c.read_until.auto.room c.read_until.ensures.within c.read_until.ensures.onto
      c.read_until.ensures.short;
  stays = λ h. absurd (false≢true (sym c.if-self.false ∙ ap (λ (w : Window). w.ended) c.self.view_is ∙ h));
  enough = λ h.
      rw (filled_size _ _ _ _ (c.read_until.auto.room ∙ c.as_mut_slice.ensures.len) c.read_until.ensures.within)
      (c.in_ok-self-inside.ensures.enough h);
  end = λ b h. c.in_ok-self-inside.ensures.end h;
  calm = λ h. c.in_ok-self-inside.ensures.calm h;
  steady = c.in_ok-self-inside.ensures.steady;
}

pub returns-clause-ready : goal.returns-clause-ready
returns-clause-ready g c = λ h.
    absurd (not_ready _ _ _ _ _ _ c.self.view_is c.self.invariant c.if-self.false c.if-want-self.false h)

pub returns-clause-room : goal.returns-clause-room
returns-clause-room g c = rw (← ap (λ (w : Window). w.room) c.self.view_is) (room_within _ _ _ _ _ _
    c.grow.ensures.most c.move_to_front.ensures.size c.as_mut_slice.ensures.value c.as_mut_slice.ensures.len
    c.read_until.auto.room)
