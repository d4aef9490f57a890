use Rattle.std.proofs.Common.{refl, ◌≡◌, ◌+◌, ◌<◌, ◌∙◌, rules, arith, ap, sym, Bool, true, false, ℕ, List, [], ◌∷◌, length, Result, Err}
use Rattle.std.proofs.lemmas.Bool.{true≢false}
use Rattle.std.proofs.lemmas.Result.{err_from_is_err_and}
use Rattle.std.specs.Prelude.{◌==◌}
use Rattle.msr_header.proofs.ShownLemmas.{AreBytes}
use Rattle.msr_rows.specs.declared.fault.FaultKind.{FaultKind}
use Rattle.msr_rows.specs.declared.fault.FaultKind.TheVariants.{Memory}
use Rattle.msr_input.specs.Steps.{may_change}
use Rattle.msr_input.proofs.BytesAhead.{came_short, filled_none, filled_more, nearer, refused_short, room_none, room_more, room_found}
use Rattle.msr_input.proofs.SettledRefusals.{decoding_stops, none_held}
use Rattle.msr_input.proofs.step.read_record.Goals.{else-is_empty-via-then-is_empty+else-has_ended, else-is_empty-via-else-is_empty, then-has_ended-2-via-then-has_ended-2, then-has_ended-2-via-else-has_ended-2+then-not-may_change}
use Rattle.msr_input.proofs.step.read_record.Goals as goal

not_empty : (bytes : List ℕ) (empty : Bool) → empty ≡ (length bytes == 0) → empty ≡ false → 0 < length bytes
not_empty [] empty is none = absurd cc
not_empty (x ∷ xs) empty is none = omega arith

pub returns-then-has_ended-2-clause-refused : goal.returns-then-has_ended-2-clause-refused
returns-then-has_ended-2-clause-refused g c =
    let window = c.bytes.buffer in
    let are_now : AreBytes c.bytes-bytes.result.now = search rules in
    let are : AreBytes window.bytes = rw c.bytes-bytes.ensures at are_now in
    let wraps : c.in-Err.kind ≡ Memory → ◌≡◌ {A = Result g.row.F.Denot FaultKind} (Err c.in-Err.kind)
    (Err Memory) = λ e. ap (λ (kind : FaultKind). Err kind) e in
    let refused = rw c.bytes-bytes.ensures at c.in-Err.ensures.refused in
    let memory = rw c.bytes-bytes.ensures at c.in-Err.ensures.memory in
    let some : window.ended ≡ true → 0 < length window.bytes = λ ended. elim c.else-is_empty.branch [
      | else-is_empty-via-then-is_empty+else-has_ended w ↦
          absurd (true≢false (sym (w.has_ended.ensures ∙ ended) ∙ w.if-has_ended.false))
      | else-is_empty-via-else-is_empty w ↦ not_empty window.bytes c.is_empty.result
          (rw c.bytes-bytes.ensures at c.is_empty.ensures) w.if-is_empty.false
    ] in
    let decided : window.ended ≡ false → may_change c.in-Err.kind (length window.bytes) ≡ false =
    λ unended. elim c.then-has_ended-2.branch [
      | then-has_ended-2-via-then-has_ended-2 w ↦
          absurd (true≢false (sym w.if-has_ended-2.true ∙ (c.has_ended-in-bytes.ensures ∙ unended)))
      | then-has_ended-2-via-else-has_ended-2+then-not-may_change w ↦ rw c.bytes-bytes.ensures at
          (sym w.may_change.ensures.same ∙ w.if-not-may_change.true)
    ] in
    rw c.fault_at.ensures (decoding_stops g.F.FromRecord.takes c.args.strict window c.args.offset c.in-Err.kind are
    refused (λ e. memory (wraps e)) some decided)

pub bytes-init : goal.bytes-init
bytes-init g c = record {
  filled = filled_none (g.R.Source.device c.args.source.now) c.args.buffer.now;
  room = room_none c.args.buffer.now;
  unread = λ holds. record { source = refl; bytes = refl };
}

pub returns-in-Ok-clause-next : goal.returns-in-Ok-clause-next
returns-in-Ok-clause-next g c =
    let judged = rw c.bytes-bytes.ensures at c.in-Ok.ensures.found in
    record {
      judged = judged;
      room_is = room_found c.args.buffer.now.room c.bytes.buffer judged.found c.bytes.invariant.room judged.is_record;
    }

pub bytes-preserved : goal.bytes-preserved
bytes-preserved g c =
    let unended : c.bytes.buffer.ended ≡ false = sym c.has_ended-in-bytes.ensures ∙ c.if-has_ended-2.false in
    let more = c.in_ok-fill.ensures.filled in
    let at_hand = rw c.bytes-bytes.ensures at more in
    let none = none_held c.args.strict c.bytes.buffer.bytes c.in-Err.kind (length c.bytes-bytes.result.now)
    (sym c.may_change.ensures.same ∙ c.if-not-may_change.false) (rw c.bytes-bytes.ensures at c.in-Err.ensures.refused) in
    record {
      filled = filled_more (g.R.Source.device c.args.source.now) (g.R.Source.device c.bytes.source)
          (g.R.Source.device c.fill.new.source) c.args.buffer.now c.bytes.buffer c.fill.new.self 0
          (length c.bytes-bytes.result.now + 1) c.bytes.invariant.filled unended more;
      room = room_more c.args.buffer.now.room (g.R.Source.device c.bytes.source)
          (g.R.Source.device c.fill.new.source) c.bytes.buffer c.fill.new.self c.bytes.invariant.room none at_hand
          (rw c.bytes-bytes.ensures at c.fill.ensures.room);
      unread = λ holds. let same = c.bytes.invariant.unread holds in absurd (none (rw same.bytes holds));
    }

pub bytes-smaller : goal.bytes-smaller
bytes-smaller g c =
    let unended : c.bytes.buffer.ended ≡ false = sym c.has_ended-in-bytes.ensures ∙ c.if-has_ended-2.false in
    let filled = rw c.bytes-bytes.ensures at c.in_ok-fill.ensures.filled in
    nearer c.bytes.buffer.bytes c.fill.new.self.bytes filled.fills.onto.more c.bytes.buffer.ended c.fill.new.self.ended
    filled.fills.onto.whole unended (rw c.bytes-bytes.ensures at (c.may_change.ensures.short c.if-not-may_change.false))
    filled.enough

pub returns-in_err-fill-clause-came : goal.returns-in_err-fill-clause-came
returns-in_err-fill-clause-came g c =
    let p = err_from_is_err_and c.from_residual.result c.from_residual.ensures.1 in
    let unended : c.bytes.buffer.ended ≡ false = sym c.has_ended-in-bytes.ensures ∙ c.if-has_ended-2.false in
    rw (p.1, p.2) (came_short (g.R.Source.device c.args.source.now) (g.R.Source.device c.bytes.source)
    (g.R.Source.device c.fill.new.source) c.args.buffer.now c.bytes.buffer c.fill.new.self
    (length c.bytes-bytes.result.now
    + 1) c.in_err-fill.field-0.0 c.bytes.invariant.filled unended c.in_err-fill.ensures.filled)

pub returns-in_err-fill-clause-refused : goal.returns-in_err-fill-clause-refused
returns-in_err-fill-clause-refused g c =
    let p = err_from_is_err_and c.from_residual.result c.from_residual.ensures.1 in
    let at_hand = rw c.bytes-bytes.ensures at c.in_err-fill.ensures.filled in
    let none = none_held c.args.strict c.bytes.buffer.bytes c.in-Err.kind (length c.bytes-bytes.result.now)
    (sym c.may_change.ensures.same ∙ c.if-not-may_change.false) (rw c.bytes-bytes.ensures at c.in-Err.ensures.refused) in
    rw (p.1, p.2) (refused_short g.F.FromRecord.takes c.args.strict (g.R.Source.device c.bytes.source)
    (g.R.Source.device c.fill.new.source) c.bytes.buffer c.fill.new.self c.args.offset c.in_err-fill.field-0.0
    none at_hand)
