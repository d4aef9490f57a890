use Rattle.std.proofs.Common.{refl}
use Rattle.msr_compare.proofs.ComparedInputs.{answered_finished, answered_one, answered_refused, answered_same, drained_readable}
use Rattle.msr_compare.proofs.Draining.{has_begun, unseen}
use Rattle.msr_compare.proofs.comparing.answer.Goals as goal

pub returns-in-Ok-None : goal.returns-in-Ok-None
returns-in-Ok-None g c = λ begun settings h.
    let m = rw c.in-Ok-None.field-0-is at (c.in-Ok-None.ensures.met begun settings _ _ h) in
    rw (c.tally-first.ensures, c.tally-second.ensures)
    (answered_same _ settings _ _ _ _ c.agree.ensures.few_one c.agree.ensures.few_other m)

pub drain-requires : goal.drain-requires
drain-requires g c =
    let b = c.requires.begins in
    let m = rw c.in-Ok-Some.field-0-is at (c.in-Ok-Some.ensures.met _ b.settings _ _ b.taken) in
    has_begun m.fetched.taken.one_taken c.requires.one

pub drain-requires-in-Ok-Some : goal.drain-requires-in-Ok-Some
drain-requires-in-Ok-Some g c =
    let b = c.requires.begins in
    let m = rw c.in-Ok-Some.field-0-is at (c.in-Ok-Some.ensures.met _ b.settings _ _ b.taken) in
    has_begun m.fetched.taken.other_taken c.requires.other

pub returns-in-Err : goal.returns-in-Err
returns-in-Err g c = λ begun settings h.
    let t = (rw c.in-Ok-Some.field-0-is at (c.in-Ok-Some.ensures.met begun settings _ _ h)).fetched.taken in
    answered_one _ settings _ _ _ _ (c.in-Err.ensures.few settings _ t.done (unseen t.one_taken)) c.agree.ensures.few_other
    c.in-Err.fault (c.in-Err.ensures.drained begun settings _ t.done t.one_taken) t.other_taken.read.came.steady

pub returns-in-Err-drain : goal.returns-in-Err-drain
returns-in-Err-drain g c = λ begun settings h.
    let m = rw c.in-Ok-Some.field-0-is at (c.in-Ok-Some.ensures.met begun settings _ _ h) in
    let t = m.fetched.taken in
    let d = c.in_default.ensures.drained begun settings _ t.done t.one_taken in
    answered_finished _ settings _ _ _ _ (c.in_default.ensures.few settings _ t.done (unseen t.one_taken))
    (c.in-Err-drain.ensures.few settings _ t.done t.other_taken) _ m
    (c.in-Err-drain.ensures.drained tt settings _ t.done t.other_taken, d.steady, drained_readable d)

pub returns-in_default-drain : goal.returns-in_default-drain
returns-in_default-drain g c = λ begun settings h.
    let m = rw c.in-Ok-Some.field-0-is at (c.in-Ok-Some.ensures.met begun settings _ _ h) in
    let t = m.fetched.taken in
    answered_finished _ settings _ _ _ _ (c.in_default.ensures.few settings _ t.done (unseen t.one_taken))
    (c.in_default-drain.ensures.few settings _ t.done t.other_taken) _ m (record {
      told = refl;
      one_drained = c.in_default.ensures.drained begun settings _ t.done t.one_taken;
      other_drained = c.in_default-drain.ensures.drained tt settings _ t.done t.other_taken;
    })

pub returns-in-Err-One : goal.returns-in-Err-One
returns-in-Err-One g c = λ begun settings h.
    let m = rw c.in-Err-One.field-0-is at (c.in-Err-One.ensures.met begun settings _ _ h) in
    answered_one _ settings _ _ _ _ c.agree.ensures.few_one c.agree.ensures.few_other c.in-Err-One.why m.0 m.1

pub refuse-requires : goal.refuse-requires
refuse-requires g c =
    let b = c.requires.begins in
    let m = rw c.in-Err-Other.field-0-is at (c.in-Err-Other.ensures.met _ b.settings _ _ b.taken) in
    has_begun m.1.taken c.requires.one

pub returns-in-Err-Other : goal.returns-in-Err-Other
returns-in-Err-Other g c = λ begun settings h.
    let m = rw c.in-Err-Other.field-0-is at (c.in-Err-Other.ensures.met begun settings _ _ h) in
    answered_refused _ settings _ _ _ _ (c.refuse.ensures.few settings _ m.1.done (unseen m.1.taken)) c.agree.ensures.few_other
    c.in-Err-Other.why c.refuse.result m.0 (c.refuse.ensures.refused begun settings _ m.1.done m.1.taken)
