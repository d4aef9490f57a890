-- The new part of the output is the record.
use Rattle.std.proofs.Common.{rules, Ok, Err, Result, ◌≡◌, length, take, ap, sym, ◌∙◌}
use Rattle.std.specs.Result.{OnErr}
use Rattle.std.proofs.lemmas.Result.{on_ok_weaker}
use Rattle.std.proofs.lemmas.List.{take_at}
use Rattle.msr_record.proofs.WritingLemmas.{appended_behind, filled_part}
use Rattle.msr_record.proofs.writing.encode_run.Goals as goal

pub returns-else-is_err-clause-appended : goal.returns-else-is_err-clause-appended
returns-else-is_err-clause-appended c =
    let part : length c.fill_record-filled.new.bytes ≡ c.bytes.result = search rules in
    let whole = filled_part _ _ _ _ _ _ _ _ c.len-end.ensures c.args.out.now.ok.0 c.in_ok-resize.ensures.items
    c.deref_mut.ensures.value part c.resize.new.self.ok.0 in
    on_ok_weaker c.fill_record-filled.result
    (λ alone. appended_behind _ _ _ _ _ _ _ _ _ _ whole alone) c.fill_record-filled.ensures

of_error : {T E P : Type 0} (r : Result T E) → P → OnErr r P
of_error (Ok x) p = tt
of_error (Err e) p = p

pub returns-then-is_err-clause-unchanged : goal.returns-then-is_err-clause-unchanged
returns-then-is_err-clause-unchanged c =
    let part : length c.fill_record-filled.new.bytes ≡ c.bytes.result = search rules in
    let whole = filled_part _ _ _ _ _ _ _ _ c.len-end.ensures c.args.out.now.ok.0 c.in_ok-resize.ensures.items
    c.deref_mut.ensures.value part c.resize.new.self.ok.0 in
    of_error c.fill_record-filled.result (c.truncate.ensures.items ∙ ap (take c.len-end.result) whole
    ∙ take_at _ c.fill_record-filled.new.bytes _ (sym c.args.out.now.ok.0 ∙ sym c.len-end.ensures))

pub returns-then-is_err-clause-appended : goal.returns-then-is_err-clause-appended
returns-then-is_err-clause-appended c = search rules

pub returns-else-is_err-clause-unchanged : goal.returns-else-is_err-clause-unchanged
returns-else-is_err-clause-unchanged c = search rules
