use Rattle.std.proofs.Common.{[], Option, ◌∷◌}
use Rattle.std.proofs.lemmas.Result.{err_from_is_err_and}
use Rattle.msr_tree.specs.declared.facts.Facts.{Facts}
use Rattle.msr_tree.specs.declared.facts.Time.{Time}
use Rattle.msr_tree.specs.Calls.{Looks}
use Rattle.msr_tree.proofs.Acting.{giving, goes_tells, stopped_as, told_as}
use Rattle.msr_exchange.specs.Moves.{Anything}
use Rattle.msr_exchange.proofs.Making.{begun_stopped, begun_then, ended_then, goes_ended, never_failed}
use Rattle.msr_exchange.proofs.preparing.make_note.Goals as goal

pub returns-in_err-writer : goal.returns-in_err-writer
returns-in_err-writer g c =
    let p = err_from_is_err_and c.from_residual.result c.from_residual.ensures.1 in
    let path = c.args.names.now.note_part in
    rw (p.1, p.2) (begun_stopped (path ∷ []) path (λ n none. none.0) g.T.Writer.Sink.device _ _ _ _ c.at.ensures c.in_err-writer.ensures.went)

pub returns-in_err-finish : goal.returns-in_err-finish
returns-in_err-finish g c =
    let p = err_from_is_err_and c.from_residual-in_err-finish.result c.from_residual-in_err-finish.ensures.1 in
    let path = c.args.names.now.note_part in
    let second = stopped_as {A = Unit {0}} {B = Option Time} (path ∷ []) _ (Anything {T = Option Time}) _ _ _ (goes_ended (path ∷ []) path (λ n none. none.0) {T = Unit {0}} (g.T.Writer.Sink.device c.in_ok-writer.writer) _ _ _ _ c.at-2.ensures c.in_err-finish.ensures) in
    rw (p.1, p.2) (begun_then (path ∷ []) path (λ n none. none.0) g.T.Writer.Sink.device _ c.in_ok-writer.writer _ _ _ _ c.at.ensures c.in_ok-writer.ensures.went second)

pub returns-in_err-noted : goal.returns-in_err-noted
returns-in_err-noted g c =
    let p = err_from_is_err_and c.from_residual-in_err-noted.result c.from_residual-in_err-noted.ensures.1 in
    let path = c.args.names.now.note_part in
    let third = stopped_as {A = Option Facts} {B = Option Time} (path ∷ []) _ (Anything {T = Option Time}) _ _ _ (goes_tells {T = Option Facts} (path ∷ []) (Looks c.at-3.result.now) _ _ _ c.in_err-noted.ensures) in
    let second = ended_then (path ∷ []) path (λ n none. none.0) (g.T.Writer.Sink.device c.in_ok-writer.writer) _ _ _ _ _ c.at-2.ensures c.in_ok-finish.ensures third in
    rw (p.1, p.2) (begun_then (path ∷ []) path (λ n none. none.0) g.T.Writer.Sink.device _ c.in_ok-writer.writer _ _ _ _ c.at.ensures c.in_ok-writer.ensures.went second)

pub returns : goal.returns
returns g c =
    let path = c.args.names.now.note_part in
    let third = told_as {A = Option Facts} {B = Option Time} (path ∷ []) (path ∷ []) _ (Anything {T = Option Time}) (giving c.in_ok-noted.noted) (giving c.map.result) _ _ (λ is. never_failed c.in_ok-noted.noted c.map.result is) (λ n none. none) (λ p q did changes. tt)
    (goes_tells {T = Option Facts} (path ∷ []) (Looks c.at-3.result.now) _ _ _ c.in_ok-noted.ensures) in
    let second = ended_then (path ∷ []) path (λ n none. none.0) (g.T.Writer.Sink.device c.in_ok-writer.writer) _ _ _ _ _ c.at-2.ensures c.in_ok-finish.ensures third in
    begun_then (path ∷ []) path (λ n none. none.0) g.T.Writer.Sink.device _ c.in_ok-writer.writer _ _ _ _ c.at.ensures c.in_ok-writer.ensures.went second
