use Rattle.std.proofs.lemmas.Result.{err_from_is_err_and}
use Rattle.msr_command.proofs.Inputs.{goes_on, goes_so, makes_output, opens_only}
use Rattle.msr_command.proofs.files.create_output.Goals as goal

pub returns-in_err-file-clause-went : goal.returns-in_err-file-clause-went
returns-in_err-file-clause-went g c =
    let p = err_from_is_err_and c.from_residual.result c.from_residual.ensures.1 in
    rw (p.1, p.2) (goes_so (λ old new opens. opens_only c.args.name.now old new opens) c.open_uncut.ensures)

pub returns-then-eq-clause-went : goal.returns-then-eq-clause-went
returns-then-eq-clause-went g c =
    goes_so (λ old new opens. opens_only c.args.name.now old new opens) c.open_uncut.ensures

pub returns-then-eq-2-clause-went : goal.returns-then-eq-2-clause-went
returns-then-eq-2-clause-went g c =
    goes_so (λ old new opens. opens_only c.args.name.now old new opens) c.open_uncut.ensures

pub returns-clause-went : goal.returns-clause-went
returns-clause-went g c =
    goes_on (λ old between new opens cuts. makes_output c.args.name.now _ c.cut.result c.opened-2.result old between new
    c.opened-2.ensures.same opens cuts) c.open_uncut.ensures c.cut.ensures.went
