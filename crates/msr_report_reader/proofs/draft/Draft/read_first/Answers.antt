use Rattle.std.proofs.Common.{refl, ◌++◌}
use Rattle.msr_report_reader.proofs.Steps.{first_step, first_fault, refused}
use Rattle.msr_report_reader.proofs.draft.Draft.read_first.Goals as goal

pub returns-in-Ok : goal.returns-in-Ok
returns-in-Ok c = λ expected.
    first_step c.args.self.now _ c.in-Ok.first c.args.text.now c.in-Ok.rest.now _ expected refl refl refl
    c.in-Ok.ensures.is_first c.in-Ok.ensures.found refl

pub returns-in-Err : goal.returns-in-Err
returns-in-Err c = λ expected.
    refused c.args.self.now c.args.self.now c.args.text.now c.in-Err.field-0.begins c.in-Err.field-0.text.now c.in-Err.field-0.line
    c.refuse.result refl
    (λ past more follows enough. first_fault c.args.self.now past (c.args.text.now ++ more) c.in-Err.field-0.line
    expected follows (c.in-Err.ensures.fault more enough)) c.refuse.ensures
