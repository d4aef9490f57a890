use Rattle.msr_arguments.proofs.Asked.{trial_told}
use Rattle.msr_arguments.proofs.Parsed.{has_tried}
use Rattle.msr_arguments.proofs.dry_run.read_dry_run.Goals as goal

pub returns-in-Ok-clause-found : goal.returns-in-Ok-clause-found
returns-in-Ok-clause-found c = has_tried c.in_ok-dry_run_line.field-0 _ c.in_ok-dry_run_line.ensures c.in-Ok.ensures.parsed

pub returns-in-Err-clause-told : goal.returns-in-Err-clause-told
returns-in-Err-clause-told c =
    trial_told _ c.args.words.now c.in-Err.error _ c.in_ok-dry_run_line.ensures c.in-Err.ensures.kinds c.ending_of.ensures
