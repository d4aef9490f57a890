use Rattle.std.proofs.Common.{◌∙◌, ap, true}
use Rattle.clap.specs.Simple.{App, app_of_fields}
use Rattle.msr_arguments.proofs.commands.program_alone.Goals as goal

pub returns : goal.returns
returns c =
    ap app_of_fields c.subcommand_required.ensures
    ∙ ap (λ (app : App). record app { top = record app.top { subcommand_required = true } })
    (ap app_of_fields c.version.ensures
    ∙ ap (λ (app : App). record app { top = record app.top { has_version = true } }) c.titled.ensures)
