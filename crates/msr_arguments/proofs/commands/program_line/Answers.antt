use Rattle.std.proofs.Common.{◌≡◌, arith}
use Rattle.std.proofs.lemmas.List.{get_or_default}
use Rattle.clap.specs.Words.{app_of}
use Rattle.msr_arguments.proofs.Adding.{named_same, program_more}
use Rattle.msr_arguments.specs.Rules.{program_app, verbs}
use Rattle.msr_arguments.proofs.commands.program_line.Goals as goal

pub loop-verb-init : goal.loop-verb-init
loop-verb-init c = c.program_alone-command.ensures

pub loop-verb-preserved : goal.loop-verb-preserved
loop-verb-preserved c =
    program_more c.loop-verb.verb-index _ c.loop-verb.command c.in_ok-command.command c.loop-verb-test.true
    (get_or_default verbs c.loop-verb.verb-index _ _ c.loop-verb-test.true) c.loop-verb.invariant
    c.in_ok-command.ensures

pub returns : goal.returns
returns c =
    let all : c.loop-verb.verb-index ≡ 8 = omega (arith, c.loop-verb-test.false, c.loop-verb.auto.verb-index-end) in
    let whole : app_of c.loop-verb.command ≡ program_app = rw all at c.loop-verb.invariant in
    named_same _ _ _ _ _ whole c.bin_name.ensures
