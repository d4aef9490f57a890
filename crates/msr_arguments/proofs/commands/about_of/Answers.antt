use Rattle.std.proofs.Common.{ap, sym}
use Rattle.msr_arguments.specs.Rules.{rules_of}
use Rattle.msr_arguments.proofs.commands.about_of.Goals as goal

pub returns-in-Repack : goal.returns-in-Repack
returns-in-Repack c = sym (ap rules_of c.in-Repack.is)

pub returns-in-List : goal.returns-in-List
returns-in-List c = sym (ap rules_of c.in-List.is)

pub returns-in-Check : goal.returns-in-Check
returns-in-Check c = sym (ap rules_of c.in-Check.is)

pub returns-in-Compare : goal.returns-in-Compare
returns-in-Compare c = sym (ap rules_of c.in-Compare.is)

pub returns-in-Archive : goal.returns-in-Archive
returns-in-Archive c = sym (ap rules_of c.in-Archive.is)

pub returns-in-Verify : goal.returns-in-Verify
returns-in-Verify c = sym (ap rules_of c.in-Verify.is)

pub returns-in-Replace : goal.returns-in-Replace
returns-in-Replace c = sym (ap rules_of c.in-Replace.is)

pub returns-in-Feed : goal.returns-in-Feed
returns-in-Feed c = sym (ap rules_of c.in-Feed.is)
