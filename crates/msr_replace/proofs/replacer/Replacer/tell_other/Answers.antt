use Rattle.std.proofs.Common.{Some, None, refl}
use Rattle.msr_folders.proofs.WalkedLemmas.{on_ok_as}
use Rattle.msr_replace.specs.Said.{other_outcome}
use Rattle.msr_replace.proofs.Saying.{none_said}
use Rattle.msr_replace.proofs.replacer.Replacer.tell_other.Goals as goal

pub returns-in-Root-clause-told : goal.returns-in-Root-clause-told
returns-in-Root-clause-told g c =
    on_ok_as c.tell.result (λ told. record {
      outcome = Some (other_outcome c.args.kind c.args.fault);
      told = told;
      is = rw c.in-Root.is (c.args.fault, c.requires.other, refl);
    }) (rw c.other_outcome-outcome.ensures at c.tell.ensures.told)

pub returns-in-Out-clause-told : goal.returns-in-Out-clause-told
returns-in-Out-clause-told g c = record {
  outcome = None;
  told = none_said (g.O.Sink.device c.args.out.now) c.args.progress.now;
  is = rw c.in-Out.is refl;
}

pub returns-in-Aside-clause-told : goal.returns-in-Aside-clause-told
returns-in-Aside-clause-told g c = record {
  outcome = None;
  told = none_said (g.O.Sink.device c.args.out.now) c.args.progress.now;
  is = rw c.in-Aside.is refl;
}
