use Rattle.std.proofs.lemmas.Result.{err_from_is_err_and}
use Rattle.std.proofs.Common.{refl}
use Rattle.msr_folders.proofs.VisitLemmas.{part_line}
use Rattle.msr_replace.specs.Entries.{IsExchangeEntry, IsExchangeEntryLine, entry_of}
use Rattle.msr_replace.proofs.LinesTold.{none_told}
use Rattle.msr_replace.proofs.visitor.print.Goals as goal

pub returns-in_err-line-clause-stops : goal.returns-in_err-line-clause-stops
returns-in_err-line-clause-stops g c =
    let p = err_from_is_err_and c.from_residual.result c.from_residual.ensures.1 in
    λ is. rw (p.1, p.2) (none_told (g.O.Sink.device c.args.out.now))

pub returns-in_err-write_all-clause-stops : goal.returns-in_err-write_all-clause-stops
returns-in_err-write_all-clause-stops g c =
    let p = err_from_is_err_and c.from_residual-in_err-write_all.result c.from_residual-in_err-write_all.ensures.1 in
    let part = c.in_err-write_all.ensures.part in
    λ is. rw (p.1, p.2) (
      part_line IsExchangeEntry IsExchangeEntryLine _ _ part.0 (entry_of c.args.path.now c.args.outcome) c.as_bytes.result.now is
          (rw c.as_bytes.ensures.value c.in_ok-line.ensures) part.1,
      c.in_err-write_all.ensures.failed,
    )

pub returns-clause-printed : goal.returns-clause-printed
returns-clause-printed g c = record {
  line = c.as_bytes.result.now;
  is_line = rw c.as_bytes.ensures.value c.in_ok-line.ensures;
  takes = c.in_ok-write_all.ensures.all;
  calm = c.in_ok-write_all.ensures.calm;
}

pub returns-clause-counted : goal.returns-clause-counted
returns-clause-counted g c = λ before h. c.add.ensures before (entry_of c.args.path.now c.args.outcome) h refl
