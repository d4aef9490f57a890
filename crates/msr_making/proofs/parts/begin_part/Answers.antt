use Rattle.std.proofs.Common.{◌≡◌, rules}
use Rattle.msr_naming.proofs.Begun.{begun_again}
use Rattle.msr_making.proofs.parts.begin_part.Goals as goal

pub returns-clause-goes : goal.returns-clause-goes
returns-clause-goes g c =
    let path : c.as_str-path.result.now ≡ c.args.name.now.part = search rules in
    begun_again c.args.name.now.part g.T.Writer.Sink.device _ _ _ _ _ _ _ (rw path at c.make_part.ensures.goes) (rw path at c.remove.ensures) (rw path at c.make_part-2.ensures.goes)
