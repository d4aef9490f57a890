use Rattle.std.proofs.Common.{[], Option, subst}
use Rattle.std.proofs.lemmas.Result.{err_from_is_err_and}
use Rattle.msr_tree.proofs.Acting.{stopped_as, then_ok, then_stopped}
use Rattle.msr_folders.specs.Paths.{folder_of}
use Rattle.msr_replace.specs.Looks.{RefusesByWays}
use Rattle.msr_replace.specs.Ways.{IsWay}
use Rattle.msr_replace.specs.declared.answers.DayRefusal.{DayRefusal}
use Rattle.msr_replace.specs.declared.ways.Way.{Way}
use Rattle.msr_replace.proofs.Quiet.{Still}
use Rattle.msr_replace.proofs.ways.odd_way.Goals as goal

pub returns-in_err-root : goal.returns-in_err-root
returns-in_err-root g c =
    let p = err_from_is_err_and c.from_residual.result c.from_residual.ensures.1 in
    rw (p.1, p.2) (stopped_as {A = Way} {B = Option DayRefusal} [] (Still (IsWay c.args.work.now.root.now c.folder_of-folder.result.now)) (RefusesByWays c.args.work.now c.args.path.now) _ _ _ c.in_err-root.ensures)

pub returns-in_err-out : goal.returns-in_err-out
returns-in_err-out g c =
    let p = err_from_is_err_and c.from_residual-in_err-out.result c.from_residual-in_err-out.ensures.1 in
    let folder = c.folder_of-folder.result.now in
    rw (p.1, p.2) (then_stopped {A = Way} {B = Way} {C = Option DayRefusal} [] (Still (IsWay c.args.work.now.root.now folder)) (Still (IsWay c.args.work.now.out.now folder)) (RefusesByWays c.args.work.now c.args.path.now) c.in_ok-root.root _ _ _ _ c.in_ok-root.ensures c.in_err-out.ensures)

pub returns : goal.returns
returns g c =
    let folder = c.folder_of-folder.result.now in
    then_ok {A = Way} {B = Way} {C = Option DayRefusal} [] (Still (IsWay c.args.work.now.root.now folder)) (Still (IsWay c.args.work.now.out.now folder)) (RefusesByWays c.args.work.now c.args.path.now) c.in_ok-root.root c.in_ok-out.out _ _ _ _ (λ p q r a b x y. (c.in_ok-root.root, c.in_ok-out.out, rw c.folder_of-folder.ensures at a.1, subst (λ l. IsWay c.args.work.now.out.now (folder_of c.args.path.now) l c.in_ok-out.out) a.0 (rw c.folder_of-folder.ensures at b.1), c.refusal_of_ways.ensures)) c.in_ok-root.ensures c.in_ok-out.ensures
