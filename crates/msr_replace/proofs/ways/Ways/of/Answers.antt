use Rattle.std.proofs.Common.{[]}
use Rattle.std.proofs.lemmas.Result.{err_from_is_err_and}
use Rattle.msr_tree.proofs.Acting.{stopped_as, then_stopped}
use Rattle.msr_replace.specs.Ways.{AreWays, IsWay}
use Rattle.msr_replace.specs.declared.ways.Way.{Way}
use Rattle.msr_replace.specs.declared.ways.Ways.{Ways}
use Rattle.msr_replace.proofs.Quiet.{Still, still_then}
use Rattle.msr_replace.proofs.ways.Ways.of.Goals as goal

pub returns-in_err-root : goal.returns-in_err-root
returns-in_err-root g c =
    let p = err_from_is_err_and c.from_residual.result c.from_residual.ensures.1 in
    rw (p.1, p.2) (stopped_as {A = Way} {B = Ways} [] (Still (IsWay c.args.work.now.root.now c.args.folder.now)) (Still (AreWays c.args.work.now c.args.folder.now)) _ _ _ c.in_err-root.ensures)

pub returns-in_err-out : goal.returns-in_err-out
returns-in_err-out g c =
    let p = err_from_is_err_and c.from_residual-in_err-out.result c.from_residual-in_err-out.ensures.1 in
    let folder = c.args.folder.now in
    let work = c.args.work.now in
    rw (p.1, p.2) (then_stopped {A = Way} {B = Way} {C = Ways} [] (Still (IsWay work.root.now folder)) (Still (IsWay work.out.now folder)) (Still (AreWays work folder)) c.in_ok-root.root _ _ _ _
    c.in_ok-root.ensures c.in_err-out.ensures)

pub returns-in_err-aside : goal.returns-in_err-aside
returns-in_err-aside g c =
    let p = err_from_is_err_and c.from_residual-in_err-aside.result c.from_residual-in_err-aside.ensures.1 in
    let folder = c.args.folder.now in
    let work = c.args.work.now in
    let both = still_then {A = Way} {B = Way} {C = Unit {0}} (IsWay work.root.now folder) (IsWay work.out.now folder) (λ past x. Unit {0}) c.in_ok-root.root _ _ _ c.in_ok-out.out tt (λ past one two. tt)
    c.in_ok-root.ensures c.in_ok-out.ensures in
    rw (p.1, p.2) (then_stopped {A = Unit {0}} {B = Way} {C = Ways} [] (Still (λ past x. Unit {0})) (Still (IsWay work.aside.now folder)) (Still (AreWays work folder)) tt _ _ _ _ both c.in_err-aside.ensures)

pub returns : goal.returns
returns g c =
    let folder = c.args.folder.now in
    let work = c.args.work.now in
    let root = c.in_ok-root.root in
    let out = c.in_ok-out.out in
    let aside = c.in_ok-aside.aside in
    let both = still_then {A = Way} {B = Way} {C = Unit {0}} (IsWay work.root.now folder) (IsWay work.out.now folder) (λ past x. IsWay work.root.now folder past root × IsWay work.out.now folder past out)
    root _ _ _ out tt (λ past one two. (one, two)) c.in_ok-root.ensures c.in_ok-out.ensures in
    still_then {A = Unit {0}} {B = Way} {C = Ways} (λ past x. IsWay work.root.now folder past root × IsWay work.out.now folder past out) (IsWay work.aside.now folder) (AreWays work folder)
    tt _ _ _ aside (record { root = root; out = out; aside = aside }) (λ past one two. record { root = one.0; out = one.1; aside = two }) both c.in_ok-aside.ensures
