use Rattle.std.proofs.Common.{Bool}
use Rattle.std.proofs.lemmas.Result.{err_from_is_err_and}
use Rattle.msr_replace.proofs.Quiet.{calm_stopped, calm_then, calm_told}
use Rattle.msr_replace.proofs.ways.end_folder.Goals as goal

pub returns-in_err-is_removed : goal.returns-in_err-is_removed
returns-in_err-is_removed g c =
    let p = err_from_is_err_and c.from_residual.result c.from_residual.ensures.1 in
    rw (p.1, p.2) (calm_stopped {A = Bool} {B = Unit {0}} _ _ _ c.in_err-is_removed.ensures)

pub returns-then-not-branch : goal.returns-then-not-branch
returns-then-not-branch g c = calm_told {A = Bool} {B = Unit {0}} _ _ _ _ c.in_ok-is_removed.ensures

pub returns-in_err-is_removed-2 : goal.returns-in_err-is_removed-2
returns-in_err-is_removed-2 g c =
    let p = err_from_is_err_and c.from_residual-in_err-is_removed-2.result c.from_residual-in_err-is_removed-2.ensures.1 in
    rw (p.1, p.2) (calm_then {A = Bool} {B = Unit {0}} _ _ _ _ _ c.in_ok-is_removed.ensures (calm_stopped {A = Bool} {B = Unit {0}} _ _ _ c.in_err-is_removed-2.ensures))

pub returns-then-not-branch-2 : goal.returns-then-not-branch-2
returns-then-not-branch-2 g c =
    calm_then {A = Bool} {B = Unit {0}} _ _ _ _ _ c.in_ok-is_removed.ensures (calm_told {A = Bool} {B = Unit {0}} _ _ _ _ c.in_ok-is_removed-2.ensures)

pub returns-in_err-is_removed-3 : goal.returns-in_err-is_removed-3
returns-in_err-is_removed-3 g c =
    let p = err_from_is_err_and c.from_residual-in_err-is_removed-3.result c.from_residual-in_err-is_removed-3.ensures.1 in
    rw (p.1, p.2) (calm_then {A = Bool} {B = Unit {0}} _ _ _ _ _ c.in_ok-is_removed.ensures (calm_then {A = Bool} {B = Unit {0}} _ _ _ _ _ c.in_ok-is_removed-2.ensures
    (calm_stopped {A = Bool} {B = Unit {0}} _ _ _ c.in_err-is_removed-3.ensures)))

pub returns-then-not-branch-3 : goal.returns-then-not-branch-3
returns-then-not-branch-3 g c =
    calm_then {A = Bool} {B = Unit {0}} _ _ _ _ _ c.in_ok-is_removed.ensures (calm_then {A = Bool} {B = Unit {0}} _ _ _ _ _ c.in_ok-is_removed-2.ensures
    (calm_told {A = Bool} {B = Unit {0}} _ _ _ _ c.in_ok-is_removed-3.ensures))

pub returns-in_err-is_removed-4 : goal.returns-in_err-is_removed-4
returns-in_err-is_removed-4 g c =
    let p = err_from_is_err_and c.from_residual-in_err-is_removed-4.result c.from_residual-in_err-is_removed-4.ensures.1 in
    rw (p.1, p.2) (calm_then {A = Bool} {B = Unit {0}} _ _ _ _ _ c.in_ok-is_removed.ensures (calm_then {A = Bool} {B = Unit {0}} _ _ _ _ _ c.in_ok-is_removed-2.ensures
    (calm_then {A = Bool} {B = Unit {0}} _ _ _ _ _ c.in_ok-is_removed-3.ensures (calm_stopped {A = Bool} {B = Unit {0}} _ _ _ c.in_err-is_removed-4.ensures))))

pub returns : goal.returns
returns g c =
    calm_then {A = Bool} {B = Unit {0}} _ _ _ _ _ c.in_ok-is_removed.ensures (calm_then {A = Bool} {B = Unit {0}} _ _ _ _ _ c.in_ok-is_removed-2.ensures
    (calm_then {A = Bool} {B = Unit {0}} _ _ _ _ _ c.in_ok-is_removed-3.ensures (calm_told {A = Bool} {B = Unit {0}} _ _ _ _ c.in_ok-is_removed-4.ensures)))
