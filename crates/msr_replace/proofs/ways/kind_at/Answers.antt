use Rattle.std.proofs.Common.{◌≡◌, [], Option, refl, rules, subst}
use Rattle.std.proofs.lemmas.Result.{err_from_is_err_and}
use Rattle.msr_folders.specs.Paths.{joined}
use Rattle.msr_tree.specs.Calls.{Looks}
use Rattle.msr_tree.specs.declared.facts.Facts.{Facts}
use Rattle.msr_tree.specs.declared.facts.Kind.{Kind}
use Rattle.msr_tree.proofs.Acting.{giving, goes_tells, stopped_as, told_as}
use Rattle.msr_exchange.proofs.Making.{goes_none}
use Rattle.msr_replace.specs.Ways.{IsKindFound}
use Rattle.msr_replace.proofs.Quiet.{Still}
use Rattle.msr_replace.proofs.ways.kind_at.Goals as goal

pub returns-in_err-place : goal.returns-in_err-place
returns-in_err-place g c =
    let p = err_from_is_err_and c.from_residual.result c.from_residual.ensures.1 in
    rw (p.1, p.2) (goes_none {T = Option Kind} [] (Still (IsKindFound (joined c.args.top.now c.args.folder.now))) _)

pub returns-in_err-found : goal.returns-in_err-found
returns-in_err-found g c =
    let p = err_from_is_err_and c.from_residual-in_err-found.result c.from_residual-in_err-found.ensures.1 in
    rw (p.1, p.2) (stopped_as {A = Option Facts} {B = Option Kind} [] (Still (Looks c.as_str.result.now)) (Still (IsKindFound (joined c.args.top.now c.args.folder.now))) _ _ _
    (goes_tells {T = Option Facts} [] (Looks c.as_str.result.now) _ _ _ c.in_err-found.ensures))

pub returns : goal.returns
returns g c =
    let found = c.in_ok-found.found in
    let path : c.as_str.result.now ≡ joined c.args.top.now c.args.folder.now = rw (c.as_str.ensures.value, c.in_ok-place.ensures) refl in
    told_as {A = Option Facts} {B = Option Kind} [] [] (Still (Looks c.as_str.result.now)) (Still (IsKindFound (joined c.args.top.now c.args.folder.now))) (giving found) (giving _) _ _ (λ is. cc) (λ n none. none)
    (λ p q did changes. (did.0, (found, subst (λ n. Looks n p found) path did.1, search rules)))
    (goes_tells {T = Option Facts} [] (Looks c.as_str.result.now) _ _ _ c.in_ok-found.ensures)
