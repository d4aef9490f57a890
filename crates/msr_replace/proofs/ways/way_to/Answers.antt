use Rattle.std.proofs.Common.{◌≡◌, ◌∙◌, [], Option, ap, refl, subst}
use Rattle.std.proofs.lemmas.Result.{err_from_is_err_and}
use Rattle.msr_folders.specs.Paths.{folder_of, joined}
use Rattle.msr_tree.specs.declared.facts.Kind.{Kind}
use Rattle.msr_tree.proofs.Acting.{stopped_as, then_stopped}
use Rattle.msr_replace.specs.Ways.{IsKindFound, IsWay}
use Rattle.msr_replace.specs.declared.ways.Way.{Way}
use Rattle.msr_replace.proofs.Quiet.{Still, still_then}
use Rattle.msr_replace.proofs.ways.way_to.Goals as goal

pub returns-in_err-first : goal.returns-in_err-first
returns-in_err-first g c =
    let p = err_from_is_err_and c.from_residual.result c.from_residual.ensures.1 in
    let top = c.args.top.now in
    rw (p.1, p.2) (stopped_as {A = Option Kind} {B = Way} [] (Still (IsKindFound (joined top c.folder_of-year.result.now))) (Still (IsWay top c.args.folder.now)) _ _ _ c.in_err-first.ensures)

pub returns-in_err-second : goal.returns-in_err-second
returns-in_err-second g c =
    let p = err_from_is_err_and c.from_residual-in_err-second.result c.from_residual-in_err-second.ensures.1 in
    let top = c.args.top.now in
    rw (p.1, p.2) (then_stopped {A = Option Kind} {B = Option Kind} {C = Way} [] (Still (IsKindFound (joined top c.folder_of-year.result.now))) (Still (IsKindFound (joined top c.folder_of-network.result.now)))
    (Still (IsWay top c.args.folder.now)) c.in_ok-first.first _ _ _ _ c.in_ok-first.ensures c.in_err-second.ensures)

pub returns-in_err-third : goal.returns-in_err-third
returns-in_err-third g c =
    let p = err_from_is_err_and c.from_residual-in_err-third.result c.from_residual-in_err-third.ensures.1 in
    let top = c.args.top.now in
    let both = still_then {A = Option Kind} {B = Option Kind} {C = Unit {0}} (IsKindFound (joined top c.folder_of-year.result.now)) (IsKindFound (joined top c.folder_of-network.result.now)) (λ past x. Unit {0})
    c.in_ok-first.first _ _ _ c.in_ok-second.second tt (λ past one two. tt) c.in_ok-first.ensures c.in_ok-second.ensures in
    rw (p.1, p.2) (then_stopped {A = Unit {0}} {B = Option Kind} {C = Way} [] (Still (λ past x. Unit {0})) (Still (IsKindFound (joined top c.folder_of-station.result.now)))
    (Still (IsWay top c.args.folder.now)) tt _ _ _ _ both c.in_err-third.ensures)

pub returns-in_err-last : goal.returns-in_err-last
returns-in_err-last g c =
    let p = err_from_is_err_and c.from_residual-in_err-last.result c.from_residual-in_err-last.ensures.1 in
    let top = c.args.top.now in
    let both = still_then {A = Option Kind} {B = Option Kind} {C = Unit {0}} (IsKindFound (joined top c.folder_of-year.result.now)) (IsKindFound (joined top c.folder_of-network.result.now)) (λ past x. Unit {0})
    c.in_ok-first.first _ _ _ c.in_ok-second.second tt (λ past one two. tt) c.in_ok-first.ensures c.in_ok-second.ensures in
    let three = still_then {A = Unit {0}} {B = Option Kind} {C = Unit {0}} (λ past x. Unit {0}) (IsKindFound (joined top c.folder_of-station.result.now)) (λ past x. Unit {0})
    tt _ _ _ c.in_ok-third.third tt (λ past one two. tt) both c.in_ok-third.ensures in
    rw (p.1, p.2) (then_stopped {A = Unit {0}} {B = Option Kind} {C = Way} [] (Still (λ past x. Unit {0})) (Still (IsKindFound (joined top c.args.folder.now)))
    (Still (IsWay top c.args.folder.now)) tt _ _ _ _ three c.in_err-last.ensures)

pub returns : goal.returns
returns g c =
    let top = c.args.top.now in
    let first = c.in_ok-first.first in
    let second = c.in_ok-second.second in
    let third = c.in_ok-third.third in
    let last = c.in_ok-last.last in
    let network : c.folder_of-network.result.now ≡ folder_of (folder_of c.args.folder.now) = c.folder_of-network.ensures ∙ ap folder_of c.folder_of-station.ensures in
    let year : c.folder_of-year.result.now ≡ folder_of (folder_of (folder_of c.args.folder.now)) = c.folder_of-year.ensures ∙ ap folder_of network in
    let One = IsKindFound (joined top c.folder_of-year.result.now) in
    let Two = IsKindFound (joined top c.folder_of-network.result.now) in
    let Three = IsKindFound (joined top c.folder_of-station.result.now) in
    let both = still_then {A = Option Kind} {B = Option Kind} {C = Unit {0}} One Two (λ past x. One past first × Two past second)
    first _ _ _ second tt (λ past one two. (one, two)) c.in_ok-first.ensures c.in_ok-second.ensures in
    let three = still_then {A = Unit {0}} {B = Option Kind} {C = Unit {0}} (λ past x. One past first × Two past second) Three (λ past x. One past first × Two past second × Three past third)
    tt _ _ _ third tt (λ past one two. (one.0, one.1, two)) both c.in_ok-third.ensures in
    still_then {A = Unit {0}} {B = Option Kind} {C = Way} (λ past x. One past first × Two past second × Three past third) (IsKindFound (joined top c.args.folder.now)) (IsWay top c.args.folder.now)
    tt _ _ _ last _ (λ past one two. record {
      year = first;
      network = second;
      station = third;
      channel = last;
      year_is = subst (λ n. IsKindFound (joined top n) past first) year one.0;
      network_is = subst (λ n. IsKindFound (joined top n) past second) network one.1;
      station_is = subst (λ n. IsKindFound (joined top n) past third) c.folder_of-station.ensures one.2;
      channel_is = two;
      is = rw (c.further-3.ensures, c.further-2.ensures, c.further-way.ensures, c.further.ensures) refl;
    }) three c.in_ok-last.ensures
