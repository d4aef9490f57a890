use Rattle.std.proofs.Common.{◌≡◌, ◌++◌, ◌∷◌, [], ◌∙◌, length, arith, refl, ap, append-nil, length-append, false, to_z-of_z}
use Rattle.std.proofs.lemmas.Result.{err_from_is_err_and}
use Rattle.msr_packer.specs.HeldSamples.{Stays, frontier_of}
use Rattle.msr_packer.specs.declared.held.HeldSamples.{HeldSamples}
use Rattle.msr_packer.proofs.Holding.{shown_if_any, sound_more, stays_at, stays_more}
use Rattle.msr_packer.proofs.InBlocks.{holds_in, packs_held, packs_next, packs_pushed}
use Rattle.msr_packer.proofs.Streaming.{growing_few, growing_more}
use Rattle.msr_words.specs.Fit.{records_of}
use Rattle.msr_packer.proofs.stream.StreamPacker.push.Goals as goal

pub returns-in_err-extend_from_slice-clause-given : goal.returns-in_err-extend_from_slice-clause-given
returns-in_err-extend_from_slice-clause-given c = λ records before runs separators s.
    let e = err_from_is_err_and c.from_residual.result c.from_residual.ensures.1 in
    let items = c.in_err-extend_from_slice.ensures.items in
    let own = c.self.inside.held in
    let held = c.forget.new.held in
    let t = c.forget.ensures.streaming in
    let q = packs_held records before runs separators own held false c.forget.ensures.needed
    (rw (← c.self.view_is) at s).packs in
    rw e.1 (record {
      packs = record { of_form = q.of_form; holds = rw items q.holds; stays = rw items q.stays; goes_on = q.goes_on };
      behind = rw items c.forget.ensures.behind;
      few = rw items t.few;
    })

pub decide-requires-clause-growing : goal.decide-requires-clause-growing
decide-requires-clause-growing c =
    let held = c.forget.new.held in
    let items = rw (to_z-of_z c.ranges.sample) at c.in_ok-extend_from_slice.ensures.items in
    let from : c.len-from.result ≡ length held.samples.items = c.len-from.ensures ∙ held.samples.ok.0 in
    let more = growing_more (records_of held.form) held.samples.items (c.args.sample ∷ [])
    (frontier_of held.current) (length held.samples.items) c.forget.new.growing
    (omega arith) c.forget.ensures.streaming.is_growing in
    rw (c.as_slice-seen.ensures.value, items, c.frontier_of-frontier.ensures, from) more

pub returns-in_default-clause-given : goal.returns-in_default-clause-given
returns-in_default-clause-given c = λ records before runs separators s.
    let own = c.self.inside.held in
    let held = c.forget.new.held in
    let t = c.forget.ensures.streaming in
    let items = rw (to_z-of_z c.ranges.sample) at c.in_ok-extend_from_slice.ensures.items in
    let new : HeldSamples = record held { samples = c.extend_from_slice.new.self } in
    let m = packs_pushed records before runs separators own held new (c.args.sample ∷ []) false
    c.forget.ensures.needed refl refl refl items (rw (← c.self.view_is) at s).packs in
    let growing = rw (c.as_slice-seen.ensures.value, c.frontier_of-frontier.ensures) at c.in_default.ensures.open refl
    in
    let behind = growing_few (records_of held.form) new.samples.items
    (frontier_of held.current) c.decide.new.self growing in
    let near = c.forget.ensures.near in
    rw (append-nil runs, append-nil separators) (record { packs = m; behind = behind; few = omega arith })

pub invariant_of-self-in_default : goal.invariant_of-self-in_default
invariant_of-self-in_default c =
    let held = c.forget.new.held in
    let t = c.forget.ensures.streaming in
    let more = c.args.sample ∷ [] in
    let items = rw (to_z-of_z c.ranges.sample) at c.in_ok-extend_from_slice.ensures.items in
    let new : HeldSamples = record held { samples = c.extend_from_slice.new.self } in
    let growing = rw (c.as_slice-seen.ensures.value, c.frontier_of-frontier.ensures) at c.in_default.ensures.open refl
    in
    let behind = growing_few (records_of held.form) new.samples.items
    (frontier_of held.current) c.decide.new.self growing in
    let near = c.forget.ensures.near in
    let number = c.forget.ensures.needed.number in
    let allowed = rw (← c.self.view_is) at c.requires in
    let all = ap length items in
    let whole = length-append held.samples.items (c.args.sample ∷ []) in
    record {
      sound = sound_more held new more t.sound refl refl refl refl items (omega arith);
      stays = rw items (stays_more held.samples.items more held.current t.stays);
      is_growing = growing;
      few = omega arith;
    }

pub go_on-requires-clause-sound : goal.go_on-requires-clause-sound
go_on-requires-clause-sound c =
    let held = c.forget.new.held in
    let items = rw (to_z-of_z c.ranges.sample) at c.in_ok-extend_from_slice.ensures.items in
    let all = ap length items in
    let number = c.forget.ensures.needed.number in
    let allowed = rw (← c.self.view_is) at c.requires in
    let whole = length-append held.samples.items (c.args.sample ∷ []) in
    sound_more held _ (c.args.sample ∷ []) c.forget.ensures.streaming.sound refl refl refl refl items (omega arith)

pub returns-clause-given : goal.returns-clause-given
returns-clause-given c = λ records before runs separators s.
    let own = c.self.inside.held in
    let held = c.forget.new.held in
    let t = c.forget.ensures.streaming in
    let found = c.in-Some.found in
    let d = rw (c.as_slice-seen.ensures.value, c.frontier_of-frontier.ensures) at c.in-Some.ensures.decided in
    let last = d.before_last in
    let items = rw (to_z-of_z c.ranges.sample) at c.in_ok-extend_from_slice.ensures.items in
    let mid : HeldSamples = record held { samples = c.extend_from_slice.new.self } in
    let m = packs_pushed records before runs separators own held mid (c.args.sample ∷ []) false c.forget.ensures.needed
    refl refl refl items (rw (← c.self.view_is) at s).packs in
    let g = c.go_on.ensures in
    let end : frontier_of c.go_on.new.self.current ≡ found.step.end = ap frontier_of g.current
    ∙ c.of-next.ensures.end in
    let stays : Stays c.go_on.new.self.current (length mid.samples.items) =
    stays_at c.go_on.new.self.current (length mid.samples.items) found.step.end end (omega arith) in
    let n = packs_next records (before ++ c.args.sample ∷ []) runs separators mid c.go_on.new.self false
    c.go_on.result g.given (λ _. stays) m in
    let growing = rw (c.as_slice-seen.ensures.value, c.of-next.ensures.end) at c.first-self-inside.ensures in
    let behind = growing_few (records_of held.form) mid.samples.items found.step.end
    c.first-self-inside.result growing in
    let same = ap length g.given.held in
    let near = c.forget.ensures.near in
    let all = ap length items in
    let before' = c.forget.ensures.behind in
    let whole = length-append held.samples.items (c.args.sample ∷ []) in
    record {
      packs = n;
      behind = rw g.given.form (omega arith);
      few = rw g.given.form (omega arith);
    }

pub returns-clause-shown : goal.returns-clause-shown
returns-clause-shown c = λ records before runs separators s.
    let own = c.self.inside.held in
    let held = c.forget.new.held in
    let t = c.forget.ensures.streaming in
    let items = rw (to_z-of_z c.ranges.sample) at c.in_ok-extend_from_slice.ensures.items in
    let mid : HeldSamples = record held { samples = c.extend_from_slice.new.self } in
    let m = packs_pushed records before runs separators own held mid (c.args.sample ∷ []) false c.forget.ensures.needed
    refl refl refl items (rw (← c.self.view_is) at s).packs in
    let g = c.go_on.ensures in
    shown_if_any (before ++ c.args.sample ∷ []) _ _ c.go_on.result
    (g.given.shows (before ++ c.args.sample ∷ []) runs separators
    (holds_in records (before ++ c.args.sample ∷ []) runs separators mid m.of_form m.holds)) g.none

pub of-next-requires-clause-step : goal.of-next-requires-clause-step
of-next-requires-clause-step c = (rw c.frontier_of-frontier.ensures at c.in-Some.ensures.decided).step

pub go_on-requires-clause-next : goal.go_on-requires-clause-next
go_on-requires-clause-next c = rw c.as_slice-seen.ensures.value at c.of-next.ensures.next
