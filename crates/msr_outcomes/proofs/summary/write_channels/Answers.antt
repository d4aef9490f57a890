use Rattle.std.proofs.Common.{rules, ◌≡◌, ℕ, List, None, Some, inl, inr, subst}
use Rattle.std.proofs.lemmas.Result.{err_from_is_err_and}
use Rattle.std.specs.List.{flat_map, slice_get}
use Rattle.std.specs.Option.{option_map}
use Rattle.msr_devices.specs.Device.{Takes}
use Rattle.msr_devices.proofs.Chaining.{calm_calm, calm_failed, takes_append}
use Rattle.msr_folders.specs.declared.totals.Total.{Total}
use Rattle.msr_outcomes.specs.Summary.{channel_line, with_bytes}
use Rattle.msr_outcomes.proofs.ChannelLines.{channel_at, channels_end, lines_next, front_of, front_in}
use Rattle.msr_outcomes.proofs.summary.write_channels.Goals as goal

pub returns-in_err-line-clause-stops : goal.returns-in_err-line-clause-stops
returns-in_err-line-clause-stops g c =
    let p = err_from_is_err_and c.from_residual.result c.from_residual.ensures.1 in
    rw (p.1, p.2) (
      front_of (channel_line c.args.asked.now) (with_bytes c.args.totals.now c.args.bytes.now) c.loop-place.place _ _ c.loop-place.invariant.prints,
      c.loop-place.invariant.calm.steady,
    )

pub returns-in_err-write_all-clause-stops : goal.returns-in_err-write_all-clause-stops
returns-in_err-write_all-clause-stops g c =
    let p = err_from_is_err_and c.from_residual-in_err-write_all.result c.from_residual-in_err-write_all.ensures.1 in
    let part = c.in_err-write_all.ensures.part in
    let total : slice_get c.args.totals.now c.loop-place.place ≡ Some (c.in-Some.name.now, c.in-Some.total) =
    search rules in
    let size : option_map (λ total. total.1) (slice_get c.args.bytes.now c.loop-place.place) ≡ Some c.in-Some-get.size =
    search rules in
    let found = channel_at c.args.totals.now c.args.bytes.now c.loop-place.place _ _ total size in
    let failed = calm_failed (g.O.Sink.device c.args.out.now) (g.O.Sink.device c.loop-place.out)
    (g.O.Sink.device c.write_all.new.sink) c.loop-place.invariant.calm c.in_err-write_all.ensures.failed in
    rw (p.1, p.2) (
      front_in (channel_line c.args.asked.now) (with_bytes c.args.totals.now c.args.bytes.now) c.loop-place.place part.0
          ((c.in-Some.name.now, c.in-Some.total), c.in-Some-get.size) c.as_bytes.result.now _ _ _ found
          (rw c.as_bytes.ensures.value c.in_ok-line.ensures) c.loop-place.invariant.prints part.1,
      failed,
    )

pub loop-place-preserved : goal.loop-place-preserved
loop-place-preserved g c =
    let total : slice_get c.args.totals.now c.loop-place.place ≡ Some (c.in-Some.name.now, c.in-Some.total) =
    search rules in
    let size : option_map (λ total. total.1) (slice_get c.args.bytes.now c.loop-place.place) ≡ Some c.in-Some-get.size =
    search rules in
    let found = channel_at c.args.totals.now c.args.bytes.now c.loop-place.place _ _ total size in
    let line : c.as_bytes.result.now ≡ channel_line c.args.asked.now
    ((c.in-Some.name.now, c.in-Some.total), c.in-Some-get.size) =
    rw c.as_bytes.ensures.value c.in_ok-line.ensures in
    record {
      prints = rw (lines_next (channel_line c.args.asked.now) (with_bytes c.args.totals.now c.args.bytes.now) c.loop-place.place _ found, ← line)
          (takes_append _ _ _ _ _ c.loop-place.invariant.prints c.in_ok-write_all.ensures.all);
      calm = calm_calm _ _ _ c.loop-place.invariant.calm c.in_ok-write_all.ensures.calm;
    }

pub returns-clause-stops : goal.returns-clause-stops
returns-clause-stops g c = (
  front_of (channel_line c.args.asked.now) (with_bytes c.args.totals.now c.args.bytes.now) c.loop-place.place _ _ c.loop-place.invariant.prints,
  c.loop-place.invariant.calm.steady,
)

pub returns-in_default-clause-all : goal.returns-in_default-clause-all
returns-in_default-clause-all g c =
    let none : slice_get c.args.totals.now c.loop-place.place ≡ None = search rules in
    let P : List ((List ℕ × Total) × Total) → Type 0 = λ channels.
    Takes (g.O.Sink.device c.args.out.now) (g.O.Sink.device c.loop-place.out)
    (flat_map (channel_line c.args.asked.now) channels) in
    subst P (channels_end c.args.totals.now c.args.bytes.now c.loop-place.place (inl none)) c.loop-place.invariant.prints

pub returns-in_default-get-clause-all : goal.returns-in_default-get-clause-all
returns-in_default-get-clause-all g c =
    let none : slice_get c.args.bytes.now c.loop-place.place ≡ None = search rules in
    let P : List ((List ℕ × Total) × Total) → Type 0 = λ channels.
    Takes (g.O.Sink.device c.args.out.now) (g.O.Sink.device c.loop-place.out)
    (flat_map (channel_line c.args.asked.now) channels) in
    subst P (channels_end c.args.totals.now c.args.bytes.now c.loop-place.place (inr none)) c.loop-place.invariant.prints
