use Rattle.std.proofs.Common.{rules, ◌^◌, arith, length, ◌<◌, ◌≤◌}
use Rattle.msr_packer.specs.HeldSamples.{frontier_of}
use Rattle.msr_packer.proofs.Holding.{ends_with, next_stepped, window_next}
use Rattle.msr_packer.proofs.Least.{found}
use Rattle.msr_words.specs.Fit.{records_of}
use Rattle.msr_packer.proofs.pack_in.Goals as goal

pub piece_of-requires : goal.piece_of-requires
piece_of-requires c =
    let fits : length c.args.samples.now < 2 ^ 64 = search rules in
    let next = c.next-next.ensures.next in
    let order = next.step.reached.0 in
    let within = next.step.reached.1 in
    record {
      records = records_of c.args.form;
      number = length c.args.samples.now;
      inside = c.loop-form.invariant.inside;
      within = omega arith;
      counted = omega arith;
    }

pub piece_of-requires-2 : goal.piece_of-requires-2
piece_of-requires-2 c =
    let fits : length c.args.samples.now < 2 ^ 64 = search rules in
    record {
      records = records_of c.args.form;
      number = length c.args.samples.now;
      inside = c.loop-form.invariant.inside;
      within = omega arith;
      counted = omega arith;
    }

pub loop-form-smaller : goal.loop-form-smaller
loop-form-smaller c =
    let samples = c.args.samples.now in
    let next = c.next-next.ensures.next in
    let s = next_stepped (records_of c.args.form) c.args.form.length.least samples c.loop-form.current
    c.next-next.result next in
    let on = s.on in
    let within = next.step.reached.1 in
    let end : c.next-next.result.end ≤ length samples = omega arith in
    omega arith

pub loop-form-preserved : goal.loop-form-preserved
loop-form-preserved c =
    let i = c.loop-form.invariant in
    let form = records_of c.args.form in
    let samples = c.args.samples.now in
    let current = c.loop-form.current in
    let next = c.next-next.ensures.next in
    let s = next_stepped form c.args.form.length.least samples current c.next-next.result next in
    let frontier = next.frontier in
    let before = next.step.before in
    let on = s.on in
    rw (c.in_ok-add.ensures.runs, c.in_ok-add.ensures.separators, c.piece_of.ensures)
    (record {
      window = window_next form c.args.form.length.least samples c.loop-form.packing.runs.items
          c.loop-form.packing.separators.items samples 0 current c.next-next.result i.window next;
      inside = record { before = before; on = omega arith; within = next.step.reached.1; short = s.few };
    })

pub returns : goal.returns
returns c =
    let i = c.loop-form.invariant in
    let form = records_of c.args.form in
    let samples = c.args.samples.now in
    let done : length samples ≤ frontier_of c.loop-form.current = omega arith in
    let f = found form samples c.args.form.length.least _ _
    (ends_with form samples c.loop-form.packing.runs.items
    c.loop-form.packing.separators.items samples 0 c.loop-form.current i.window done) in
    rw (c.in_ok-add-2.ensures.runs, c.in_ok-add-2.ensures.separators, c.piece_of-2.ensures)
    (record {
      packing = f.packing;
      least = f.least;
      separating = f.separating;
      as_many = f.as_many;
      canonical = f.canonical;
    })
