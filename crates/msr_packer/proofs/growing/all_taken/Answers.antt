use Rattle.std.proofs.Common.{rules, ◌+◌, ◌≤◌, ◌<◌, length, slice_index_or, pos, w32, w64, SFits, arith}
use Rattle.std.proofs.lemmas.Int.{to_z-of_z}
use Rattle.msr_words.specs.Fit.{Fits}
use Rattle.msr_words.specs.Segment.{run_points}
use Rattle.msr_words.proofs.Runs.{run_points_more, prefix_run}
use Rattle.msr_packer.proofs.growing.all_taken.Goals as goal

pub returns-then-not-push : goal.returns-then-not-push
returns-then-not-push g c = λ records start le follows fits all.
    let in' : c.loop-at.at < length c.args.samples.now = omega arith in
    let far : start ≤ c.loop-at.at = omega arith in
    let more = run_points_more c.args.samples.now start c.loop-at.at far in' in
    let sample : SFits w32 (slice_index_or c.args.samples.now c.loop-at.at (pos 0)) = search rules in
    let diff : SFits w64 c.difference.result = search rules in
    let push = simp to_z-of_z at (c.push.ensures records (run_points c.args.samples.now start c.loop-at.at)
    (c.loop-at.invariant.kept records start le follows fits).0) in
    let pushed = rw (c.difference.ensures, ← more) at push in
    let shorter = prefix_run (Fits g.C.Codec.kind records.bytes) (g.met.C.Codec.laws.prefix records) c.args.samples.now
    start (c.loop-at.at + 1) (length c.args.samples.now) (omega arith) (omega arith) (omega arith, omega arith, all) in
    let yes = pushed.1.1 shorter.2 in
    let not = c.if-not-push.true in
    cc

pub loop-at-preserved : goal.loop-at-preserved
loop-at-preserved g c =
    let in' : c.loop-at.at < length c.args.samples.now = omega arith in
    let sample : SFits w32 (slice_index_or c.args.samples.now c.loop-at.at (pos 0)) = search rules in
    let diff : SFits w64 c.difference.result = search rules in
    record {
      kept = λ records start le follows fits.
          let far : start ≤ c.loop-at.at = omega arith in
          let more = run_points_more c.args.samples.now start c.loop-at.at far in' in
          let push = simp to_z-of_z at (c.push.ensures records (run_points c.args.samples.now start c.loop-at.at)
          (c.loop-at.invariant.kept records start le follows fits).0) in
          let pushed = rw (c.difference.ensures, ← more) at push in
          (pushed.0, pushed.1.0 c.if-not-push.false);
    }
