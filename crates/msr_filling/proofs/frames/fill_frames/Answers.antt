-- Word by word, and frame by frame.
use Rattle.std.proofs.Common.{rules, arith, ◌≡◌, ◌<◌, ◌≤◌, ◌+◌, ◌-◌, ◌*◌, ◌/◌, ◌++◌, ap, ◌∙◌, length, take, replicate, drop, pos, slice_index_or, refl, inl, inr, lit≤, lit<, w32, SFits}
use Rattle.std.proofs.lemmas.Bool.{cases_lt}
use Rattle.std.proofs.lemmas.Int.{to_z-of_z}
use Rattle.std.proofs.lemmas.List.{length-drop}
use Rattle.std.proofs.lemmas.Grind.{common_steps}
use borrow.Rule.Slice.PartMut.{put_mid}
use Rattle.msr_steim.proofs.Filling.{codes_fit}
use Rattle.msr_words.specs.Segment.{differences}
use Rattle.msr_filling.specs.Sizing.{version_of}
use Rattle.msr_words.proofs.Plain.{length-differences}
use Rattle.msr_filling.proofs.Fill.{codes_below_more, frame_ends, group_more, none_more, some_codes, some_next}
use Rattle.msr_filling.proofs.FramesLeft.{framed_full, framed_rest}
use Rattle.msr_filling.proofs.GroupsFilled.{started}
use Rattle.msr_words.proofs.Windows.{window_on}
use Rattle.msr_filling.proofs.frames.fill_frames.Goals as goal
use Rattle.msr_filling.proofs.frames.fill_frames.Goals.{then-loop-slot-test+else-at-run-2, else-loop-slot-test, then-loop-frame-test+else-at-run, else-loop-frame-test}

pub loop-frame-init : goal.loop-frame-init
loop-frame-init c = record {
  within = omega arith;
  window = c.new-window.ensures c.args.run.now 0;
  most = omega arith;
  later = λ some. absurd (omega arith);
  few = lit≤ tt;
  framed = search rules;
}

pub loop-slot-init : goal.loop-slot-init
loop-slot-init c =
    let fits : SFits w32 (slice_index_or c.args.run.now 0 (pos 0)) = search rules in
    let fits' : SFits w32 (slice_index_or c.args.run.now (length c.args.run.now - 1) (pos 0)) = search rules in
    record {
      within = c.loop-frame.invariant.within;
      window = c.loop-frame.invariant.window;
      most = omega (arith, c.put_constants-from.ensures.most);
      few = omega (arith, c.loop-frame.invariant.few);
      small = some_codes (c.put_constants-from.result + 1);
      high = elim (cases_lt 0 c.loop-frame.frame) [
        | inl later ↦ omega arith
        | inr none ↦ (let put = c.put_constants-from.ensures.first (omega arith) in let two = put.0 in omega arith)
      ];
      filled = λ gs chosen.
          started (version_of c.args.sizing) gs (differences c.args.before c.args.run.now)
          (slice_index_or c.args.run.now 0 (pos 0)) (slice_index_or c.args.run.now (length c.args.run.now - 1)
          (pos 0)) c.loop-frame.frame c.loop-frame.at
          c.loop-frame.used c.args.area.now c.loop-frame.area c.put_word.new.area c.put_constants-from.new.area
          c.put_constants-from.result c.cast_unsigned-first.result c.cast_unsigned-last.result
          (c.loop-frame.invariant.framed gs chosen) c.put_word.ensures
          (simp to_z-of_z at c.cast_unsigned-first.ensures) (simp to_z-of_z at c.cast_unsigned-last.ensures)
          c.put_constants-from.ensures.first c.put_constants-from.ensures.others;
    }

pub next_word-requires-clause-window : goal.next_word-requires-clause-window
next_word-requires-clause-window c = c.loop-slot.invariant.window

pub overflow_mul-codes : goal.overflow_mul-codes
overflow_mul-codes c =
    let bound : c.loop-slot.codes < 1073741824 =
    codes_fit c.loop-slot.codes (c.loop-slot.slot + 1) c.loop-slot.invariant.small
    (omega (arith, c.loop-slot-test.true)) in
    search (rules, bound)

pub overflow_add-codes : goal.overflow_add-codes
overflow_add-codes c =
    let bound : c.loop-slot.codes < 1073741824 =
    codes_fit c.loop-slot.codes (c.loop-slot.slot + 1) c.loop-slot.invariant.small
    (omega (arith, c.loop-slot-test.true)) in
    let sum : c.loop-slot.codes * 4 + c.in-Some.next.code < 4294967296 = omega (arith, c.in-Some.ensures.next.small) in
    search (rules, sum)

pub overflow_add-at : goal.overflow_add-at
overflow_add-at c =
    let long = length-differences c.args.before c.args.run.now in
    let l = length-drop c.loop-slot.at (differences c.args.before c.args.run.now) in
    let in' = c.in-Some.ensures.next.within in
    let here = c.loop-slot.invariant.within in
    let room : c.loop-slot.at + c.in-Some.next.size ≤ length c.args.run.now = omega arith in
    search (rules, room)

pub overflow_add-used : goal.overflow_add-used
overflow_add-used c =
    let few = c.loop-slot.invariant.few in
    let less : c.loop-slot.used < length c.args.area.now = omega (arith, c.loop-slot-test.true) in
    search (rules, less)

pub loop-slot-preserved : goal.loop-slot-preserved
loop-slot-preserved c =
    let inv = c.loop-slot.invariant in
    let high = inv.high in
    let few = inv.few in
    let long = length-differences c.args.before c.args.run.now in
    let l = length-drop c.loop-slot.at (differences c.args.before c.args.run.now) in
    let next = c.in-Some.ensures.next in
    let in' = next.within in
    let here = inv.within in
    record {
      within = omega arith;
      window = window_on c.args.run.now c.loop-slot.at
          (c.loop-slot.at + c.in-Some.next.size) c.next_word.new.window (omega arith) c.next_word.ensures.window;
      most = omega (arith, c.loop-slot-test.true);
      few = omega arith;
      small = codes_below_more c.loop-slot.codes c.in-Some.next.code (c.loop-slot.slot + 1) inv.small next.small refl;
      high = omega arith;
      filled = λ gs chosen.
          let before = inv.filled gs chosen in
          group_more (version_of c.args.sizing) gs (differences c.args.before c.args.run.now)
          (slice_index_or c.args.run.now 0 (pos 0)) (slice_index_or c.args.run.now (length c.args.run.now - 1)
          (pos 0))
          c.loop-frame.frame c.loop-slot.at c.loop-slot.used c.args.area.now
          c.loop-slot.area c.put_word-in-loop-slot.new.area c.loop-slot.slot c.loop-slot.codes
          before (omega (arith, c.loop-slot-test.true)) c.in-Some.next.word c.in-Some.next.code c.in-Some.next.size
          (c.loop-slot.used + 1) (omega arith) (λ left. next.follows _ left) in' next.code_is next.word_is
          (λ some. refl)
          (λ none. let gone = some_next (version_of c.args.sizing) _ _ c.in-Some.next.size before.left
          (next.follows _ before.left) none in absurd (omega (arith, c.loop-slot-test.true)))
          c.put_word-in-loop-slot.ensures;
    }

pub loop-spare-init : goal.loop-spare-init
loop-spare-init c =
    let inv = c.loop-slot.invariant in
    record { small = inv.small; high = inv.high; filled = inv.filled }

pub overflow_mul-codes-in-loop-spare : goal.overflow_mul-codes-in-loop-spare
overflow_mul-codes-in-loop-spare c =
    let bound : c.loop-spare.codes < 1073741824 =
    codes_fit c.loop-spare.codes (c.loop-spare.spare + 1) c.loop-spare.invariant.small
    (omega (arith, c.loop-spare-test.true)) in
    search (rules, bound)

pub loop-spare-preserved : goal.loop-spare-preserved
loop-spare-preserved c =
    let inv = c.loop-spare.invariant in
    let long = length-differences c.args.before c.args.run.now in
    let l = length-drop c.loop-slot.at (differences c.args.before c.args.run.now) in
    let none : length (drop c.loop-slot.at (differences c.args.before c.args.run.now)) ≡ 0 =
    elim c.loop-slot-test.branch [
      | then-loop-slot-test+else-at-run-2 w ↦ omega arith
      | else-loop-slot-test w ↦ absurd (omega (arith, c.loop-spare-test.true))
    ] in
    record {
      small = codes_below_more c.loop-spare.codes 0 (c.loop-spare.spare + 1) inv.small (lit< tt) (omega arith);
      high = omega (arith, inv.high);
      filled = λ gs chosen.
          none_more (version_of c.args.sizing) gs (differences c.args.before c.args.run.now)
          (slice_index_or c.args.run.now 0 (pos 0)) (slice_index_or c.args.run.now (length c.args.run.now - 1)
          (pos 0)) c.loop-frame.frame c.loop-slot.at
          c.loop-slot.used c.args.area.now c.loop-spare.area c.put_word-in-loop-spare.new.area c.loop-spare.spare
          c.loop-spare.codes (inv.filled gs chosen) c.loop-spare-test.true inv.high none
          c.put_word-in-loop-spare.ensures;
    }

pub loop-frame-preserved : goal.loop-frame-preserved
loop-frame-preserved c =
    let inv = c.loop-spare.invariant in
    let most = c.loop-slot.invariant.most in
    let few = c.loop-slot.invariant.few in
    let all : c.loop-spare.spare ≡ 15 = omega (arith, c.loop-spare-test.false) in
    record {
      within = c.loop-slot.invariant.within;
      window = c.loop-slot.invariant.window;
      most = omega arith;
      later = λ some. omega arith;
      few = omega arith;
      framed = λ gs chosen.
          frame_ends (version_of c.args.sizing) gs (differences c.args.before c.args.run.now)
          (slice_index_or c.args.run.now 0 (pos 0)) (slice_index_or c.args.run.now (length c.args.run.now - 1)
          (pos 0)) c.loop-frame.frame c.loop-slot.at
          c.loop-slot.used c.args.area.now c.loop-spare.area c.put_word-in-loop-frame.new.area c.loop-spare.spare
          c.loop-spare.codes all (inv.filled gs chosen) c.put_word-in-loop-frame.ensures;
    }

pub returns-clause-filled : goal.returns-clause-filled
returns-clause-filled c gs chosen room =
    let inv = c.loop-frame.invariant in
    let ds = differences c.args.before c.args.run.now in
    let first = slice_index_or c.args.run.now 0 (pos 0) in
    let last = slice_index_or c.args.run.now (length c.args.run.now - 1) (pos 0) in
    let frame = c.loop-frame.frame in
    let frames = length c.args.area.now / 64 in
    let most = inv.most in
    let kept : length c.loop-frame.area ≡ length c.args.area.now = c.loop-frame.auto.area in
    let whole : length c.args.area.now ≡ 64 * (length c.args.area.now / 64) = omega (arith, c.requires.frames) in
    let left : length c.loop-frame.area - 64 * c.loop-frame.frame
    ≡ 64 * (length c.args.area.now / 64) - 64 * c.loop-frame.frame = omega arith in
    let cleared : put_mid (64 * c.loop-frame.frame) (length c.loop-frame.area - 64 * c.loop-frame.frame)
    c.loop-frame.area c.fill.new.self
    ≡ take (64 * c.loop-frame.frame) c.loop-frame.area
    ++ replicate (length c.loop-frame.area - 64 * c.loop-frame.frame) 0 = grind (arith, common_steps) in
    let zeros = cleared
    ∙ ap (λ n. take (64 * c.loop-frame.frame) c.loop-frame.area ++ replicate n 0) left in
    elim c.loop-frame-test.branch [
      | then-loop-frame-test+else-at-run w ↦
          let long = length-differences c.args.before c.args.run.now in
          let l = length-drop c.loop-frame.at (differences c.args.before c.args.run.now) in
          framed_rest (version_of c.args.sizing) gs ds first last frame frames c.loop-frame.at c.loop-frame.used
          c.args.area.now c.loop-frame.area _ (inv.framed gs chosen) (omega arith)
          (inv.later (omega (arith, c.requires.some))) (omega arith) zeros
      | else-loop-frame-test w ↦
          framed_full (version_of c.args.sizing) gs ds first last frame frames c.loop-frame.at c.loop-frame.used
          c.args.area.now c.loop-frame.area _ (inv.framed gs chosen) (omega arith) whole kept room zeros
    ]
