-- One more word.
use Rattle.std.proofs.Common.{arith, ◌≡◌, ◌≤◌, ◌+◌, ◌-◌, ◌*◌, ◌++◌, length, map, drop, take, ap, sym, ◌∙◌, to_z, of_z, w32}
use Rattle.std.specs.Prelude.{flat_map}
use Rattle.std.specs.List.{range_with_len}
use Rattle.std.proofs.lemmas.List.FromFn.{length-map-range_with_len, map-range_with_len_more}
use Rattle.byteorder.specs.Endian.{big_bytes}
use Rattle.msr_steim.specs.Frames.{frame_word}
use Rattle.msr_steim.proofs.Filling.{fill_step}
use Rattle.msr_steim.proofs.frames.fill_steim.Goals as goal

pub loop-number-preserved : goal.loop-number-preserved
loop-number-preserved c =
    let f = frame_word c.args.version (to_z w32 (of_z w32 c.args.first)) (to_z w32 (of_z w32 c.args.last))
    (map (λ g. g.items) c.args.groups.now) in
    let n = c.loop-number.number in
    let room : 4 * n + 4 ≤ length c.loop-number.area = omega arith in
    let buf : c.write_u32.new.buf ≡ big_bytes 4 (f n)
    ++ drop 4 (take (length c.loop-number.area - 4 * n) (drop (4 * n) c.loop-number.area)) =
    c.write_u32.ensures ∙ ap (λ w. big_bytes 4 w ++ drop 4 (take (length c.loop-number.area - 4 * n)
    (drop (4 * n) c.loop-number.area))) c.frame_word-word.ensures in
    fill_step (map f (range_with_len 0 n)) (f n) n c.args.area.now c.loop-number.area c.write_u32.new.buf
    (length-map-range_with_len f 0 n) c.loop-number.invariant buf room
    ∙ ap (λ ws. flat_map (big_bytes 4) ws ++ drop (4 * (n + 1)) c.args.area.now)
    (sym (map-range_with_len_more f 0 n n (omega arith)))
