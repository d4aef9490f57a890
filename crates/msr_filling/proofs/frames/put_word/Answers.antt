use Rattle.std.proofs.Common.{◌≡◌, ◌+◌, ◌-◌, ◌*◌, ◌++◌, [], length, take, drop, ap, ◌∙◌, arith}
use Rattle.std.proofs.lemmas.List.{append-nil, drop_all, drop-drop, length-drop, take_all}
use Rattle.byteorder.specs.Endian.{big_bytes}
use Rattle.msr_filling.proofs.frames.put_word.Goals as goal

pub returns : goal.returns
returns c =
    let area = c.args.area.now in
    let n = 4 * c.args.number in
    let k = length c.args.area.now - 4 * c.args.number in
    let left = length-drop (4 * c.args.number) c.args.area.now in
    let whole : take (length c.args.area.now - 4 * c.args.number) (drop (4 * c.args.number) c.args.area.now)
    ≡ drop (4 * c.args.number) c.args.area.now =
    take_all (length c.args.area.now - 4 * c.args.number) (drop (4 * c.args.number) c.args.area.now)
    (omega arith) in
    let none : drop (length c.args.area.now - 4 * c.args.number) (drop (4 * c.args.number) c.args.area.now) ≡ [] =
    drop_all (length c.args.area.now - 4 * c.args.number) (drop (4 * c.args.number) c.args.area.now)
    (omega arith) in
    let buf : c.write_u32.new.buf ≡ big_bytes 4 c.args.word ++ drop (4 * c.args.number + 4) c.args.area.now =
    c.write_u32.ensures ∙ ap (λ x. big_bytes 4 c.args.word ++ drop 4 x) whole
    ∙ ap (λ x. big_bytes 4 c.args.word ++ x) (drop-drop 4 (4 * c.args.number) c.args.area.now) in
    ap (λ x. take (4 * c.args.number) c.args.area.now ++ (c.write_u32.new.buf ++ x)) none
    ∙ ap (λ x. take (4 * c.args.number) c.args.area.now ++ x) (append-nil c.write_u32.new.buf ∙ buf)
