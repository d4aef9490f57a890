use Rattle.std.proofs.Common.{rules, ◌≡◌, length, sym, ◌∙◌}
use Rattle.std.proofs.lemmas.List.{length-take-le}
use Rattle.msr_record.proofs.writing.put_header.Goals as goal

pub copy_from_slice-requires : goal.copy_from_slice-requires
copy_from_slice-requires c =
    let whole : length c.args.header.now ≡ 64 = search rules in
    length-take-le 64 c.args.bytes.now c.requires ∙ sym whole
