use Rattle.std.proofs.Common.{string_bytes}
use Rattle.msr_report.specs.Json.{byte_json}
use Rattle.msr_report.proofs.Pieces.{one_piece_more}
use Rattle.msr_report.proofs.json.push_unpadded.Goals as goal

pub loop-byte-preserved : goal.loop-byte-preserved
loop-byte-preserved c =
    one_piece_more byte_json (string_bytes c.args.text.now) c.unpadded-bytes.result.now
    c.loop-byte.byte-index _ _ c.loop-byte-test.true c.loop-byte.invariant c.in_ok-push_byte.ensures
