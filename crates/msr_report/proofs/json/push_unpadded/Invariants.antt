use Rattle.std.proofs.Common.{◌≡◌, ◌++◌, flat_map, take, string_bytes}
use Rattle.msr_report.specs.Json.{byte_json}
use Rattle.msr_report.proofs.json.push_unpadded.Given as goal

-- the bytes so far
abbrev pub invariant-loop-byte : goal.invariant-loop-byte
invariant-loop-byte l =
    string_bytes l.text ≡ string_bytes l.fn.text ++ flat_map byte_json (take l.byte-index l.bytes)
