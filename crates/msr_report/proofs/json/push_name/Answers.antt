use Rattle.std.proofs.Common.{◌++◌, ◌∷◌, [], codes, string_bytes}
use Rattle.msr_report.specs.Json.{field_json}
use Rattle.msr_report.proofs.Pieces.{six_pieces}
use Rattle.msr_report.proofs.json.push_name.Goals as goal

pub returns : goal.returns
unfolding lib.Utf8.encode
returns c =
    let key = c.args.key.now in
    six_pieces (string_bytes c.args.text.now) (codes "{\"network\":\"" ++ field_json key.network)
    (codes "\",\"station\":\"" ++ field_json key.station) (codes "\",\"location\":\"" ++ field_json key.location)
    (codes "\",\"channel\":\"" ++ field_json key.channel) (codes "\",\"quality\":\"" ++ field_json (key.quality ∷ []))
    (codes "\"") _ _ _ _ _ _ c.in_ok-push_member.ensures c.in_ok-push_member-2.ensures c.in_ok-push_member-3.ensures
    c.in_ok-push_member-4.ensures c.in_ok-push_member-5.ensures c.in_ok-push.ensures.bytes
