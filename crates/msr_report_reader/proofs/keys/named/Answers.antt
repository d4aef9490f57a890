use Rattle.std.proofs.Common.{◌∷◌, rules}
use Rattle.msr_report_reader.specs.Fields.{name_then}
use Rattle.msr_report_reader.proofs.keys.named.Goals.{in_default-via-in-None-1, in_default-via-in-Some+in-None-1, in_default-via-in-Some+in-Some-channel_name+in-None-1, in_default-via-in-Some+in-Some-channel_name+in-Some-after+in-None-1}
use Rattle.msr_report_reader.proofs.keys.named.Goals as goal

pub returns-2-clause-only : goal.returns-2-clause-only
returns-2-clause-only c key rest is_key is =
    let after = 32 ∷ (key.quality ∷ rest) in
    let name = name_then key.network key.station key.location key.channel after in
    elim c.in_default.branch [
      | in_default-via-in-None-1 w ↦
          let word = c.after.ensures.only name is in
          search rules
      | in_default-via-in-Some+in-None-1 w ↦
          let named = w.channel_name.ensures.only key after is_key (w.in-Some.ensures.only name is) in
          search rules
      | in_default-via-in-Some+in-Some-channel_name+in-None-1 w ↦
          let named = w.in-Some-channel_name.ensures.only key after is_key (w.in-Some.ensures.only name is) in
          let space = w.after-2.ensures.only (key.quality ∷ rest) named in
          search rules
      | in_default-via-in-Some+in-Some-channel_name+in-Some-after+in-None-1 w ↦
          let named = w.in-Some-channel_name.ensures.only key after is_key (w.in-Some.ensures.only name is) in
          let end = w.quality.ensures.only key.quality rest is_key.quality
          (w.in-Some-after.ensures.only (key.quality ∷ rest) named) in
          search rules
    ]
