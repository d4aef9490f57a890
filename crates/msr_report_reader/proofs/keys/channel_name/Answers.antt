use Rattle.msr_report_reader.proofs.keys.channel_name.Goals as goal

pub returns-in_err-channel-clause-only : goal.returns-in_err-channel-clause-only
returns-in_err-channel-clause-only c key rest is_key is =
    let first = c.in_ok-network.ensures.only key.network _ is_key.network is in
    let second = c.in_ok-station.ensures.only key.station _ is_key.station first.1 in
    let third = c.in_ok-location.ensures.only key.location _ is_key.location second.1 in
    absurd (c.in_err-channel.ensures.only key.channel rest is_key.channel third.1)

pub returns-clause-only : goal.returns-clause-only
returns-clause-only c key rest is_key is =
    let first = c.in_ok-network.ensures.only key.network _ is_key.network is in
    let second = c.in_ok-station.ensures.only key.station _ is_key.station first.1 in
    let third = c.in_ok-location.ensures.only key.location _ is_key.location second.1 in
    (c.in_ok-channel.ensures.only key.channel rest is_key.channel third.1).1
