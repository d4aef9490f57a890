use Rattle.std.proofs.Common.{[], sym}
use Rattle.msr_sds.proofs.CutLemmas.{after_year, after_network, after_station, after_channel, folders_found}
use Rattle.msr_sds.specs.Parts.{SameFolders}
use Rattle.msr_sds.specs.SdsPath.{SdsPath}
use Rattle.msr_sds.proofs.parts.Parts.cut_folders.Goals as goal

pub returns-in_err-network-clause-only : goal.returns-in_err-network-clause-only
returns-in_err-network-clause-only c path file separate spelled =
    let year = c.in_ok-year.ensures.only path.year (after_year path file) separate.year spelled in
    let never = c.in_err-network.ensures.only in
    absurd (never path.network (after_network path file) separate.network year.1)

pub returns-in_err-station-clause-only : goal.returns-in_err-station-clause-only
returns-in_err-station-clause-only c path file separate spelled =
    let year = c.in_ok-year.ensures.only path.year (after_year path file) separate.year spelled in
    let network =
    c.in_ok-network.ensures.only path.network (after_network path file) separate.network year.1 in
    let never = c.in_err-station.ensures.only in
    absurd (never path.station (after_station path file) separate.station network.1)

pub returns-in_err-channel-clause-only : goal.returns-in_err-channel-clause-only
returns-in_err-channel-clause-only c path file separate spelled =
    let year = c.in_ok-year.ensures.only path.year (after_year path file) separate.year spelled in
    let network =
    c.in_ok-network.ensures.only path.network (after_network path file) separate.network year.1 in
    let station =
    c.in_ok-station.ensures.only path.station (after_station path file) separate.station network.1 in
    let never = c.in_err-channel.ensures.only in
    absurd (never path.channel (after_channel path file) separate.channel station.1)

pub returns-in_err-data_type-clause-only : goal.returns-in_err-data_type-clause-only
returns-in_err-data_type-clause-only c path file separate spelled =
    let year = c.in_ok-year.ensures.only path.year (after_year path file) separate.year spelled in
    let network =
    c.in_ok-network.ensures.only path.network (after_network path file) separate.network year.1 in
    let station =
    c.in_ok-station.ensures.only path.station (after_station path file) separate.station network.1 in
    let channel =
    c.in_ok-channel.ensures.only path.channel (after_channel path file) separate.channel station.1 in
    let never = c.in_err-data_type.ensures.only in
    absurd (never path.data_type file separate.data_type channel.1)

pub returns-clause-found : goal.returns-clause-found
returns-clause-found c =
    let parts : SdsPath = record {
      year = c.in_ok-year.year.now;
      network = c.in_ok-network.network.now;
      station = c.in_ok-station.station.now;
      location = [];
      channel = c.in_ok-channel.channel.now;
      data_type = c.in_ok-data_type.data_type.now;
      day = [];
    } in
    folders_found parts c.args.text.now c.in_ok-year.rest.now c.in_ok-network.rest.now
    c.in_ok-station.rest.now c.in_ok-channel.rest.now c.in_ok-data_type.file.now
    c.in_ok-year.ensures.found c.in_ok-network.ensures.found c.in_ok-station.ensures.found
    c.in_ok-channel.ensures.found c.in_ok-data_type.ensures.found

pub returns-clause-only : goal.returns-clause-only
returns-clause-only c path file separate spelled =
    let year = c.in_ok-year.ensures.only path.year (after_year path file) separate.year spelled in
    let network =
    c.in_ok-network.ensures.only path.network (after_network path file) separate.network year.1 in
    let station =
    c.in_ok-station.ensures.only path.station (after_station path file) separate.station network.1 in
    let channel =
    c.in_ok-channel.ensures.only path.channel (after_channel path file) separate.channel station.1 in
    let data_type =
    c.in_ok-data_type.ensures.only path.data_type file separate.data_type channel.1 in
    let folders : SdsPath = record {
      year = c.in_ok-year.year.now;
      network = c.in_ok-network.network.now;
      station = c.in_ok-station.station.now;
      location = [];
      channel = c.in_ok-channel.channel.now;
      data_type = c.in_ok-data_type.data_type.now;
      day = [];
    } in
    let same : SameFolders path folders = record {
      year = sym year.0;
      network = sym network.0;
      station = sym station.0;
      channel = sym channel.0;
      data_type = sym data_type.0;
    } in
    (same, data_type.1)
