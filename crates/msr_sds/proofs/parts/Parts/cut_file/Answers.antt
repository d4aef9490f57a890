use Rattle.msr_sds.proofs.CutLemmas.{from_location, from_channel, from_year}
use Rattle.msr_sds.specs.Parts.{with_file, parts_of}
use Rattle.msr_sds.proofs.parts.Parts.cut_file.Goals as goal

pub returns-in_err-location-clause-only : goal.returns-in_err-location-clause-only
returns-in_err-location-clause-only c location day lacks spelled =
    let path = with_file (parts_of c.args.self.now) location day in
    let station = c.in_ok-rest.ensures.only (from_location path) spelled in
    absurd (c.in_err-location.ensures.only location (from_channel path) lacks station)

pub returns-in_err-rest-2-clause-only : goal.returns-in_err-rest-2-clause-only
returns-in_err-rest-2-clause-only c location day lacks spelled =
    let path = with_file (parts_of c.args.self.now) location day in
    let station = c.in_ok-rest.ensures.only (from_location path) spelled in
    let place = c.in_ok-location.ensures.only location (from_channel path) lacks station in
    absurd (c.in_err-rest-2.ensures.only (from_year path) place.1)

pub returns-in_err-day-clause-only : goal.returns-in_err-day-clause-only
returns-in_err-day-clause-only c location day lacks spelled =
    let path = with_file (parts_of c.args.self.now) location day in
    let station = c.in_ok-rest.ensures.only (from_location path) spelled in
    let place = c.in_ok-location.ensures.only location (from_channel path) lacks station in
    let data_type = c.in_ok-rest-2.ensures.only (from_year path) place.1 in
    absurd (c.in_err-day.ensures.only day data_type)

pub returns-clause-only : goal.returns-clause-only
returns-clause-only c location day lacks spelled =
    let path = with_file (parts_of c.args.self.now) location day in
    let station = c.in_ok-rest.ensures.only (from_location path) spelled in
    let place = c.in_ok-location.ensures.only location (from_channel path) lacks station in
    let data_type = c.in_ok-rest-2.ensures.only (from_year path) place.1 in
    let year = c.in_ok-day.ensures.only day data_type in
    (place.0, year)
