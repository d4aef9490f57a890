use Rattle.std.proofs.Common.{rules, refl}
use Rattle.std.proofs.lemmas.Result.{on_ok_weaker}
use Rattle.msr_time.specs.Instant.{IsSplit}
use Rattle.msr_report.specs.Json.{iso_text}
use Rattle.msr_report.proofs.json.push_iso.Goals as goal

pub returns : goal.returns
returns c =
    let split : IsSplit c.args.t c.in-Some.time c.in-Some.micros = search rules in
    on_ok_weaker c.push_iso_time.result (λ is. (
      iso_text c.in-Some.time c.date.result c.in-Some.micros,
      (
        record {
          time = c.in-Some.time;
          micros = c.in-Some.micros;
          date = c.date.result;
          split = split;
          year = c.date.ensures.year;
          place = c.date.ensures.place;
          is = refl;
        },
        is,
      ),
    )) c.push_iso_time.ensures
