use Rattle.std.proofs.Common.{rules, arith, Fits, w8, slice_index}
use Rattle.msr_report_reader.proofs.laws.key_in_range.Goals as goal

pub returns : goal.returns
returns c quality = record {
  network = record {
    many = search rules;
    each = λ k. let f : Fits w8 (slice_index c.args.key.network k) =
        search rules in omega (arith, f);
  };
  station = record {
    many = search rules;
    each = λ k. let f : Fits w8 (slice_index c.args.key.station k) =
        search rules in omega (arith, f);
  };
  location = record {
    many = search rules;
    each = λ k. let f : Fits w8 (slice_index c.args.key.location k) =
        search rules in omega (arith, f);
  };
  channel = record {
    many = search rules;
    each = λ k. let f : Fits w8 (slice_index c.args.key.channel k) =
        search rules in omega (arith, f);
  };
  quality = quality;
  factor = search rules;
  multiplier = search rules;
  some_factor = search rules;
  some_multiplier = search rules;
  activity = search rules;
  clock = search rules;
  data_quality = search rules;
  correction = search rules;
  timing = search rules;
}
