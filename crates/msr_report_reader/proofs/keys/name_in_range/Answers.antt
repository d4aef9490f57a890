use Rattle.std.proofs.Common.{rules, arith, Fits, w8, slice_index}
use Rattle.msr_report_reader.proofs.keys.name_in_range.Goals as goal

pub returns-clause-network : goal.returns-clause-network
returns-clause-network c = record {
  many = search rules;
  each = λ k. let f : Fits w8 (slice_index c.args.name.network k) = search rules in omega (arith, f);
}

pub returns-clause-station : goal.returns-clause-station
returns-clause-station c = record {
  many = search rules;
  each = λ k. let f : Fits w8 (slice_index c.args.name.station k) = search rules in omega (arith, f);
}

pub returns-clause-location : goal.returns-clause-location
returns-clause-location c = record {
  many = search rules;
  each = λ k. let f : Fits w8 (slice_index c.args.name.location k) = search rules in omega (arith, f);
}

pub returns-clause-channel : goal.returns-clause-channel
returns-clause-channel c = record {
  many = search rules;
  each = λ k. let f : Fits w8 (slice_index c.args.name.channel k) = search rules in omega (arith, f);
}
