-- What is asked of the days of an archive.
use Rattle.msr_base.specs.declared.lengths.Length.{Length}
use Rattle.msr_options.specs.Choice.{Choice}
use Rattle.msr_options.specs.declared.days.DayOptions.{DayOptions}
use Rattle.msr_options.specs.declared.names.DayName.{DayName}
use Rattle.msr_options.specs.declared.names.Names.{Names}
use Rattle.msr_options.specs.declared.names.Names.TheVariants.{Any, Of, Own}

-- the same choice for records of another length
abbrev pub with_length : Length → Choice → Choice
with_length record_length choice = record {
  record_length = record_length;
  kinds = choice.kinds;
  tolerance = choice.tolerance;
  strict = choice.strict;
}

-- what is asked of days for records of another length
abbrev pub in_length : Length → DayOptions → DayOptions
in_length record_length days = record {
  options = with_length record_length days.options;
  same_length = days.same_length;
  resume = days.resume;
  check = days.check;
  only_smaller = days.only_smaller;
  keep_old = days.keep_old;
  older_than = days.older_than;
  names = days.names;
  bytes = days.bytes;
  telling = days.telling;
}

-- the names that are asked of the day that has this one
abbrev pub names_for : DayName → Names → Names
names_for name Any = Any
names_for name Own = Of name
names_for name (Of other) = Of other

-- what is asked of that day
abbrev pub with_name : DayName → DayOptions → DayOptions
with_name name days = record days { names = names_for name days.names }
