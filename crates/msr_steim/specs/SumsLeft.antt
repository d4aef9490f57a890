-- What the fields of an iterator leave of the samples of an area.
use Rattle.std.specs.Prelude.{◌++◌, take}
use Rattle.msr_steim.specs.Area.{sums_after}
use Rattle.msr_steim.specs.InOrder.{SamplesLeft, differences_from}
use Rattle.msr_steim.specs.Word.{numbers_in}
use Rattle.msr_steim.specs.declared.borrowed.SteimSamples.TheInside.{Inside}

-- the sums of the differences that are left, as many as samples are left
abbrev pub samples_left : Inside → SamplesLeft
samples_left s = record {
  samples = take s.left (sums_after s.last (numbers_in s.fields.word s.fields.width s.fields.count
      ++ differences_from s.version s.order s.area.now s.number));
  agrees = s.agrees;
}
