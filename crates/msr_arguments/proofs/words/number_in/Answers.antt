use Rattle.std.specs.Str.Parse.{ExplainsUnsignedError, HasUnsignedDigitsIfOk, ParsesUnsigned}
use Rattle.msr_arguments.proofs.Named.{number_read}
use Rattle.msr_arguments.proofs.words.number_in.Goals as goal

pub returns : goal.returns
returns c =
    number_read _ (λ given read. ParsesUnsigned 32 10 given read × ExplainsUnsignedError 10 given read
    × HasUnsignedDigitsIfOk given read) _ _
    (λ given read is. is.0) c.get_one.ensures.none c.get_one.ensures.value
