-- What each choice of kinds has.
use Rattle.std.proofs.Common.{refl}
use Rattle.msr_base.specs.Kinds.{IsChosen}
use Rattle.msr_base.specs.declared.kinds.Kind.TheVariants.{Int32}
use Rattle.msr_base.specs.declared.kinds.Kinds.{Kinds}
use Rattle.msr_base.specs.declared.kinds.Kinds.TheVariants.{All, WithoutInt24}

pub int32_is_chosen : (kinds : Kinds) → IsChosen kinds Int32
int32_is_chosen All = refl
int32_is_chosen WithoutInt24 = refl
