-- The kinds of records, and which of them are written.
use Rattle.std.specs.Prelude.{ℕ, Bool, true, false, IsTrue}
use Rattle.msr_base.specs.declared.kinds.Kind.{Kind}
use Rattle.msr_base.specs.declared.kinds.Kind.TheVariants.{Int16, Int24, Int32, Steim1, Steim2}
use Rattle.msr_base.specs.declared.kinds.Kinds.{Kinds}
use Rattle.msr_base.specs.declared.kinds.Kinds.TheVariants.{All, WithoutInt24}

-- the number of its encoding (SEED 2.4, blockette 1000)
abbrev pub code_of : Kind → ℕ
code_of Int16 = 1
code_of Int24 = 2
code_of Int32 = 3
code_of Steim1 = 10
code_of Steim2 = 11

-- The kinds of each choice. Each has 32-bit integers, which fit every run of one sample: so there are packings whatever
-- the choice.
abbrev pub contains : Kinds → Kind → Bool
contains All kind = true
contains WithoutInt24 Int24 = false
contains WithoutInt24 kind = true

-- the kind is one of the choice
abbrev pub IsChosen : Kinds → Kind → Type 0
IsChosen kinds kind = IsTrue (contains kinds kind)
