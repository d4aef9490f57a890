-- How each kind of record stores its samples (SEED 2.4, blockette 1000).
use Rattle.std.specs.Prelude.{ℕ}
use Rattle.msr_base.specs.declared.kinds.Kind.{Kind}
use Rattle.msr_base.specs.declared.kinds.Kind.TheVariants.{Int16, Int24, Int32, Steim1, Steim2}
use Rattle.msr_base.specs.declared.storage.Storage.{Storage}
use Rattle.msr_base.specs.declared.storage.Storage.TheVariants.{Integers, Frames}
use Rattle.msr_base.specs.declared.storage.Version.TheVariants as version
use Rattle.msr_base.specs.declared.storage.Width.{Width}
use Rattle.msr_base.specs.declared.storage.Width.TheVariants.{Two, Three, Four}

-- how many bytes a number takes
abbrev pub size_of : Width → ℕ
size_of Two = 2
size_of Three = 3
size_of Four = 4

-- as integers of a width, or as frames of a version of Steim
abbrev pub storage_of : Kind → Storage
storage_of Int16 = Integers Two
storage_of Int24 = Integers Three
storage_of Int32 = Integers Four
storage_of Steim1 = Frames version.One
storage_of Steim2 = Frames version.Two
