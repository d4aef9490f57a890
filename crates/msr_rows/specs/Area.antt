-- What the data area of a record carries, by how it stores its samples.
use Rattle.std.specs.Prelude.{◌<◌, ℕ, ◌*◌, ℤ, List, length}
use Rattle.msr_base.specs.declared.order.Order.{Order}
use Rattle.msr_base.specs.Storage.{size_of}
use Rattle.msr_plain.specs.Plain.{CarriesPlain}
use Rattle.msr_steim.specs.Area.{CarriesSteim, ReverseAgrees as FramesAgree, EndsBefore, IsUndefinedBefore}
use Rattle.msr_base.specs.declared.storage.Storage.{Storage}
use Rattle.msr_base.specs.declared.storage.Storage.TheVariants.{Integers, Frames}
use Rattle.msr_rows.specs.declared.fault.FaultKind.{FaultKind}
use Rattle.msr_rows.specs.declared.fault.FaultKind.TheVariants.{DataShort, BadCode}

-- the area carries these samples
abbrev pub Carries : Storage → Order → List ℕ → List ℤ → Type 0
Carries (Integers width) order area samples = CarriesPlain width order area samples
Carries (Frames version) order area samples = CarriesSteim version order area samples

-- why the area does not carry `count` samples: it ends before the last one, or an undefined word comes first
abbrev pub AreaHasFault : Storage → Order → List ℕ → ℕ → FaultKind → Type 0
AreaHasFault (Integers width) order area count DataShort = length area < size_of width * count
AreaHasFault (Frames version) order area count DataShort = EndsBefore version order area count
AreaHasFault (Frames version) order area count (BadCode word) = IsUndefinedBefore version order area count word
AreaHasFault storage order area count _ = ⊥

-- the last sample is the reverse constant; integers have none
abbrev pub ReverseAgreesIfAny : Storage → Order → List ℕ → List ℤ → Type 0
ReverseAgreesIfAny (Integers width) order area samples = Unit {0}
ReverseAgreesIfAny (Frames version) order area samples = FramesAgree order area samples
