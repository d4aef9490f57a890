pub mod DigitValues
pub mod FaultLemmas
pub mod IteratorLemmas
pub mod RecordLengths
pub mod KindLemmas
