pub mod EntriesFound
pub mod ExactLemmas
pub mod Judged
pub mod NamedLemmas
pub mod OpeningLemmas
pub mod Repacks
pub mod TellingThere
pub mod VisitedLemmas
