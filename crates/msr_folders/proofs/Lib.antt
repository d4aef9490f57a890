pub mod AddLemmas
pub mod EntryLemmas
pub mod FirstNameLemmas
pub mod FolderLemmas
pub mod ReadingLemmas
pub mod RowLemmas
pub mod StoppingLemmas
pub mod VisitLemmas
pub mod WalkedLemmas
pub mod WalkLemmas
pub mod WithinLemmas
mod Counting
mod Lines
mod OnDays
