pub mod CalendarLemmas
pub mod Existing
pub mod NominalLemmas
pub mod RateLemmas
pub mod SignedFacts
pub mod TimeLemmas
