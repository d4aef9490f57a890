pub mod Divisions
pub mod DivisionLaws
pub mod Existence
pub mod Histories
pub mod KeyLemmas
pub mod SpanLemmas
pub mod StepLaws
pub mod UnequalLemmas
