-- What the proofs of the laws stand on. The definitions stand beside this file.
pub mod LeastCounts
pub mod Ends
pub mod SteimLaws
pub mod KindLaws
