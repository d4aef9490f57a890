pub mod LinesKnown
