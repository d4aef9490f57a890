pub mod Lines
pub mod Runs
pub mod Parts
pub mod ComparingStates
pub mod StoppedReading
pub mod BesideInputs
