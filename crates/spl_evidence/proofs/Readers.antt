-- What a reader of evidence reads, line by line.
pub mod Passing
pub mod LineTerms
pub mod LineSteps
pub mod PlaceTerms
pub mod Standing
pub mod TupleLoop
pub mod SplitLoops
pub mod Multipliers
pub mod SideLoop
pub mod Kinds
pub mod Whole
