-- The lines of evidence that fits are right, and nothing is due behind them.
pub mod DueWords
pub mod ElementWords
pub mod TupleLines
pub mod MultiplierLines
pub mod MatrixLines
pub mod EvidenceLines
