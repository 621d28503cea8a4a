pub mod Trimming
pub mod LongSteps
pub mod Writes
pub mod PowerRemainders
pub mod Results
pub mod Orders
