pub mod TraceIdeal
pub mod Guess
pub mod Line
pub mod Shown
