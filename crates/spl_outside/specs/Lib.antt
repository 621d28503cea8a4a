pub mod Faults
pub mod Room
pub mod Prefix
pub mod Steady
pub mod Memory
pub mod Streams
