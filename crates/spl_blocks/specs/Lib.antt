pub mod Blocks
pub mod Fixed
pub mod Splits
pub mod Classes
pub mod Ranks
