pub mod Everywhere
pub mod Kind
