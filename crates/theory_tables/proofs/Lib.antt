pub mod Rows
pub mod Algebras
pub mod Split
