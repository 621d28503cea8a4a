pub mod Carried
pub mod Reductions
