pub mod Ideal
pub mod Steps
pub mod Reduction
pub mod ReducedForm
pub mod Division
