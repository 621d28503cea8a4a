pub mod Factorisation
pub mod Steps
