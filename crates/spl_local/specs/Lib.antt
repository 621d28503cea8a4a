pub mod PulledBack
pub mod Growth
pub mod Everywhere
