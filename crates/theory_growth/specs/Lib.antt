pub mod Steps
pub mod Settled
pub mod Growths
pub mod MaximalIdeals
pub mod RamifiedRows
