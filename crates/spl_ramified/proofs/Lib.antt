pub mod Faults
pub mod FirstFaults
pub mod OrderConditions
pub mod ImageConditions
pub mod MaximalIdeals
pub mod InfiniteFaults
