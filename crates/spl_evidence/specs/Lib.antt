pub mod Line
pub mod Evidence
pub mod Refusal
pub mod Reading
pub mod Claim
pub mod Shown
