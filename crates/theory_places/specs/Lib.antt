pub mod Places
pub mod Valuations
pub mod PlaceLaws
pub mod FractionPlaces
pub mod Quaternions
