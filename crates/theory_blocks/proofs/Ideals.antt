-- The centre, ideals with central units, maximal ideals.
pub mod Centres
pub mod CentralIdempotents
pub mod Annihilation
pub mod LeftUnits
pub mod Semiprime
pub mod MaximalIdeals
pub mod MaximalIdealsFinite
