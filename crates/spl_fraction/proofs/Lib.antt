pub mod Leads
pub mod PlaceOrders
pub mod CanonicalTexts
pub mod FractionsSame
pub mod Generators
pub mod Multiplicities
pub mod Swaps
