pub mod TupleLattices
pub mod Bases
pub mod BasisLaws
pub mod Joined
pub mod StartOrders
pub mod Grams
