-- Left orders, and where they stop to grow.
pub mod LeftOrders
pub mod LeftOrderLattice
pub mod HereditaryOrders
pub mod Settled
pub mod MaximalOrders
pub mod Lengths
