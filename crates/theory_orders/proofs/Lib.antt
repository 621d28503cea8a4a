pub mod LeftOrderOver
pub mod SomeMaximal
pub mod EverySet
pub mod Lattices
pub mod LeftOrder
pub mod Ideals
pub mod Splitting
