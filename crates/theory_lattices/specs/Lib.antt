pub mod Degree
pub mod ReducedRows
pub mod CommonBasis
pub mod Members
pub mod SelfDual
pub mod RationalFunctions
