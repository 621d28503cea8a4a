pub mod Chains
pub mod NumberRows
pub mod LiftedRoots
pub mod PivotTuples
pub mod DividedNumbers
