-- The two-sided rank.
pub mod TwoSidedBases
pub mod TwoSidedFamilies
pub mod TwoSidedMaps
pub mod TwoSidedRank
pub mod TwoSidedRows
