pub mod TableSets
pub mod TableLattices
pub mod Conditions
pub mod PreimageRows
pub mod RowConditions
pub mod InfinityConditions
pub mod Members
pub mod MemberConditions
