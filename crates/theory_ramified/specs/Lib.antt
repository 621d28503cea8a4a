pub mod Conditions
pub mod ConditionLaws
pub mod RowConditions
pub mod InfinityConditions
pub mod MemberConditions
