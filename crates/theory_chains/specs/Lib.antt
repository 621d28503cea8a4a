pub mod Radical
pub mod NumberRows
pub mod Members
pub mod ElementLifts
pub mod PivotItems
