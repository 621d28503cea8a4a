pub mod FieldByDigits
pub mod Tables
pub mod TableField
pub mod SmallField
pub mod Laws
