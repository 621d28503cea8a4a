-- What two tables of one text have in common.
pub mod OneFraction
pub mod Tables
