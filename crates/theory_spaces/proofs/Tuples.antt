-- Tuples and their products by structure constants.
pub mod Tuples
pub mod TupleProducts
pub mod Tables
