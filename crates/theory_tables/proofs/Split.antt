-- Split algebras and ramified places.
pub mod Splittings
pub mod SplitCentralSimple
pub mod SplitClaims
pub mod CarriedTables
pub mod Ramified
pub mod Examples
