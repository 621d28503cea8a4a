-- Powers and multiples of an element, the binomial theorem, the Frobenius map.
pub mod Powers
pub mod Times
pub mod Binomial
pub mod FrobeniusMap
