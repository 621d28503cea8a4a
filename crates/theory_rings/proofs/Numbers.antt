-- Numbers: divisors, primes, remainders, digits.
pub mod Divisibility
pub mod ClosedSets
pub mod Primes
pub mod Pigeonhole
pub mod Digits
pub mod IntegersMod
pub mod Fermat
