-- A common basis of a finite and an infinite lattice, and their intersection.
pub mod CommonBases
pub mod CommonBasisExists
pub mod Intersections
pub mod RationalBases
pub mod RationalMembers
pub mod FractionsOfPolynomials
