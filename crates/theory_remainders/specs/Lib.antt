pub mod Irreducible
pub mod RemainderOps
pub mod RemainderLaws
pub mod RemainderStatements
