pub mod Scaling
pub mod Residues
pub mod Nucleus
pub mod Subfield
pub mod Systems
pub mod Generation
