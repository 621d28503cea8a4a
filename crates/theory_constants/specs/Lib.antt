pub mod Scaled
pub mod ScalingLaws
pub mod Residues
pub mod Nucleus
pub mod Subfield
pub mod Systems
pub mod Generated
