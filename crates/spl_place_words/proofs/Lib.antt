pub mod SemisimpleAlgebras
pub mod PowerSteps
pub mod PlaceIdeals
pub mod IntegralFractions
