pub mod Fits
pub mod Shown
mod PlaceTexts
mod LineTexts
mod SpacedWords
mod LineParts
mod CanonicalWords
mod Orders
mod ReadLines
mod Prefixes
mod RightLines
mod SameEvidence
pub mod TextLaws
mod Spellings
pub mod SameFractions
mod Readers
