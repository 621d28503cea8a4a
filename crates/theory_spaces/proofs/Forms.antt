-- Traces and bilinear forms.
pub mod Forms
pub mod MapTraces
pub mod ProductTraces
pub mod Traces
pub mod TraceForms
