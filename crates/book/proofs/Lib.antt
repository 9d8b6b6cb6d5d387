pub mod Whole
pub mod Plan
