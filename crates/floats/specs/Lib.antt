-- The definitions that the contracts cite.
pub mod Rounding
pub mod Figures
