pub mod Holiday
pub mod Year
