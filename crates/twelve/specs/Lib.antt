pub mod Parts
pub mod Listed
pub mod Largest
