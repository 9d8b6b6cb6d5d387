pub mod Done
pub mod Measured
pub mod Units
