pub mod Charges
pub mod Arguments
