pub mod Put
pub mod Finite
pub mod Rowed
