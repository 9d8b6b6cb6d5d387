pub mod Changing
pub mod Counting
pub mod Dating
pub mod Reaching
pub mod Settling
pub mod Varying
pub mod Cleared
