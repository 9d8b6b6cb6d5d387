pub mod Linear
pub mod Signs
pub mod Clamp
pub mod Sums
pub mod Folds
