pub mod Bits
pub mod Signs
pub mod Spread
pub mod ExactWords
pub mod ExactParts
pub mod Pinned
