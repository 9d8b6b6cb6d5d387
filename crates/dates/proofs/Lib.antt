pub mod Counts
pub mod Laws
pub mod Cases
pub mod Pinned
