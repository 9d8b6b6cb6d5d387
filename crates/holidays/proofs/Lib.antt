pub mod Ranges
pub mod Years
pub mod Pinned
