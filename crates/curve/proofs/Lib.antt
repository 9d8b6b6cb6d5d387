pub mod Narrow
pub mod Planning
pub mod Curving
