pub mod Reading
pub mod Naming
pub mod Numbered
pub mod Changed
pub mod Taken
pub mod Named
pub mod Handed
pub mod Lined
