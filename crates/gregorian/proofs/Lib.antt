pub mod Below
pub mod Leap
pub mod Laws
pub mod Era
pub mod MarchYear
pub mod Between
pub mod Counts
pub mod Pinned
