pub mod Searching
pub mod Points
pub mod Adding
pub mod Spanned
pub mod Windows
pub mod Largest
