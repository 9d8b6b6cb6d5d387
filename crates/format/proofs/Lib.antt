-- Read Theorems first: the laws of the format. Walks are for the code that reads records.
pub mod Sound
pub mod Walks
pub mod Verdict
pub mod InRange
pub mod WellFormed
pub mod Theorems
pub mod Example
pub mod Every
