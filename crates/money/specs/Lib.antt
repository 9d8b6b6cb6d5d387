pub mod Words
pub mod Scale
pub mod Shares
pub mod Costs
pub mod Exact
