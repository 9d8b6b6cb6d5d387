pub mod Answering
pub mod Fronts
