pub mod Figures
pub mod Answered
