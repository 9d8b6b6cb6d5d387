pub mod Effect
pub mod Days
pub mod Span
pub mod Rates
