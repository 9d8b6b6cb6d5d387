pub mod Week
pub mod Date
