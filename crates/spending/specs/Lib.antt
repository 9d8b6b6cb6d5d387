pub mod Priced
pub mod Chained
pub mod Charged
pub mod Asking
pub mod Budgeted
pub mod Grained
