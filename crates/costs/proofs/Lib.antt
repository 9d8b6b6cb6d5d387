pub mod Charged
pub mod Owned
pub mod Answering
