pub mod Accounts
pub mod Arguments
pub mod Lines
