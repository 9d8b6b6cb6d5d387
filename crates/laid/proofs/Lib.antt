pub mod Dates
pub mod Laying
pub mod Dealing
