pub mod Cells
pub mod Tables
pub mod Sets
pub mod Written
pub mod Mapped
pub mod Spans
