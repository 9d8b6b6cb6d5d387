pub mod Exact
pub mod Formulas
