pub mod Project
