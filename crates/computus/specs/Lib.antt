pub mod Easter
