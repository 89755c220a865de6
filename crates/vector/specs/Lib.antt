pub mod Vectors
pub mod Taken
