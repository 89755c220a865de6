pub mod Challenge
pub mod Response
pub mod Unmask
pub mod Laws
