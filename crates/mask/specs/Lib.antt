pub mod Masks
pub mod Setup
pub mod Laws
pub mod PrivateSpaced
