pub mod ChaCha
pub mod Block
pub mod Draws
pub mod PrivateStream
