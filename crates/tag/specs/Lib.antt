pub mod KeyVector
pub mod Vector
pub mod PrivateKeyStream
