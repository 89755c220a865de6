pub mod Field
pub mod PrivateTables
pub mod Laws
