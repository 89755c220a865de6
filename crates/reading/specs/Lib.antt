pub mod PrivateRows
