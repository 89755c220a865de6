pub mod PrivateSets
