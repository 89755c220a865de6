pub mod PrivatePlan
