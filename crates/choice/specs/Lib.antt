pub mod PrivateReduced
pub mod PrivateStanding
pub mod PrivateMarks
pub mod PrivateChoice
