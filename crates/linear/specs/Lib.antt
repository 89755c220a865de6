pub mod PrivateRows
pub mod PrivateElimination
pub mod PrivateSteps
