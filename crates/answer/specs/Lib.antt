pub mod Answer
pub mod Numbers
pub mod Refusals
pub mod Counted
