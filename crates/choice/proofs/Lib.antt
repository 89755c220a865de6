pub mod ReducedLaws
pub mod GatherLaws
pub mod ChoiceLaws
pub mod WholeLaws
pub mod MarkLaws
