pub mod GatherLaws
pub mod RowsLaws
