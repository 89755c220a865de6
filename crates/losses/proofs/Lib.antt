pub mod SetLaws
pub mod RemainLaws
pub mod ListLaws
