pub mod CheckLaws
pub mod RowLaws
pub mod WantedLaws
pub mod SoughtLaws
pub mod ChosenLaws
pub mod AnswerLaws
