pub mod TagLaws
pub mod StreamLaws
pub mod VectorAnswerLaws
