pub mod JudgeLaws
pub mod VerdictLaws
