pub mod ProveLaws
pub mod ResponseLaws
