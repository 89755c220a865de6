pub mod ChaChaLaws
pub mod DrawLaws
pub mod FillLaws
