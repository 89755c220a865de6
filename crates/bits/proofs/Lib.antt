pub mod NumberLaws
pub mod PackLaws
pub mod AppendLaws
pub mod WriteLaws
