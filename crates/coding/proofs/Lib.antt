pub mod CombinedLaws
pub mod EncodeLaws
pub mod RepairLaws
