pub mod MaskLaws
pub mod MaskRowLaws
pub mod SpacedLaws
pub mod SetupLaws
