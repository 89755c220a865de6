pub mod VectorLaws
pub mod AddedLaws
pub mod SpanLaws
pub mod VanishingLaws
pub mod TakenLaws
pub mod SliceLaws
