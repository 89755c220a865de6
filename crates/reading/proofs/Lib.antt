pub mod PlaceRowLaws
pub mod SolvingLaws
pub mod ReadingLaws
pub mod FileLaws
