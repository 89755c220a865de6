pub mod SizeLaws
pub mod PlaceLaws
