pub mod Extent
pub mod Elements
pub mod Regular
pub mod Parts
