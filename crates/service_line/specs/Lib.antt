pub mod Hex
pub mod Formats
pub mod Lines
pub mod Parts
pub mod Frames
pub mod Reading
pub mod Fronts
