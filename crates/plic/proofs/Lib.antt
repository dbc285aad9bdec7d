pub mod Race
pub mod Packing
pub mod Reading
pub mod ChipLaws
pub mod Offsets
