pub mod Sets
pub mod LowestLevels
pub mod Race
pub mod ChipLaws
pub mod Made
