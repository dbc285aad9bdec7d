pub mod Bits
pub mod Chip
pub mod Signal
pub mod Writing
pub mod Laws
