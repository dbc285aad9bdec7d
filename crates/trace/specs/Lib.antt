pub mod Maps
pub mod Reading
pub mod Decoding
pub mod Writing
pub mod Inverse
pub mod Whole
pub mod Printing
