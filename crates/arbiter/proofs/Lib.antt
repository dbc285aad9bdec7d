pub mod Halves
pub mod Winners
