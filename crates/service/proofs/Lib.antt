pub mod Moves
pub mod Kept
mod Balancing
mod Preceding
mod Twins
pub mod Abreast
pub mod Service
