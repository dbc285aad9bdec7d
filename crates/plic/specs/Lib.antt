pub mod Gateways
pub mod Chip
pub mod Words
pub mod Registers
pub mod Access
pub mod Laws
