pub mod Exactly
pub mod Scripts
pub mod States
pub mod Cases
