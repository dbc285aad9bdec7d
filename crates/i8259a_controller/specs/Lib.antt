pub mod Told
pub mod Steps
pub mod Members
pub mod Levels
pub mod Lawful
