pub mod Winning
pub mod Matches
