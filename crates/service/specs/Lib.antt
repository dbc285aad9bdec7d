pub mod Nests
pub mod Calls
pub mod Steps
pub mod Runs
pub mod Counts
pub mod Law
