pub mod Masks
pub mod Tables
pub mod Newest
pub mod Changes
pub mod Least
pub mod Readiness
pub mod Calls
pub mod Making
