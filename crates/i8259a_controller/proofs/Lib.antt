pub mod Signals
pub mod Calls
pub mod Fresh
