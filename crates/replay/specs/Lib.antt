pub mod Acting
pub mod Logging
pub mod Replaying
pub mod Coming
pub mod Laws
pub mod Printing
