mod Making
mod Puts
mod Turning
mod Rooms
mod Looping
mod Naming
mod Running
mod Covering
mod Both
pub mod Faith
