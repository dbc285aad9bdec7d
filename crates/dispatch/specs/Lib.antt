pub mod Tables
pub mod Snapshots
pub mod Replies
pub mod Claims
pub mod Printing
