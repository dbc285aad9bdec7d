mod Tables
mod Held
