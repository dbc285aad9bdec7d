mod Firsts
mod Performed
mod Dispatched
mod Named
mod Sources
mod Sizes
