pub mod Refusals
pub mod Answers
pub mod Meaning
pub mod Rules
pub mod Telling
pub mod Laws
