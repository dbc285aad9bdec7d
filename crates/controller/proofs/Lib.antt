pub mod Marks
pub mod Stacks
pub mod Asking
pub mod Refused
pub mod Keeping
pub mod RuleLaws
