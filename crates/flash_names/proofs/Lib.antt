mod Cuts
mod Digits
mod Readings
mod Rules
pub mod Stories
mod Taken
