pub mod Answered
pub mod Bytes
mod Found
pub mod Offsets
pub mod Order
mod Written
