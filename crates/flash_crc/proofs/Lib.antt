pub mod Bounds
pub mod Bytes
mod Entries
pub mod Linear
pub mod Pieces
