mod Talking
mod Reading
mod Answering
mod Feeding
mod Asking
mod Uniform
mod Resting
mod ReadingOn
mod Lookups
pub mod Pieces
pub mod HoldingPieces
