pub mod Left
pub mod LineCuts
mod Pieces
