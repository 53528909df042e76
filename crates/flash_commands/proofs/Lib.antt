pub mod Cuts
pub mod Fronts
pub mod Going
pub mod Taking
pub mod Rests
mod Blocks
mod Asking
