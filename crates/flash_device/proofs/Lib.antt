mod Halves
pub mod Places
