pub mod Classes
pub mod Lent
pub mod Names
pub mod Room
pub mod Seen
