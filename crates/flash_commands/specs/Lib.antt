pub mod Parts
pub mod Meanings
pub mod Commands
pub mod Reading
pub mod Laws
pub mod Asks
pub mod AskLaws
