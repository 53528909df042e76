pub mod Others
pub mod Deleted
pub mod Counted
pub mod Touched
pub mod Flushed
pub mod Refused
pub mod Numbered
