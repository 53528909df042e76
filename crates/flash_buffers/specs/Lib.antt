pub mod Block
pub mod BufferTable
pub mod Calls
pub mod Covering
pub mod Law
pub mod Records
pub mod Sound
