pub mod BlockTable
pub mod Calls
pub mod Held
pub mod InOrder
pub mod Laws
pub mod Puts
pub mod Rooms
pub mod Sound
