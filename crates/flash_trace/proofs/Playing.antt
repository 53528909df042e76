pub mod SeatLists
pub mod Turns
pub mod Played
