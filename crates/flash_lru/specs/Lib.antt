pub mod Card
pub mod Lists
pub mod Moves
pub mod Ends
pub mod Juggle
pub mod Law
pub mod Ring
