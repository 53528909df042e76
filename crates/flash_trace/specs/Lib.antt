pub mod CommandLine
pub mod Ends
pub mod Outside
pub mod Output
pub mod Seats
