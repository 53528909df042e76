pub mod Item
pub mod ItemsState
pub mod Codes
pub mod Calls
pub mod Law
pub mod History
pub mod Joined
