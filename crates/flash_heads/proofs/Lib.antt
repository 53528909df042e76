pub mod Entering
pub mod Going
pub mod Hiding
pub mod Keeping
pub mod Lives
pub mod Moving
pub mod Ruling
pub mod Stepping
