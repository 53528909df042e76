pub mod Passing
pub mod Stepping
pub mod Keeping
pub mod Timing
pub mod Headline
pub mod Serving
pub mod Laws
