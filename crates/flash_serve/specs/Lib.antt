pub mod Numbers
pub mod Making
pub mod Output
pub mod Ready
pub mod Serving
pub mod Words
