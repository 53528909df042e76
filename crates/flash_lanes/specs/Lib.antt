pub mod KeyBytes
pub mod Tags
