pub mod Bytes
pub mod Crc32c
