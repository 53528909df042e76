pub mod Flags
pub mod FlagReading
pub mod Keys
pub mod MetaLaws
pub mod MetaLines
pub mod MetaParts
pub mod MetaSaid
