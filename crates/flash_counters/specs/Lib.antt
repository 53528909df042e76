pub mod Counters
pub mod CountersGoOn
