mod CarriageReturns
mod Causes
mod Ends
pub mod KeySpans
mod LinesRead
pub mod Ranges
mod Seconds
mod WordLemmas
