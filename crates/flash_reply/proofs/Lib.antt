mod Lookups
mod Queue
mod WholeLines
