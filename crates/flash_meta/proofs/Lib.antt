mod FlagRanges
mod KeyLemmas
mod Letters
mod MetaRead
mod Order
