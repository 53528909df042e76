pub mod Lookups
pub mod Passing
pub mod KeyCards
pub mod KeySizes
pub mod LoadLemmas
pub mod ListLaws
mod SeenMaps
mod SeenItems
mod SeenPlaces
mod SeenCards
mod SeenEnds
mod SeenJuggle
mod LastPassing
mod Walks
mod MarkWalks
mod Marked
mod MarkCalls
mod SeenMoves
mod InStep
mod Lengths
mod Closings
