pub mod Talks
pub mod Lookups
pub mod States
pub mod Stands
pub mod Pieces
pub mod Todos
pub mod Laws
pub mod PieceLaws
