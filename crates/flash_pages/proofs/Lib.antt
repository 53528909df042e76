pub mod EndedLemmas
pub mod FreeableLemmas
pub mod LawLemmas
pub mod LeastLemmas
pub mod VictimLemmas
