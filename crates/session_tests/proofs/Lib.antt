pub mod MemoryLemmas
pub mod Trees
